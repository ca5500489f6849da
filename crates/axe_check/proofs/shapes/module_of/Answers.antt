use Rattle.std.proofs.Common.{refl, sym, subst}
use Rattle.std.specs.List.{All}
use Rattle.std.proofs.lemmas.List.Elements.{All-push}
use Rattle.axe_matrix.specs.Matrices.{IsMatrix}
use Rattle.axe_spin.proofs.ModuleLaws.{copies_more, copies_all}
use Rattle.axe_check.proofs.ShapeLaws.{module_is_made}
use Rattle.axe_check.proofs.shapes.module_of.Goals as goal

pub loop-matrix-preserved : goal.loop-matrix-preserved
loop-matrix-preserved c = record {
  copied =
      copies_more c.args.matrices.now c.args.matrices.now c.loop-matrix.copies.items c.push.new.self.items c.loop-matrix.matrix-index c.matrix-item.result
      c.in_ok-copy.copy refl c.loop-matrix.invariant.copied c.loop-matrix-test.true c.matrix-item.is c.in_ok-copy.ensures.copied c.in_ok-push.ensures.items;
  formed =
      subst (All IsMatrix) (sym c.in_ok-push.ensures.items)
      (All-push IsMatrix c.loop-matrix.copies.items c.in_ok-copy.copy c.loop-matrix.invariant.formed c.in_ok-copy.ensures.well_formed);
}

pub returns-clause-made : goal.returns-clause-made
returns-clause-made c =
    module_is_made c.args.module.now c.args.dim c.args.matrices.now c.loop-matrix.copies.items c.new.result c.gens.ensures.well_formed c.requires.shape
    (copies_all c.args.matrices.now c.args.matrices.now c.loop-matrix.copies.items c.loop-matrix.matrix-index refl c.loop-matrix.invariant.copied
    c.loop-matrix-test.false)
    c.loop-matrix.invariant.formed c.new.ensures.made
