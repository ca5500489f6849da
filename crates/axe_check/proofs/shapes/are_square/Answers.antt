use Rattle.std.proofs.Common.{refl, sym, subst, ◌∙◌, take_all}
use Rattle.std.specs.List.{All}
use Rattle.std.proofs.lemmas.List.Elements.{All-more}
use Rattle.axe_matrix.proofs.MatrixLaws.{one_field}
use Rattle.axe_check.specs.Certificates.{IsSquareOfSize}
use Rattle.axe_check.proofs.shapes.are_square.Goals as goal

pub loop-matrix-preserved : goal.loop-matrix-preserved
loop-matrix-preserved c =
    All-more (IsSquareOfSize c.args.field.now c.args.dim) c.args.matrices.now c.loop-matrix.matrix-index c.matrix-item.result c.loop-matrix-test.true
    c.loop-matrix.invariant
    (subst (IsSquareOfSize c.args.field.now c.args.dim) c.matrix-item.is (record {
      field = one_field _ _ _ _ c.field.ensures.order c.if-ne.ensures refl;
      rows = sym c.rows.ensures.count ∙ c.if-rows-dim.false;
      columns = sym c.cols.ensures.count ∙ c.if-cols-dim.false;
    }))

pub returns : goal.returns
returns c = (
  λ is. subst (λ xs. All (IsSquareOfSize c.args.field.now c.args.dim) xs)
      (take_all c.loop-matrix.matrix-index c.args.matrices.now c.loop-matrix-test.false) c.loop-matrix.invariant,
  λ all. refl,
)
