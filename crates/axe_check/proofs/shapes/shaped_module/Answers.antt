use Rattle.std.proofs.Common.{refl, sym, subst}
use Rattle.axe_check.specs.Certificates.{HasShape}
use Rattle.axe_check.proofs.BlockEntries.{not_both}
use Rattle.axe_check.proofs.shapes.shaped_module.Goals as goal

pub returns-then-not-has_shape-clause-shaped : goal.returns-then-not-has_shape-clause-shaped
returns-then-not-has_shape-clause-shaped c = record {
  name = c.in_ok-name_of.field-0;
  is = refl;
  named = c.in_ok-name_of.ensures;
  wrong = λ shape. not_both c.has_shape.result c.if-not-has_shape.true
      (c.has_shape.ensures.1 (subst (λ dim. HasShape c.args.module.now dim c.args.matrices.now) (sym c.dim.ensures) shape));
}
