use Rattle.std.proofs.Common.{◌≡◌, Bool, true, false, arith}
use Rattle.axe_algebra.specs.SpansOfLists.{IsPivot}
use Rattle.axe_field.specs.NumberFields.{number_field}
use Rattle.axe_echelon.proofs.FormLaws.{below_or_at}
use Rattle.axe_echelon.proofs.orthogonal_points.first_free_column.Goals as goal

not_both : (b : Bool) → b ≡ true → b ≡ false → ⊥
not_both b t f = cc

pub loop-column-init : goal.loop-column-init
loop-column-init c = λ j below. absurd (omega arith)

pub loop-column-preserved : goal.loop-column-preserved
loop-column-preserved c = λ j below.
    below_or_at (IsPivot (number_field c.args.space.now.order) c.args.space.now.rows) c.loop-column.column c.loop-column.invariant
    (c.is_pivot.ensures.0 c.if-not-is_pivot.false) j (omega arith)

pub returns-then-not-is_pivot : goal.returns-then-not-is_pivot
returns-then-not-is_pivot c = record {
  within = omega (arith, c.loop-column-test.true, c.cols-column-end.ensures.count);
  no_pivot = λ pivot. not_both c.is_pivot.result (c.is_pivot.ensures.1 pivot) c.if-not-is_pivot.true;
  before = c.loop-column.invariant;
}

pub returns : goal.returns
returns c = λ j inside. c.loop-column.invariant j (omega (arith, c.loop-column-test.false, c.cols-column-end.ensures.count))
