use Rattle.std.proofs.Common.{◌<◌, length, ap, arith}
use Rattle.axe_row.specs.Rows.{RowValue}
use Rattle.axe_matrix.proofs.OnlyZeros.{some_nonzero, only_zeros_more}
use Rattle.axe_matrix.proofs.Matrix.has_only_zeros.Goals as goal
use mathlib.Core.Path.{sym}

pub returns-then-not-is_zero : goal.returns-then-not-is_zero
returns-then-not-is_zero c =
    let below : c.loop-index.index < length c.args.self.now.rows = omega (arith, c.loop-index-test.true, c.rows-index-end.ensures.count) in
    sym (some_nonzero c.args.self.now.rows c.loop-index.index c.row.result.now.entries c.is_zero.result below
    (ap (λ (r : RowValue). r.entries) c.row.ensures.value) c.is_zero.ensures.1 c.if-not-is_zero.true)

pub loop-index-preserved : goal.loop-index-preserved
loop-index-preserved c =
    let below : c.loop-index.index < length c.args.self.now.rows = omega (arith, c.loop-index-test.true, c.rows-index-end.ensures.count) in
    only_zeros_more c.args.self.now.rows c.loop-index.index c.row.result.now.entries below (ap (λ (r : RowValue). r.entries) c.row.ensures.value)
    c.loop-index.invariant (c.is_zero.ensures.0 c.if-not-is_zero.false)
