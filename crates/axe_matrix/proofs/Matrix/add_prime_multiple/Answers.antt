use Rattle.std.proofs.Common.{◌<◌, ◌≤◌, length, ap, ◌∙◌, arith}
use Rattle.axe_row.specs.Rows.{RowValue}
use Rattle.axe_matrix.proofs.MultipleLaws.{sum_row-kept, matrix_with_multiple-rows}
use Rattle.axe_matrix.proofs.RewrittenRows.{IsRewrittenBelow-none, IsRewrittenBelow-more, IsRewrittenBelow-all}
use Rattle.axe_matrix.proofs.Matrix.add_prime_multiple.Goals as goal

pub loop-index-init : goal.loop-index-init
loop-index-init c = IsRewrittenBelow-none _ _ c.rows-index-end.ensures.well_formed

pub loop-index-preserved : goal.loop-index-preserved
loop-index-preserved c =
    let invariant = c.loop-index.invariant in
    let inside : c.loop-index.index < length c.args.self.now.rows =
    omega (arith, c.loop-index-test.true, c.rows-index-end.ensures.count) in
    let row = sum_row-kept c.args.self.now c.args.scalar c.args.other.now c.loop-index.self c.loop-index.index
    c.row.result.now.entries invariant.field (invariant.kept c.loop-index.index (omega arith))
    (ap (λ (r : RowValue). r.entries) c.row.ensures.value) in
    IsRewrittenBelow-more _ _ _ _ _ _ invariant inside row c.add_prime_multiple_to_row.ensures.sum
    c.add_prime_multiple_to_row.ensures.well_formed

pub returns-clause-sum : goal.returns-clause-sum
returns-clause-sum c =
    let all : length c.args.self.now.rows ≤ c.loop-index.index =
    omega (arith, c.rows-index-end.ensures.count, c.loop-index-test.false) in
    IsRewrittenBelow-all _ _ _ _ c.loop-index.invariant all
    ∙ matrix_with_multiple-rows c.args.self.now c.args.scalar c.args.other.now c.rows-index-end.ensures.well_formed
