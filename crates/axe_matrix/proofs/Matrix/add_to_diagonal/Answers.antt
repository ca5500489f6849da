use Rattle.std.proofs.Common.{◌<◌, ◌≤◌, length, ◌∙◌, arith}
use Rattle.axe_matrix.proofs.DiagonalLaws.{diagonal_row-kept, matrix_with_diagonal-rows}
use Rattle.axe_matrix.proofs.RewrittenRows.{IsRewrittenBelow-none, IsRewrittenBelow-more, IsRewrittenBelow-all}
use Rattle.axe_matrix.proofs.Matrix.add_to_diagonal.Goals as goal

pub loop-index-init : goal.loop-index-init
loop-index-init c = IsRewrittenBelow-none _ _ c.rows-index-end.ensures.well_formed

pub loop-index-preserved : goal.loop-index-preserved
loop-index-preserved c =
    let invariant = c.loop-index.invariant in
    let inside : c.loop-index.index < length c.args.self.now.rows = omega (arith, c.loop-index-test.true, c.rows-index-end.ensures.count) in
    let row = diagonal_row-kept c.args.self.now c.args.scalar c.loop-index.self c.loop-index.index c.field.result.now c.get.result c.add-sum.result
    invariant.field (invariant.kept c.loop-index.index (omega arith)) c.field.ensures.order c.get.ensures.value c.add-sum.ensures.value in
    IsRewrittenBelow-more _ _ _ _ _ _ invariant inside row c.put_entry.ensures.replaced c.put_entry.ensures.well_formed

pub returns-clause-sum : goal.returns-clause-sum
returns-clause-sum c =
    let all : length c.args.self.now.rows ≤ c.loop-index.index = omega (arith, c.rows-index-end.ensures.count, c.loop-index-test.false) in
    IsRewrittenBelow-all _ _ _ _ c.loop-index.invariant all
    ∙ matrix_with_diagonal-rows c.args.self.now c.args.scalar c.rows-index-end.ensures.well_formed c.requires.square c.requires.element
