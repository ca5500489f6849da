use Rattle.std.proofs.Common.{◌<◌, ◌≤◌, length, ◌∙◌, arith}
use Rattle.axe_matrix.proofs.DirectRows.{row_of_product}
use Rattle.axe_matrix.proofs.ProductRows.{rows_with_terms-listed, matrix_with_all_terms}
use Rattle.axe_matrix.proofs.RewrittenRows.{IsRewrittenBelow-none, IsRewrittenBelow-more, IsRewrittenBelow-all}
use Rattle.axe_matrix.proofs.Matrix.add_directly.Goals as goal

pub loop-index-init : goal.loop-index-init
loop-index-init c = IsRewrittenBelow-none _ _ c.rows-index-end.ensures.well_formed

pub loop-index-preserved : goal.loop-index-preserved
loop-index-preserved c =
    let invariant = c.loop-index.invariant in
    let inside : c.loop-index.index < length c.args.self.now.rows = omega (arith, c.loop-index-test.true, c.rows-index-end.ensures.count) in
    let row = row_of_product c.args.self.now c.args.a.now c.args.b.now c.loop-index.self c.loop-index.index c.args.scalar c.row.result.now invariant.field c.requires.columns_fit
    (invariant.kept c.loop-index.index (omega arith)) c.row.ensures.value in
    IsRewrittenBelow-more _ _ _ _ _ _ invariant inside row c.add_product_to_row.ensures.sum c.add_product_to_row.ensures.well_formed

pub returns-clause-sum : goal.returns-clause-sum
returns-clause-sum c =
    let all : length c.args.self.now.rows ≤ c.loop-index.index = omega (arith, c.rows-index-end.ensures.count, c.loop-index-test.false) in
    IsRewrittenBelow-all _ _ _ _ c.loop-index.invariant all
    ∙ rows_with_terms-listed c.args.self.now c.args.scalar c.args.a.now c.args.b.now 0 (length c.args.b.now.rows)
    ∙ matrix_with_all_terms c.args.self.now c.args.scalar c.args.a.now c.args.b.now (length c.args.b.now.rows)
    c.cols.ensures.well_formed c.rows.ensures.well_formed c.requires.a_field c.requires.b_field c.requires.rows_fit (omega arith)
