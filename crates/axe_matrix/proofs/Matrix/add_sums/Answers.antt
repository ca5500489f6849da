use Rattle.std.proofs.Common.{◌<◌, ◌≤◌, length, refl, sym, ap, ◌∙◌, arith}
use Rattle.axe_matrix.specs.Matrices.{MatrixValue}
use Rattle.axe_matrix.specs.Strips.{placed_columns}
use Rattle.axe_matrix.proofs.MultipleLaws.{sum_row-kept, matrix_with_multiple-rows}
use Rattle.axe_matrix.proofs.PlacedColumns.{placed-kept}
use Rattle.axe_matrix.proofs.RewrittenRows.{IsRewrittenBelow-none, IsRewrittenBelow-more, IsRewrittenBelow-all}
use Rattle.axe_matrix.proofs.Matrix.add_sums.Goals as goal

pub loop-index-init : goal.loop-index-init
loop-index-init c = record {
  rewritten = IsRewrittenBelow-none _ _ c.rows-index-end.ensures.well_formed;
  sums = refl;
}

pub add_sum_to_row-requires-clause-field : goal.add_sum_to_row-requires-clause-field
add_sum_to_row-requires-clause-field c =
    let invariant = c.loop-index.invariant in
    ap (λ (m : MatrixValue). m.order) invariant.sums ∙ c.requires.field ∙ sym invariant.rewritten.field

pub add_sum_to_row-requires-clause-rows_fit : goal.add_sum_to_row-requires-clause-rows_fit
add_sum_to_row-requires-clause-rows_fit c =
    let invariant = c.loop-index.invariant in
    ap (λ (m : MatrixValue). length m.rows) invariant.sums ∙ c.requires.rows_fit ∙ sym invariant.rewritten.count

pub add_sum_to_row-requires-clause-columns_within : goal.add_sum_to_row-requires-clause-columns_within
add_sum_to_row-requires-clause-columns_within c =
    let invariant = c.loop-index.invariant in
    omega (
      arith,
      c.requires.columns_within,
      ap (λ (m : MatrixValue). m.cols) invariant.sums,
      invariant.rewritten.columns,
    )

pub add_sum_to_row-requires-clause-index : goal.add_sum_to_row-requires-clause-index
add_sum_to_row-requires-clause-index c =
    omega (arith, c.loop-index-test.true, c.rows-index-end.ensures.count, c.loop-index.invariant.rewritten.count)

pub loop-index-preserved : goal.loop-index-preserved
loop-index-preserved c =
    let invariant = c.loop-index.invariant in
    let rewritten = invariant.rewritten in
    let inside : c.loop-index.index < length c.args.self.now.rows =
    omega (arith, c.loop-index-test.true, c.rows-index-end.ensures.count) in
    let row = sum_row-kept c.args.self.now 1 (placed_columns c.args.self.now.cols c.args.start c.args.sums.now)
    c.loop-index.self
    c.loop-index.index _ rewritten.field (rewritten.kept c.loop-index.index (omega arith))
    (placed-kept c.loop-index.self.cols c.args.self.now.cols c.args.start c.loop-index.sums c.args.sums.now
    c.loop-index.index
    rewritten.columns invariant.sums (omega (arith, inside, c.requires.rows_fit))) in
    record {
      rewritten =
          IsRewrittenBelow-more _ _ _ _ _ _ rewritten inside row c.add_sum_to_row.ensures.sum
          c.add_sum_to_row.ensures.well_formed;
      sums = c.add_sum_to_row.ensures.kept ∙ invariant.sums;
    }

pub returns-clause-sum : goal.returns-clause-sum
returns-clause-sum c =
    let all : length c.args.self.now.rows ≤ c.loop-index.index =
    omega (arith, c.rows-index-end.ensures.count, c.loop-index-test.false) in
    IsRewrittenBelow-all _ _ _ _ c.loop-index.invariant.rewritten all
    ∙ matrix_with_multiple-rows c.args.self.now 1 (placed_columns c.args.self.now.cols c.args.start c.args.sums.now)
    c.rows-index-end.ensures.well_formed

pub returns-clause-well_formed : goal.returns-clause-well_formed
returns-clause-well_formed c = c.loop-index.invariant.rewritten.well_formed
