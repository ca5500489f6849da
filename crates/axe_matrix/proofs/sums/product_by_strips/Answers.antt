use Rattle.std.proofs.Common.{◌≤◌, ◌+◌, sym, ◌∙◌, subst, arith}
use Rattle.axe_row.specs.Combinations.{most_combined}
use Rattle.axe_row.specs.Sums.{HasSums}
use Rattle.axe_matrix.specs.Matrices.{matrix_product}
use Rattle.axe_matrix.proofs.PlacedColumns.{HasFirstColumns-none, HasFirstColumns-more, HasFirstColumns-all, columns_of_product}
use Rattle.axe_matrix.proofs.ProductLaws.{length-product, IsMatrix-product}
use Rattle.axe_matrix.proofs.sums.product_by_strips.Goals as goal

pub loop-start-init : goal.loop-start-init
loop-start-init c = record {
  fits = omega arith;
  so_far =
      HasFirstColumns-none _ _ _ (matrix_product c.args.a.now c.args.b.now) _ c.in_ok-product.ensures.zeros
      c.in_ok-product.ensures.well_formed
      c.field.ensures.order (c.rows.ensures.count
      ∙ sym (length-product _ _ c.args.a.now.rows c.args.b.now.rows)) c.cols.ensures.count;
}

pub add_strip-requires-clause-sums : goal.add_strip-requires-clause-sums
add_strip-requires-clause-sums c = subst HasSums (sym c.loop-start.invariant.so_far.field) c.requires.sums

pub add_strip-requires-clause-a_field : goal.add_strip-requires-clause-a_field
add_strip-requires-clause-a_field c = sym c.loop-start.invariant.so_far.field

pub add_strip-requires-clause-b_field : goal.add_strip-requires-clause-b_field
add_strip-requires-clause-b_field c = c.requires.field ∙ sym c.loop-start.invariant.so_far.field

pub add_strip-requires-clause-rows_fit : goal.add_strip-requires-clause-rows_fit
add_strip-requires-clause-rows_fit c =
    sym (c.loop-start.invariant.so_far.count ∙ length-product _ _ c.args.a.now.rows c.args.b.now.rows)

pub add_strip-requires-clause-columns_fit : goal.add_strip-requires-clause-columns_fit
add_strip-requires-clause-columns_fit c = sym c.loop-start.invariant.so_far.columns

pub add_strip-requires-clause-size : goal.add_strip-requires-clause-size
add_strip-requires-clause-size c =
    subst (λ o. c.args.size ≤ most_combined o) (sym c.loop-start.invariant.so_far.field) c.requires.size

pub add_strip-requires-clause-some_column : goal.add_strip-requires-clause-some_column
add_strip-requires-clause-some_column c =
    omega (
      arith,
      c.min-columns.ensures,
      c.loop-start-test.true,
      c.cols-in-loop-start.ensures.count,
      c.requires.some_column,
    )

pub add_strip-requires-clause-columns_within : goal.add_strip-requires-clause-columns_within
add_strip-requires-clause-columns_within c =
    omega (arith, c.min-columns.ensures, c.loop-start-test.true, c.loop-start.invariant.so_far.columns)

pub loop-start-preserved : goal.loop-start-preserved
loop-start-preserved c =
    let invariant = c.loop-start.invariant in
    let within : c.loop-start.start + c.min-columns.result ≤ c.args.b.now.cols =
    omega (arith, c.min-columns.ensures, c.loop-start-test.true, c.cols-in-loop-start.ensures.count) in
    record {
      fits = within;
      so_far =
          HasFirstColumns-more c.loop-start.start c.min-columns.result (matrix_product c.args.a.now c.args.b.now)
          c.loop-start.product _ _
          invariant.so_far (IsMatrix-product c.args.a.now c.args.b.now c.rows.ensures.well_formed
          c.cols.ensures.well_formed (sym c.requires.field))
          (columns_of_product c.args.a.now c.args.b.now c.loop-start.start c.min-columns.result within)
          within c.in_ok-add_strip.ensures.sum c.add_strip.ensures.well_formed;
    }

pub returns-clause-product : goal.returns-clause-product
returns-clause-product c =
    HasFirstColumns-all _ _ _ c.loop-start.invariant.so_far
    (IsMatrix-product c.args.a.now c.args.b.now c.rows.ensures.well_formed c.cols.ensures.well_formed
    (sym c.requires.field))
    (omega (arith, c.loop-start-test.false, c.cols-in-loop-start.ensures.count))
