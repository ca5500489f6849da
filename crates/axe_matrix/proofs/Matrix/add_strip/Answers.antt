use Rattle.std.proofs.Common.{◌≤◌, length, sym, ap, ◌∙◌, subst, arith}
use Rattle.axe_algebra.proofs.ListEntries.{table_length}
use Rattle.axe_row.specs.Combinations.{most_combined}
use Rattle.axe_row.specs.Sums.{HasSums}
use Rattle.axe_matrix.specs.Matrices.{MatrixValue, matrix_block, matrix_product}
use Rattle.axe_matrix.specs.Multiples.{matrix_with_multiple}
use Rattle.axe_matrix.specs.Strips.{placed_columns}
use Rattle.axe_matrix.proofs.ProductLaws.{length-product}
use Rattle.axe_matrix.proofs.Matrix.add_strip.Goals as goal

pub of_product-requires-clause-sums : goal.of_product-requires-clause-sums
of_product-requires-clause-sums c = subst HasSums (sym c.requires.a_field) c.requires.sums

pub of_product-requires-clause-field : goal.of_product-requires-clause-field
of_product-requires-clause-field c =
    ap (λ (m : MatrixValue). m.order) c.in_ok-strip.ensures.block ∙ c.requires.b_field ∙ sym c.requires.a_field

pub of_product-requires-clause-inner_fit : goal.of_product-requires-clause-inner_fit
of_product-requires-clause-inner_fit c =
    c.requires.inner_fit
    ∙ sym (ap (λ (m : MatrixValue). length m.rows) c.in_ok-strip.ensures.block ∙ table_length _ _ _
    ∙ c.rows.ensures.count)

pub of_product-requires-clause-size : goal.of_product-requires-clause-size
of_product-requires-clause-size c = subst (λ o. c.args.size ≤ most_combined o) (sym c.requires.a_field) c.requires.size

pub add_sums-requires-clause-field : goal.add_sums-requires-clause-field
add_sums-requires-clause-field c = ap (λ (m : MatrixValue). m.order) c.in_ok-sums.ensures.product ∙ c.requires.a_field

pub add_sums-requires-clause-rows_fit : goal.add_sums-requires-clause-rows_fit
add_sums-requires-clause-rows_fit c =
    ap (λ (m : MatrixValue). length m.rows) c.in_ok-sums.ensures.product ∙ length-product _ _ c.args.a.now.rows _
    ∙ c.requires.rows_fit

pub add_sums-requires-clause-columns_within : goal.add_sums-requires-clause-columns_within
add_sums-requires-clause-columns_within c =
    omega (
      arith,
      c.requires.columns_within,
      ap (λ (m : MatrixValue). m.cols) c.in_ok-sums.ensures.product,
      ap (λ (m : MatrixValue). m.cols) c.in_ok-strip.ensures.block,
    )

pub returns-clause-sum : goal.returns-clause-sum
returns-clause-sum c =
    c.add_sums.ensures.sum
    ∙ ap (λ m. matrix_with_multiple c.args.self.now 1 (placed_columns c.args.self.now.cols c.args.start m))
    (c.in_ok-sums.ensures.product
    ∙ ap (matrix_product c.args.a.now)
    (c.in_ok-strip.ensures.block ∙ ap (λ n. matrix_block c.args.b.now 0 n c.args.start c.args.width)
    c.rows.ensures.count))
