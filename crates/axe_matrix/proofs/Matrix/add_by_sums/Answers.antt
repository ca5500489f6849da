use Rattle.std.proofs.Common.{length, sym, ap, ◌∙◌}
use Rattle.axe_matrix.specs.Matrices.{MatrixValue}
use Rattle.axe_matrix.specs.Multiples.{matrix_with_multiple}
use Rattle.axe_matrix.proofs.PlacedColumns.{product-placed}
use Rattle.axe_matrix.proofs.ProductLaws.{length-product}
use Rattle.axe_matrix.proofs.ProductRows.{product_as_multiple}
use Rattle.axe_matrix.proofs.Matrix.add_by_sums.Goals as goal

pub add_sums-requires-clause-rows_fit : goal.add_sums-requires-clause-rows_fit
add_sums-requires-clause-rows_fit c =
    ap (λ (m : MatrixValue). length m.rows) c.in_ok-sums.ensures.product
    ∙ length-product _ _ c.args.a.now.rows c.args.b.now.rows ∙ c.requires.rows_fit

pub returns-then-cols-width-clause-sum : goal.returns-then-cols-width-clause-sum
returns-then-cols-width-clause-sum c =
    c.add_sums.ensures.sum
    ∙ product-placed c.args.self.now c.args.a.now c.args.b.now _ c.requires.a_field c.requires.columns_fit
    c.requires.rows_fit
    c.in_ok-sums.ensures.product c.in_ok-sums.ensures.well_formed

pub add_scaled-requires-clause-rows_fit : goal.add_scaled-requires-clause-rows_fit
add_scaled-requires-clause-rows_fit c =
    ap (λ (m : MatrixValue). length m.rows) c.in_ok-product.ensures.product
    ∙ length-product _ _ c.args.a.now.rows c.args.b.now.rows ∙ c.requires.rows_fit

pub returns-clause-sum : goal.returns-clause-sum
returns-clause-sum c =
    c.add_scaled.ensures.sum
    ∙ ap (λ m. matrix_with_multiple c.args.self.now 1 m) c.in_ok-product.ensures.product
    ∙ sym (product_as_multiple c.args.self.now 1 c.args.a.now c.args.b.now c.requires.a_field c.requires.columns_fit
    c.requires.rows_fit)
