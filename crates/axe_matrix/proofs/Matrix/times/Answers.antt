use Rattle.std.proofs.Common.{rules, length, sym, ap, ◌∙◌}
use Rattle.axe_algebra.proofs.ListEntries.{table_length}
use Rattle.axe_matrix.specs.Matrices.{MatrixValue}
use Rattle.axe_matrix.specs.Products.{matrix_with_product}
use Rattle.axe_matrix.proofs.ProductRows.{zero_with_product}
use Rattle.axe_matrix.proofs.Matrix.times.Goals as goal

pub add_product-requires-clause-rows_fit : goal.add_product-requires-clause-rows_fit
add_product-requires-clause-rows_fit c =
    sym (ap (λ (m : MatrixValue). length m.rows) c.in_ok-product.ensures.zeros ∙ table_length _ _ _ ∙ c.rows.ensures.count)

pub add_product-requires-clause-element : goal.add_product-requires-clause-element
add_product-requires-clause-element c = search rules

pub returns-clause-product : goal.returns-clause-product
returns-clause-product c =
    c.in_ok-add_product.ensures.sum ∙ ap (λ m. matrix_with_product m 1 c.args.self.now c.args.other.now) c.in_ok-product.ensures.zeros
    ∙ zero_with_product _ _ _ c.args.self.now c.args.other.now c.field.ensures.well_formed c.cols.ensures.well_formed c.field.ensures.order c.requires.field
    c.rows.ensures.count c.cols.ensures.count
