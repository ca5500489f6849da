use Rattle.std.proofs.Common.{length, sym, ap, ◌∙◌}
use Rattle.axe_algebra.proofs.ListEntries.{table_length}
use Rattle.axe_matrix.specs.Matrices.{MatrixValue}
use Rattle.axe_matrix.specs.Products.{matrix_with_product}
use Rattle.axe_matrix.proofs.ProductRows.{zero_with_product}
use Rattle.axe_matrix.proofs.forms.product_by_tables.Goals as goal

pub add_by_tables-requires-clause-rows_fit : goal.add_by_tables-requires-clause-rows_fit
add_by_tables-requires-clause-rows_fit c =
    sym (ap (λ (m : MatrixValue). length m.rows) c.in_ok-product.ensures.zeros ∙ table_length _ _ _
    ∙ c.rows.ensures.count)

pub returns-clause-product : goal.returns-clause-product
returns-clause-product c =
    c.in_ok-add_by_tables.ensures.sum
    ∙ ap (λ m. matrix_with_product m 1 c.args.a.now c.args.b.now) c.in_ok-product.ensures.zeros
    ∙ zero_with_product _ _ _ c.args.a.now c.args.b.now c.field.ensures.well_formed c.cols.ensures.well_formed
    c.field.ensures.order c.requires.field c.rows.ensures.count c.cols.ensures.count
