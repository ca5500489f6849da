use Rattle.std.proofs.Common.{◌≤◌, length, sym, ap, ◌∙◌, subst}
use Rattle.axe_algebra.proofs.ListEntries.{table_length}
use Rattle.axe_row.specs.Combinations.{most_combined}
use Rattle.axe_row.specs.Sums.{HasSums}
use Rattle.axe_matrix.specs.Matrices.{MatrixValue}
use Rattle.axe_matrix.specs.PieceTables.{AreBlockNumbers}
use Rattle.axe_matrix.specs.Products.{matrix_with_product}
use Rattle.axe_matrix.proofs.ProductRows.{tables_for, zero_with_product}
use Rattle.axe_matrix.proofs.sums.MatrixSum.of_product.Goals as goal

pub zero-requires-clause-sums : goal.zero-requires-clause-sums
zero-requires-clause-sums c = subst HasSums (sym c.field.ensures.order) c.requires.sums

pub new-requires-clause-size : goal.new-requires-clause-size
new-requires-clause-size c = subst (λ o. c.args.size ≤ most_combined o) (sym c.field-2.ensures.order) c.requires.size

pub add_blocks-requires-clause-a_field : goal.add_blocks-requires-clause-a_field
add_blocks-requires-clause-a_field c =
    sym (ap (λ (m : MatrixValue). m.order) c.in_ok-sums.ensures.zeros ∙ c.field.ensures.order)

pub add_blocks-requires-clause-b_field : goal.add_blocks-requires-clause-b_field
add_blocks-requires-clause-b_field c = c.requires.field ∙ add_blocks-requires-clause-a_field c

pub add_blocks-requires-clause-rows_fit : goal.add_blocks-requires-clause-rows_fit
add_blocks-requires-clause-rows_fit c =
    sym (ap (λ (m : MatrixValue). length m.rows) c.in_ok-sums.ensures.zeros ∙ table_length _ _ _ ∙ c.rows.ensures.count)

pub add_blocks-requires-clause-columns_fit : goal.add_blocks-requires-clause-columns_fit
add_blocks-requires-clause-columns_fit c =
    sym (ap (λ (m : MatrixValue). m.cols) c.in_ok-sums.ensures.zeros ∙ c.cols.ensures.count)

pub add_blocks-requires-clause-size : goal.add_blocks-requires-clause-size
add_blocks-requires-clause-size c =
    subst (λ n. n ≤ most_combined c.in_ok-sums.sums.order) (sym c.in-Ok.ensures.size)
    (subst (λ o. c.args.size ≤ most_combined o) (add_blocks-requires-clause-a_field c) c.requires.size)

pub add_blocks-requires-clause-tables : goal.add_blocks-requires-clause-tables
add_blocks-requires-clause-tables c =
    tables_for _ _ _ _ _ (c.field-2.ensures.order ∙ add_blocks-requires-clause-a_field c)
    (c.cols-2.ensures.count ∙ add_blocks-requires-clause-columns_fit c) c.in-Ok.ensures.tables

pub add_blocks-requires-clause-blocks : goal.add_blocks-requires-clause-blocks
add_blocks-requires-clause-blocks c =
    subst (λ n. AreBlockNumbers c.args.a.now n c.args.blocks.now) (sym c.in-Ok.ensures.size) c.requires.blocks

pub returns-in-Ok-clause-product : goal.returns-in-Ok-clause-product
returns-in-Ok-clause-product c =
    c.add_blocks.ensures.sum
    ∙ ap (λ m. matrix_with_product m 1 c.args.a.now c.args.b.now) c.in_ok-sums.ensures.zeros
    ∙ zero_with_product _ _ _ c.args.a.now c.args.b.now c.rows.ensures.well_formed c.cols.ensures.well_formed
    c.field.ensures.order c.requires.field c.rows.ensures.count c.cols.ensures.count
