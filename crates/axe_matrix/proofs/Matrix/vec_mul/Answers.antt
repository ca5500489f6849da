use Rattle.std.proofs.lemmas.Grind.{common_steps}
use Rattle.std.proofs.Common.{arith, ap, ◌∙◌}
use Rattle.axe_row.specs.Rows.{RowValue}
use Rattle.axe_matrix.specs.Products.{row_with_product}
use Rattle.axe_matrix.proofs.DirectRows.{zeros_with_product}
use Rattle.axe_matrix.proofs.Matrix.vec_mul.Goals as goal

pub returns-clause-product : goal.returns-clause-product
returns-clause-product c =
    c.add_vec_mul.ensures.sum
    ∙ ap (λ (r : RowValue). row_with_product r 1 c.args.vector.now c.args.self.now) c.in_ok-product.ensures.zeros
    ∙ zeros_with_product c.field.result.now c.cols.result c.args.vector.now c.args.self.now c.field.ensures.well_formed c.field.ensures.order c.cols.ensures.count c.requires.field c.len.ensures.well_formed.elements

pub add_vec_mul-requires-clause-columns_fit : goal.add_vec_mul-requires-clause-columns_fit
add_vec_mul-requires-clause-columns_fit c = grind (arith, common_steps)
