use Rattle.std.proofs.Common.{◌≡◌, Ok, ap, sym, ◌∙◌, subst}
use Rattle.axe_field.specs.Order.{order_number}
use Rattle.axe_row.specs.Refusals.{Answers}
use Rattle.axe_matrix.specs.Matrices.{MatrixValue, matrix_product}
use Rattle.axe_matrix.proofs.ProductLaws.{product_refusal-none}
use Rattle.axe_action.proofs.columns.combine_to.Goals as goal

pub returns : goal.returns
returns c =
    let is : c.in_ok-combinations.combinations ≡ matrix_product c.args.coefficients.now c.args.rows.now =
    subst (λ why. Answers why (λ (product : MatrixValue). product ≡ matrix_product c.args.coefficients.now c.args.rows.now) (Ok c.in_ok-combinations.combinations))
    (product_refusal-none c.args.coefficients.now c.args.rows.now (ap order_number c.requires.field) c.requires.fits) c.in_ok-combinations.ensures.product in
    (λ same. sym is ∙ c.same.ensures.0 same, λ same. c.same.ensures.1 (is ∙ same))
