use Rattle.std.proofs.Common.{◌≡◌, None, ap, sym, ◌∙◌, subst}
use Rattle.axe_field.specs.Order.{order_number}
use Rattle.axe_row.specs.Refusals.{Answers}
use Rattle.axe_matrix.specs.Matrices.{MatrixValue, product_refusal, matrix_product, rows_at}
use Rattle.axe_matrix.proofs.ProductLaws.{product_refusal-none}
use Rattle.axe_action.proofs.ConjugateLaws.{product_of_three}
use Rattle.axe_action.proofs.standard.rows_of_conjugate.Goals as goal

pub returns-clause-product : goal.returns-clause-product
returns-clause-product c =
    let is : c.in_ok-rows.rows ≡ rows_at c.args.places.now c.args.basis.now = c.in_ok-rows.ensures.rows in
    let none : product_refusal c.in_ok-rows.rows c.args.generator ≡ None =
    product_refusal-none c.in_ok-rows.rows c.args.generator
    (ap (λ (m : MatrixValue). order_number m.order) is ∙ sym (ap order_number c.requires.generator_field))
    (ap (λ (m : MatrixValue). m.cols) is ∙ sym c.requires.generator_fits) in
    subst (λ (rows : MatrixValue). Answers None (λ product. product ≡ matrix_product (matrix_product rows c.args.generator) c.args.inverse.now) c.mul.result) is
    (product_of_three c.in_ok-rows.rows c.args.generator c.args.inverse.now c.in_ok-images.images c.mul.result none c.in_ok-images.ensures.product
    (c.requires.inverse_field ∙ sym (ap (λ (m : MatrixValue). m.order) is)) c.requires.inverse_fits c.mul.ensures.product)
