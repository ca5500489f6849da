use Rattle.std.proofs.Common.{◌≡◌}
use Rattle.std.proofs.lemmas.Result.{err_from_is_err_and}
use Rattle.axe_matrix.specs.Matrices.{product_refusal, matrix_product, sum_refusal, sum_of_matrices}
use Rattle.axe_execute.specs.MatrixCommands.{ProductOf, SumOf}
use Rattle.axe_plan.proofs.Refused.{refused_fault, accepted_value}
use Rattle.axe_execute.proofs.operations.OfTwo.make.Goals as goal

pub returns-in_err-mul-in-Product : goal.returns-in_err-mul-in-Product
unfolding ProductOf
returns-in_err-mul-in-Product c =
    let p = err_from_is_err_and c.from_residual.result c.from_residual.ensures.1 in
    rw (p.1, p.2, c.in-Product.is) (refused_fault (λ product. product ≡ matrix_product c.args.left.now c.args.right.now)
    (λ product. product ≡ matrix_product c.args.left.now c.args.right.now) (product_refusal c.args.left.now c.args.right.now) c.in_err-mul-in-Product.field-0.0
    c.in_err-mul-in-Product.ensures.product)

pub returns-in_ok-mul-in-Product : goal.returns-in_ok-mul-in-Product
unfolding ProductOf
returns-in_ok-mul-in-Product c =
    rw (c.in-Product.is) (accepted_value (λ product. product ≡ matrix_product c.args.left.now c.args.right.now)
    (λ product. product ≡ matrix_product c.args.left.now c.args.right.now) (product_refusal c.args.left.now c.args.right.now) c.in_ok-mul-in-Product.field-0 (λ of. of)
    c.in_ok-mul-in-Product.ensures.product)

pub returns-in_err-add-in-Sum : goal.returns-in_err-add-in-Sum
unfolding SumOf
returns-in_err-add-in-Sum c =
    let p = err_from_is_err_and c.from_residual-in_err-add-in-Sum.result c.from_residual-in_err-add-in-Sum.ensures.1 in
    rw (p.1, p.2, c.in-Sum.is) (refused_fault (λ sum. sum ≡ sum_of_matrices c.args.left.now c.args.right.now)
    (λ sum. sum ≡ sum_of_matrices c.args.left.now c.args.right.now) (sum_refusal c.args.left.now c.args.right.now) c.in_err-add-in-Sum.field-0.0
    c.in_err-add-in-Sum.ensures.sum)

pub returns-in_ok-add-in-Sum : goal.returns-in_ok-add-in-Sum
unfolding SumOf
returns-in_ok-add-in-Sum c =
    rw (c.in-Sum.is) (accepted_value (λ sum. sum ≡ sum_of_matrices c.args.left.now c.args.right.now) (λ sum. sum ≡ sum_of_matrices c.args.left.now c.args.right.now)
    (sum_refusal c.args.left.now c.args.right.now) c.in_ok-add-in-Sum.field-0 (λ of. of) c.in_ok-add-in-Sum.ensures.sum)
