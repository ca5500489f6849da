use Rattle.std.proofs.Common.{◌≡◌, None, ap, sym}
use Rattle.std.proofs.lemmas.Result.{IfOk-from_err}
use Rattle.axe_field.specs.Order.{order_number}
use Rattle.axe_matrix.specs.Matrices.{IsMatrix, product_refusal}
use Rattle.axe_matrix.proofs.ProductLaws.{product_refusal-none}
use Rattle.axe_echelon.proofs.Exits.{no_memory, memory_if_accepted}
use Rattle.axe_action.proofs.ConjugateLaws.{product_of_three}
use Rattle.axe_action.proofs.conjugates.triple_product.Goals as goal

pub returns-in_err-images-clause-product : goal.returns-in_err-images-clause-product
returns-in_err-images-clause-product c =
    let none = product_refusal-none c.args.first.now c.args.second.now (sym (ap order_number c.requires.second_field)) (sym c.requires.second_fits) in
    no_memory _ c.from_residual.result _ c.from_residual.ensures.1 (memory_if_accepted _ _ _ none c.in_err-images.ensures.product)

pub returns-in_err-images-clause-well_formed : goal.returns-in_err-images-clause-well_formed
returns-in_err-images-clause-well_formed c = IfOk-from_err c.from_residual.result IsMatrix c.from_residual.ensures.0

pub returns-clause-product : goal.returns-clause-product
returns-clause-product c =
    let none : product_refusal c.args.first.now c.args.second.now ≡ None =
    product_refusal-none c.args.first.now c.args.second.now (sym (ap order_number c.requires.second_field)) (sym c.requires.second_fits) in
    product_of_three c.args.first.now c.args.second.now c.args.third.now c.in_ok-images.images c.mul-2.result none c.in_ok-images.ensures.product
    c.requires.third_field c.requires.third_fits c.mul-2.ensures.product

pub returns-clause-well_formed : goal.returns-clause-well_formed
returns-clause-well_formed c = c.mul-2.ensures.well_formed
