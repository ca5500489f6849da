use Rattle.std.proofs.Common.{◌≡◌, None, ap, sym}
use Rattle.std.proofs.lemmas.Result.{IfOk-from_err}
use Rattle.axe_field.specs.Order.{order_number}
use Rattle.axe_matrix.specs.Matrices.{IsMatrix, product_refusal}
use Rattle.axe_matrix.proofs.ProductLaws.{product_refusal-none}
use Rattle.axe_echelon.proofs.Exits.{no_memory, memory_if_accepted}
use Rattle.axe_action.proofs.ConjugateLaws.{product_of_three}
use Rattle.axe_action.proofs.conjugates.conjugate_of.Goals as goal

pub returns-in_err-images-clause-product : goal.returns-in_err-images-clause-product
returns-in_err-images-clause-product c =
    let none = product_refusal-none c.args.basis.now c.args.generator (sym (ap order_number c.requires.generator_field)) (sym c.requires.generator_fits) in
    no_memory _ c.from_residual.result _ c.from_residual.ensures.1 (memory_if_accepted _ _ _ none c.in_err-images.ensures.product)

pub returns-in_err-images-clause-well_formed : goal.returns-in_err-images-clause-well_formed
returns-in_err-images-clause-well_formed c = IfOk-from_err c.from_residual.result IsMatrix c.from_residual.ensures.0

pub returns-clause-product : goal.returns-clause-product
returns-clause-product c =
    let none : product_refusal c.args.basis.now c.args.generator ≡ None =
    product_refusal-none c.args.basis.now c.args.generator (sym (ap order_number c.requires.generator_field)) (sym c.requires.generator_fits) in
    product_of_three c.args.basis.now c.args.generator c.args.inverse.now c.in_ok-images.images c.mul.result none c.in_ok-images.ensures.product
    c.requires.inverse_field c.requires.inverse_fits c.mul.ensures.product

pub returns-clause-well_formed : goal.returns-clause-well_formed
returns-clause-well_formed c = c.mul.ensures.well_formed
