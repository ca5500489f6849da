use Rattle.std.proofs.Common.{◌≡◌, length, refl, ap, sym, ◌∙◌, ◌<◌, ◌≤◌, subst}
use Rattle.std.proofs.lemmas.Result.{IfOk-from_err}
use Rattle.axe_matrix.specs.Matrices.{MatrixValue, matrix_product}
use Rattle.axe_row.specs.declared.refusals.Refusal.TheVariants.{Memory}
use Rattle.axe_echelon.proofs.Exits.{no_memory}
use Rattle.axe_spin.specs.Modules.{IsModule, generator_of}
use Rattle.axe_action.proofs.GeneratorLists.{generators_more, module_of_made, all_taken, some_made, made_fit}
use Rattle.axe_action.proofs.ConjugateLaws.{IsBasisFor, conjugate_of_generator, conjugate_is_generator, conjugates_made}
use Rattle.axe_action.proofs.conjugates.conjugate_by.Goals as goal

pub loop-index-preserved : goal.loop-index-preserved
loop-index-preserved c =
    let fits : IsBasisFor c.args.module.now c.args.basis.now = record { field = c.requires.field; rows = c.requires.square; columns = c.requires.fits } in
    let is : c.in_ok-conjugate.conjugate ≡
    matrix_product (matrix_product c.args.basis.now (generator_of c.args.module.now c.loop-index.index)) c.args.inverse.now =
    c.in_ok-conjugate.ensures.product
    ∙ ap (λ (g : MatrixValue). matrix_product (matrix_product c.args.basis.now g) c.args.inverse.now) c.generator.ensures.value in
    generators_more _ _ _ c.loop-index.index c.loop-index.conjugates.items c.push.new.self.items c.in_ok-conjugate.conjugate c.loop-index.invariant c.in_ok-push.ensures.items
    (conjugate_is_generator c.args.module.now c.args.basis.now c.args.inverse.now fits c.requires.inverse c.loop-index.index c.in_ok-conjugate.conjugate is
    c.in_ok-conjugate.ensures.well_formed)
    (conjugate_of_generator c.args.module.now c.args.basis.now c.args.inverse.now fits c.requires.inverse c.loop-index.index c.in_ok-conjugate.conjugate is)

pub returns-clause-conjugate : goal.returns-clause-conjugate
returns-clause-conjugate c =
    let whole : c.loop-index.index ≡ length c.args.module.now.generators =
    all_taken c.loop-index.index c.gens-index-end.result (length c.args.module.now.generators) c.gens-index-end.ensures.count c.loop-index-test.false c.loop-index.auto.index-end in
    conjugates_made c.args.module.now c.args.basis.now c.loop-index.index c.loop-index.conjugates.items c.new.result whole c.loop-index.invariant
    (module_of_made _ _ _ c.loop-index.index c.loop-index.conjugates.items c.new.result c.loop-index.invariant
    (subst (λ count. 1 ≤ count) (sym whole) c.gens-index-end.ensures.well_formed.some_generator) c.new.ensures.made)

pub generator-requires : goal.generator-requires
generator-requires c = subst (λ count. c.loop-index.index < count) c.gens-index-end.ensures.count c.loop-index-test.true

pub triple_product-requires-clause-second_field : goal.triple_product-requires-clause-second_field
triple_product-requires-clause-second_field c =
    ap (λ (g : MatrixValue). g.order) c.generator.ensures.value ∙ sym c.requires.field

pub triple_product-requires-clause-third_field : goal.triple_product-requires-clause-third_field
triple_product-requires-clause-third_field c =
    c.requires.inverse.field

pub triple_product-requires-clause-second_fits : goal.triple_product-requires-clause-second_fits
triple_product-requires-clause-second_fits c =
    c.generator.ensures.square ∙ sym c.requires.fits

pub triple_product-requires-clause-third_fits : goal.triple_product-requires-clause-third_fits
triple_product-requires-clause-third_fits c =
    c.requires.inverse.square.length_is ∙ c.requires.fits ∙ sym (ap (λ (g : MatrixValue). g.cols) c.generator.ensures.value)

pub returns-in_err-conjugate-clause-conjugate : goal.returns-in_err-conjugate-clause-conjugate
returns-in_err-conjugate-clause-conjugate c = no_memory _ c.from_residual.result _ c.from_residual.ensures.1 c.in_err-conjugate.ensures.product

pub returns-in_err-conjugate-clause-well_formed : goal.returns-in_err-conjugate-clause-well_formed
returns-in_err-conjugate-clause-well_formed c = IfOk-from_err c.from_residual.result IsModule c.from_residual.ensures.0

pub returns-in_err-push-clause-conjugate : goal.returns-in_err-push-clause-conjugate
returns-in_err-push-clause-conjugate c = no_memory _ c.from_residual-in_err-push.result Memory c.from_residual-in_err-push.ensures.1 refl

pub returns-in_err-push-clause-well_formed : goal.returns-in_err-push-clause-well_formed
returns-in_err-push-clause-well_formed c = IfOk-from_err c.from_residual-in_err-push.result IsModule c.from_residual-in_err-push.ensures.0

pub new-requires-clause-some_generator : goal.new-requires-clause-some_generator
new-requires-clause-some_generator c =
    some_made c.args.module.now _ _ _ c.loop-index.index c.gens-index-end.result c.loop-index.conjugates.items c.gens-index-end.ensures.well_formed c.loop-index.invariant c.gens-index-end.ensures.count c.loop-index-test.false

pub new-requires-clause-generators_fit : goal.new-requires-clause-generators_fit
new-requires-clause-generators_fit c =
    made_fit c.args.module.now _ _ _ c.loop-index.index c.gens-index-end.result c.loop-index.conjugates.items c.gens-index-end.ensures.well_formed c.loop-index.invariant c.gens-index-end.ensures.count c.loop-index.auto.index-end

pub returns-clause-well_formed : goal.returns-clause-well_formed
returns-clause-well_formed c = c.new.ensures.well_formed
