use Rattle.std.proofs.Common.{◌≡◌, ◌<◌, length, None, refl, ap, sym, ◌∙◌, subst}
use Rattle.std.proofs.lemmas.Result.{IfOk-from_err}
use Rattle.axe_algebra.specs.Lists.{IsMatrixOver}
use Rattle.axe_field.specs.NumberFields.{number_field}
use Rattle.axe_matrix.specs.Matrices.{MatrixValue}
use Rattle.axe_spin.specs.Modules.{IsModule, generator_of}
use Rattle.axe_row.specs.Refusals.{RefusedAs}
use Rattle.axe_row.specs.declared.refusals.Refusal.TheVariants.{NotInvariant, Memory}
use Rattle.axe_echelon.proofs.Exits.{refused_late, no_memory_late}
use Rattle.axe_action.specs.Actions.{action_late, IsActionOverRows}
use Rattle.axe_action.specs.Coordinates.{HasImagesIn, HasActionRows}
use Rattle.axe_action.proofs.GeneratorLists.{AreNewGenerators, generators_more, all_taken, some_made, made_fit}
use Rattle.axe_action.proofs.SubRows.{IsActionOf, form_over, span_is_form, action_is_generator, outside_invariant, action_made}
use Rattle.axe_action.proofs.subspaces.action_over.Goals as goal

pub generator_action-requires-clause-span : goal.generator_action-requires-clause-span
generator_action-requires-clause-span c =
    span_is_form c.args.rows.now c.args.span.now c.generator.result.now c.requires.span c.requires.independent
    (c.requires.field ∙ sym (ap (λ (g : MatrixValue). g.order) c.generator.ensures.value))
    (c.requires.fits ∙ sym (ap (λ (g : MatrixValue). g.cols) c.generator.ensures.value))

pub returns-in_err-action-clause-action : goal.returns-in_err-action-clause-action
returns-in_err-action-clause-action c =
    let below : c.loop-number.number < length c.args.module.now.generators = subst (λ count. c.loop-number.number < count) c.gens-number-end.ensures.count c.loop-number-test.true in
    let form = span_is_form c.args.rows.now c.args.span.now (generator_of c.args.module.now 0) c.requires.span c.requires.independent c.requires.field c.requires.fits in
    let over : IsMatrixOver (number_field c.args.module.now.order) c.args.module.now.dim c.args.rows.now.rows =
    form_over (generator_of c.args.module.now 0) c.args.rows.now.rows c.args.span.now form c.requires.span.well_formed in
    refused_late None (λ action. HasImagesIn c.generator.result.now c.args.rows.now.rows c.args.rows.now.rows
    × HasActionRows c.generator.result.now c.args.rows.now.rows (length c.args.rows.now.rows) action) (IsActionOverRows c.args.module.now c.args.rows.now)
    (RefusedAs NotInvariant (¬ (HasImagesIn c.generator.result.now c.args.rows.now.rows c.args.rows.now.rows))) (action_late c.args.module.now c.args.rows.now)
    c.from_residual.result _ refl
    (λ refusal stands. (
      stands.0,
      λ invariant. stands.1 (subst (λ g. HasImagesIn g c.args.rows.now.rows c.args.rows.now.rows) (sym c.generator.ensures.value)
          (outside_invariant c.args.module.now c.args.rows.now c.loop-number.number c.gens-number-end.ensures.well_formed over below invariant)),
    ))
    c.in_err-action.ensures c.from_residual.ensures.1

pub loop-number-preserved : goal.loop-number-preserved
loop-number-preserved c =
    let all : HasActionRows (generator_of c.args.module.now c.loop-number.number) c.args.rows.now.rows (length c.args.rows.now.rows) c.in_ok-action.action =
    subst (λ g. HasActionRows g c.args.rows.now.rows (length c.args.rows.now.rows) c.in_ok-action.action) c.generator.ensures.value c.in_ok-action.ensures.1 in
    generators_more c.args.module.now.order (length c.args.rows.now.rows) (IsActionOf c.args.module.now c.args.rows.now.rows) c.loop-number.number
    c.loop-number.actions.items c.push.new.self.items c.in_ok-action.action c.loop-number.invariant c.in_ok-push.ensures.items
    (action_is_generator (generator_of c.args.module.now c.loop-number.number) c.args.rows.now.rows c.in_ok-action.action all) all.each

pub returns-clause-action : goal.returns-clause-action
returns-clause-action c =
    let whole : c.loop-number.number ≡ length c.args.module.now.generators =
    all_taken c.loop-number.number c.gens-number-end.result (length c.args.module.now.generators) c.gens-number-end.ensures.count c.loop-number-test.false c.loop-number.auto.number-end in
    let form = span_is_form c.args.rows.now c.args.span.now (generator_of c.args.module.now 0) c.requires.span c.requires.independent c.requires.field c.requires.fits in
    action_made c.args.module.now c.args.rows.now c.loop-number.actions.items c.new.result c.gens-number-end.ensures.well_formed
    (form_over (generator_of c.args.module.now 0) c.args.rows.now.rows c.args.span.now form c.requires.span.well_formed)
    (subst (λ k. AreNewGenerators c.args.module.now.order (length c.args.rows.now.rows) (IsActionOf c.args.module.now c.args.rows.now.rows) k c.loop-number.actions.items)
    whole c.loop-number.invariant)
    c.new.ensures.made

pub generator-requires : goal.generator-requires
generator-requires c = subst (λ count. c.loop-number.number < count) c.gens-number-end.ensures.count c.loop-number-test.true

pub generator_action-requires-clause-square : goal.generator_action-requires-clause-square
generator_action-requires-clause-square c = c.generator.ensures.square ∙ sym (ap (λ (g : MatrixValue). g.cols) c.generator.ensures.value)

pub generator_action-requires-clause-some_row : goal.generator_action-requires-clause-some_row
generator_action-requires-clause-some_row c = c.requires.some_row

pub generator_action-requires-clause-field : goal.generator_action-requires-clause-field
generator_action-requires-clause-field c = c.requires.field ∙ sym (ap (λ (g : MatrixValue). g.order) c.generator.ensures.value)

pub generator_action-requires-clause-fits : goal.generator_action-requires-clause-fits
generator_action-requires-clause-fits c = c.requires.fits ∙ sym (ap (λ (g : MatrixValue). g.cols) c.generator.ensures.value)

pub returns-in_err-action-clause-well_formed : goal.returns-in_err-action-clause-well_formed
returns-in_err-action-clause-well_formed c = IfOk-from_err c.from_residual.result IsModule c.from_residual.ensures.0

pub returns-in_err-push-clause-action : goal.returns-in_err-push-clause-action
returns-in_err-push-clause-action c =
    no_memory_late None _ _ c.from_residual-in_err-push.result Memory refl refl c.from_residual-in_err-push.ensures.1

pub returns-in_err-push-clause-well_formed : goal.returns-in_err-push-clause-well_formed
returns-in_err-push-clause-well_formed c = IfOk-from_err c.from_residual-in_err-push.result IsModule c.from_residual-in_err-push.ensures.0

pub new-requires-clause-some_generator : goal.new-requires-clause-some_generator
new-requires-clause-some_generator c =
    some_made c.args.module.now _ _ _ c.loop-number.number c.gens-number-end.result c.loop-number.actions.items c.gens-number-end.ensures.well_formed c.loop-number.invariant c.gens-number-end.ensures.count c.loop-number-test.false

pub new-requires-clause-generators_fit : goal.new-requires-clause-generators_fit
new-requires-clause-generators_fit c =
    made_fit c.args.module.now _ _ _ c.loop-number.number c.gens-number-end.result c.loop-number.actions.items c.gens-number-end.ensures.well_formed c.loop-number.invariant c.gens-number-end.ensures.count c.loop-number.auto.number-end

pub returns-clause-well_formed : goal.returns-clause-well_formed
returns-clause-well_formed c = c.new.ensures.well_formed
