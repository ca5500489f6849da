use Rattle.std.proofs.Common.{◌≡◌, ◌<◌, length, None, refl, ap, sym, ◌∙◌, subst}
use Rattle.std.proofs.lemmas.Result.{IfOk-from_err}
use Rattle.axe_algebra.specs.Lists.{IsMatrixOver}
use Rattle.axe_field.specs.NumberFields.{number_field}
use Rattle.axe_matrix.specs.Matrices.{MatrixValue}
use Rattle.axe_spin.specs.Modules.{IsModule, IsInvariantIn, generator_of}
use Rattle.axe_row.specs.Refusals.{RefusedAs}
use Rattle.axe_row.specs.declared.refusals.Refusal.TheVariants.{NotInvariant, Memory}
use Rattle.axe_echelon.proofs.Exits.{refused_late, no_memory_late}
use Rattle.axe_action.specs.Actions.{action_late, IsActionModulo}
use Rattle.axe_action.specs.Coordinates.{HasImagesIn}
use Rattle.axe_action.specs.FreeColumns.{HasRowsModulo, rows_to_span, row_at}
use Rattle.axe_action.proofs.GeneratorLists.{AreNewGenerators, generators_more, all_taken, some_made, made_fit}
use Rattle.axe_action.proofs.SubRows.{module_rows_over, outside_invariant}
use Rattle.axe_action.proofs.QuotientRows.{IsQuotientOf, modulo_is_generator, modulo_made}
use Rattle.axe_action.proofs.quotients.action_modulo.Goals as goal

pub returns-in_err-action-clause-action : goal.returns-in_err-action-clause-action
returns-in_err-action-clause-action c =
    let below : c.loop-number.number < length c.args.module.now.generators = subst (λ count. c.loop-number.number < count) c.gens-number-end.ensures.count c.loop-number-test.true in
    let over : IsMatrixOver (number_field c.args.module.now.order) c.args.module.now.dim c.args.rows.now.rows =
    module_rows_over c.args.module.now c.args.rows.now c.requires.well_formed c.requires.field c.requires.fits in
    refused_late None (λ action. HasImagesIn c.generator.result.now c.args.rows.now.rows c.args.rows.now.rows
    × HasRowsModulo (rows_to_span c.args.rows.now) c.args.columns.now (row_at c.generator.result.now.rows c.args.columns.now) (length c.args.columns.now) action)
    (λ action. IsInvariantIn c.args.module.now c.args.rows.now × IsActionModulo c.args.module.now c.args.rows.now action)
    (RefusedAs NotInvariant (¬ (HasImagesIn c.generator.result.now c.args.rows.now.rows c.args.rows.now.rows))) (action_late c.args.module.now c.args.rows.now)
    c.from_residual.result _ refl
    (λ refusal stands. (
      stands.0,
      λ invariant. stands.1 (subst (λ g. HasImagesIn g c.args.rows.now.rows c.args.rows.now.rows) (sym c.generator.ensures.value)
          (outside_invariant c.args.module.now c.args.rows.now c.loop-number.number c.gens-number-end.ensures.well_formed over below invariant)),
    ))
    c.in_err-action.ensures c.from_residual.ensures.1

pub loop-number-preserved : goal.loop-number-preserved
loop-number-preserved c =
    let within : HasImagesIn (generator_of c.args.module.now c.loop-number.number) c.args.rows.now.rows c.args.rows.now.rows =
    subst (λ g. HasImagesIn g c.args.rows.now.rows c.args.rows.now.rows) c.generator.ensures.value c.in_ok-action.ensures.0 in
    let all : HasRowsModulo (rows_to_span c.args.rows.now) c.args.columns.now (row_at (generator_of c.args.module.now c.loop-number.number).rows c.args.columns.now)
    (length c.args.columns.now) c.in_ok-action.action =
    subst (λ (g : MatrixValue). HasRowsModulo (rows_to_span c.args.rows.now) c.args.columns.now (row_at g.rows c.args.columns.now) (length c.args.columns.now) c.in_ok-action.action)
    c.generator.ensures.value c.in_ok-action.ensures.1 in
    generators_more c.args.module.now.order (length c.args.columns.now) (IsQuotientOf c.args.module.now c.args.rows.now c.args.columns.now) c.loop-number.number
    c.loop-number.actions.items c.push.new.self.items c.in_ok-action.action c.loop-number.invariant c.in_ok-push.ensures.items
    (modulo_is_generator c.args.module.now c.args.rows.now c.args.columns.now _ c.in_ok-action.action c.requires.field all) (within, all.each)

pub returns-clause-action : goal.returns-clause-action
returns-clause-action c =
    let whole : c.loop-number.number ≡ length c.args.module.now.generators =
    all_taken c.loop-number.number c.gens-number-end.result (length c.args.module.now.generators) c.gens-number-end.ensures.count c.loop-number-test.false c.loop-number.auto.number-end in
    modulo_made c.args.module.now c.args.rows.now c.args.columns.now c.loop-number.actions.items c.gens-number-end.ensures.well_formed
    c.requires.field c.requires.fits c.requires.well_formed c.requires.free
    (subst (λ k. AreNewGenerators c.args.module.now.order (length c.args.columns.now) (IsQuotientOf c.args.module.now c.args.rows.now c.args.columns.now) k c.loop-number.actions.items)
    whole c.loop-number.invariant)
    c.new.result c.new.ensures.made

pub generator-requires : goal.generator-requires
generator-requires c = subst (λ count. c.loop-number.number < count) c.gens-number-end.ensures.count c.loop-number-test.true

pub generator_modulo-requires-clause-square : goal.generator_modulo-requires-clause-square
generator_modulo-requires-clause-square c = c.generator.ensures.square ∙ sym (ap (λ (g : MatrixValue). g.cols) c.generator.ensures.value)

pub generator_modulo-requires-clause-field : goal.generator_modulo-requires-clause-field
generator_modulo-requires-clause-field c = c.requires.field ∙ sym (ap (λ (g : MatrixValue). g.order) c.generator.ensures.value)

pub generator_modulo-requires-clause-fits : goal.generator_modulo-requires-clause-fits
generator_modulo-requires-clause-fits c = c.requires.fits ∙ sym (ap (λ (g : MatrixValue). g.cols) c.generator.ensures.value)

pub returns-in_err-action-clause-well_formed : goal.returns-in_err-action-clause-well_formed
returns-in_err-action-clause-well_formed c = IfOk-from_err c.from_residual.result IsModule c.from_residual.ensures.0

pub returns-in_err-push-clause-action : goal.returns-in_err-push-clause-action
returns-in_err-push-clause-action c =
    no_memory_late None _ _ c.from_residual-in_err-push.result Memory refl refl c.from_residual-in_err-push.ensures.1

pub returns-in_err-push-clause-well_formed : goal.returns-in_err-push-clause-well_formed
returns-in_err-push-clause-well_formed c = IfOk-from_err c.from_residual-in_err-push.result IsModule c.from_residual-in_err-push.ensures.0

pub new-requires-clause-some_generator : goal.new-requires-clause-some_generator
new-requires-clause-some_generator c =
    some_made c.args.module.now _ _ _ c.loop-number.number c.gens-number-end.result c.loop-number.actions.items c.gens-number-end.ensures.well_formed c.loop-number.invariant c.gens-number-end.ensures.count c.loop-number-test.false

pub new-requires-clause-generators_fit : goal.new-requires-clause-generators_fit
new-requires-clause-generators_fit c =
    made_fit c.args.module.now _ _ _ c.loop-number.number c.gens-number-end.result c.loop-number.actions.items c.gens-number-end.ensures.well_formed c.loop-number.invariant c.gens-number-end.ensures.count c.loop-number.auto.number-end

pub returns-clause-well_formed : goal.returns-clause-well_formed
returns-clause-well_formed c = c.new.ensures.well_formed
