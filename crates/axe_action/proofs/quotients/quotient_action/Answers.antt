use Rattle.std.proofs.Common.{◌≤◌, ℕ, List, length, sym, ◌∙◌, subst}
use Rattle.std.proofs.lemmas.Result.{IfOk-from_err}
use Rattle.axe_echelon.proofs.Exits.{not_refused, refused_early, no_memory_late}
use Rattle.axe_spin.specs.Modules.{IsModule, rows_refusal}
use Rattle.axe_spin.proofs.SeedLaws.{vectors_of}
use Rattle.axe_action.proofs.QuotientSpans.{proper_span, whole_answer, action_answer}
use Rattle.axe_action.proofs.QuotientRows.{some_free, free_of_rows, units_of_rows}
use Rattle.axe_action.specs.FreeColumns.{AreFreeColumns, HasUnitsModulo, rows_to_span}
use Rattle.axe_action.proofs.quotients.quotient_action.Goals as goal

pub returns-then-rank-dim-clause-action : goal.returns-then-rank-dim-clause-action
returns-then-rank-dim-clause-action c =
    let none = not_refused (rows_refusal c.args.module.now c.args.rows.now) tt c.in_ok-check_rows.field-0 c.in_ok-check_rows.ensures.refusal in
    whole_answer c.args.module.now c.args.rows.now c.in_ok-span.span none c.in_ok-span.ensures.span
    (sym c.rank.ensures.count ∙ c.if-rank-dim.true ∙ c.dim.ensures.count)

pub returns-clause-action : goal.returns-clause-action
returns-clause-action c =
    let none = not_refused (rows_refusal c.args.module.now c.args.rows.now) tt c.in_ok-check_rows.field-0 c.in_ok-check_rows.ensures.refusal in
    action_answer c.args.module.now c.args.rows.now c.in_ok-span.span none c.in_ok-span.ensures.span c.action_modulo.result
    (λ full. c.if-rank-dim.false (c.rank.ensures.count ∙ full ∙ sym c.dim.ensures.count)) c.action_modulo.ensures.action

pub returns-in_err-check_rows-clause-action : goal.returns-in_err-check_rows-clause-action
returns-in_err-check_rows-clause-action c =
    refused_early (rows_refusal c.args.module.now c.args.rows.now) tt _ _ c.from_residual.result _ c.in_err-check_rows.ensures.refusal c.from_residual.ensures.1

pub returns-in_err-check_rows-clause-well_formed : goal.returns-in_err-check_rows-clause-well_formed
returns-in_err-check_rows-clause-well_formed c = IfOk-from_err c.from_residual.result IsModule c.from_residual.ensures.0

pub returns-in_err-span-clause-action : goal.returns-in_err-span-clause-action
returns-in_err-span-clause-action c =
    let none = not_refused (rows_refusal c.args.module.now c.args.rows.now) tt c.in_ok-check_rows.field-0 c.in_ok-check_rows.ensures.refusal in
    no_memory_late (rows_refusal c.args.module.now c.args.rows.now) _ _ c.from_residual-in_err-span.result _ none c.in_err-span.ensures.span
    c.from_residual-in_err-span.ensures.1

pub returns-in_err-span-clause-well_formed : goal.returns-in_err-span-clause-well_formed
returns-in_err-span-clause-well_formed c = IfOk-from_err c.from_residual-in_err-span.result IsModule c.from_residual-in_err-span.ensures.0

pub returns-then-rank-dim-clause-well_formed : goal.returns-then-rank-dim-clause-well_formed
returns-then-rank-dim-clause-well_formed c = tt

pub returns-clause-well_formed : goal.returns-clause-well_formed
returns-clause-well_formed c = c.action_modulo.ensures.well_formed

pub units_modulo-requires-clause-some_column : goal.units_modulo-requires-clause-some_column
units_modulo-requires-clause-some_column c =
    let none = not_refused (rows_refusal c.args.module.now c.args.rows.now) tt c.in_ok-check_rows.field-0 c.in_ok-check_rows.ensures.refusal in
    let small = proper_span c.args.module.now c.args.rows.now c.in_ok-span.span none c.in_ok-span.ensures.span
    (λ full. c.if-rank-dim.false (c.rank.ensures.count ∙ full ∙ sym c.dim.ensures.count)) in
    subst (λ (columns : List ℕ). 1 ≤ length columns) (sym c.deref.ensures.value)
    (some_free c.args.module.now c.args.rows.now c.in_ok-span.span c.in_ok-columns.columns.items none c.in_ok-span.ensures.span c.in_ok-columns.ensures.free small)

pub units_modulo-requires-clause-free : goal.units_modulo-requires-clause-free
units_modulo-requires-clause-free c = subst (AreFreeColumns c.in_ok-span.span) (sym c.deref.ensures.value) c.in_ok-columns.ensures.free

pub action_modulo-requires-clause-field : goal.action_modulo-requires-clause-field
action_modulo-requires-clause-field c =
    let none = not_refused (rows_refusal c.args.module.now c.args.rows.now) tt c.in_ok-check_rows.field-0 c.in_ok-check_rows.ensures.refusal in
    (vectors_of c.args.module.now c.args.rows.now none).field

pub action_modulo-requires-clause-fits : goal.action_modulo-requires-clause-fits
action_modulo-requires-clause-fits c =
    let none = not_refused (rows_refusal c.args.module.now c.args.rows.now) tt c.in_ok-check_rows.field-0 c.in_ok-check_rows.ensures.refusal in
    (vectors_of c.args.module.now c.args.rows.now none).columns

pub action_modulo-requires-clause-well_formed : goal.action_modulo-requires-clause-well_formed
action_modulo-requires-clause-well_formed c = c.span_of.ensures.well_formed

pub returns-in_err-columns-clause-action : goal.returns-in_err-columns-clause-action
returns-in_err-columns-clause-action c =
    let none = not_refused (rows_refusal c.args.module.now c.args.rows.now) tt c.in_ok-check_rows.field-0 c.in_ok-check_rows.ensures.refusal in
    no_memory_late (rows_refusal c.args.module.now c.args.rows.now) _ _ c.from_residual-in_err-columns.result _ none c.in_err-columns.ensures.free
    c.from_residual-in_err-columns.ensures.1

pub returns-in_err-columns-clause-well_formed : goal.returns-in_err-columns-clause-well_formed
returns-in_err-columns-clause-well_formed c = IfOk-from_err c.from_residual-in_err-columns.result IsModule c.from_residual-in_err-columns.ensures.0

pub returns-in_err-units-clause-action : goal.returns-in_err-units-clause-action
returns-in_err-units-clause-action c =
    let none = not_refused (rows_refusal c.args.module.now c.args.rows.now) tt c.in_ok-check_rows.field-0 c.in_ok-check_rows.ensures.refusal in
    no_memory_late (rows_refusal c.args.module.now c.args.rows.now) _ _ c.from_residual-in_err-units.result _ none c.in_err-units.ensures
    c.from_residual-in_err-units.ensures.1

pub returns-in_err-units-clause-well_formed : goal.returns-in_err-units-clause-well_formed
returns-in_err-units-clause-well_formed c = IfOk-from_err c.from_residual-in_err-units.result IsModule c.from_residual-in_err-units.ensures.0

pub action_modulo-requires-clause-free : goal.action_modulo-requires-clause-free
action_modulo-requires-clause-free c =
    subst (AreFreeColumns (rows_to_span c.args.rows.now)) (sym c.deref-2.ensures.value)
    (free_of_rows c.args.rows.now c.in_ok-span.span c.in_ok-columns.columns.items c.in_ok-span.ensures.span c.in_ok-columns.ensures.free)

pub action_modulo-requires-clause-units : goal.action_modulo-requires-clause-units
action_modulo-requires-clause-units c =
    subst (λ (columns : List ℕ). HasUnitsModulo (rows_to_span c.args.rows.now) columns c.in_ok-units.units)
    (sym c.deref-2.ensures.value)
    (units_of_rows c.args.rows.now c.in_ok-span.span c.in_ok-columns.columns.items c.in_ok-units.units c.in_ok-span.ensures.span
    (subst (λ (columns : List ℕ). HasUnitsModulo c.in_ok-span.span columns c.in_ok-units.units)
    c.deref.ensures.value c.in_ok-units.ensures))
