use Rattle.std.proofs.Common.{sym, subst}
use Rattle.std.proofs.lemmas.Result.{IfOk-from_err}
use Rattle.axe_spin.specs.Modules.{IsModule}
use Rattle.axe_action.specs.Actions.{sub_action_refusal}
use Rattle.axe_echelon.proofs.Exits.{not_refused, refused_early, no_memory_late}
use Rattle.axe_field.specs.NumberFields.{number_field}
use Rattle.axe_action.specs.Coordinates.{AreCoordinateColumns}
use Rattle.axe_action.proofs.ColumnLaws.{coordinates_of_reduced}
use Rattle.axe_action.proofs.SubBases.{IsBasisOfSpan, space_rows, basis_of_span, action_on_span}
use Rattle.axe_action.proofs.subspaces.sub_action.Goals as goal

basis_is : (c : goal.After-deref) → IsBasisOfSpan c.args.module.now c.args.rows.now c.in_ok-basis.basis
basis_is c =
    let none = not_refused (sub_action_refusal c.args.module.now c.args.rows.now) tt c.in_ok-check_space.field-0 c.in_ok-check_space.ensures.refusal in
    basis_of_span c.args.module.now c.args.rows.now c.in_ok-span.span c.in_ok-basis.basis (space_rows c.args.module.now c.args.rows.now none)
    c.span_of.ensures.well_formed c.in_ok-span.ensures.span c.in_ok-basis.ensures.basis c.in_ok-basis.ensures.matrix_well_formed

pub action_on_basis-requires-clause-coordinates : goal.action_on_basis-requires-clause-coordinates
action_on_basis-requires-clause-coordinates c =
    subst (AreCoordinateColumns (number_field c.in_ok-basis.basis.order) c.in_ok-basis.basis.cols c.in_ok-basis.basis.rows) (sym c.deref.ensures.value)
    (coordinates_of_reduced c.in_ok-span.span c.in_ok-basis.basis c.in_ok-pivots.pivots.items c.pivot_columns.ensures.well_formed c.in_ok-basis.ensures.basis
    c.in_ok-basis.ensures.matrix_well_formed c.in_ok-pivots.ensures.pivots)

pub action_on_basis-requires-clause-some_row : goal.action_on_basis-requires-clause-some_row
action_on_basis-requires-clause-some_row c = (basis_is c).some

pub action_on_basis-requires-clause-field : goal.action_on_basis-requires-clause-field
action_on_basis-requires-clause-field c = (basis_is c).field

pub action_on_basis-requires-clause-fits : goal.action_on_basis-requires-clause-fits
action_on_basis-requires-clause-fits c = (basis_is c).columns

pub returns-clause-action : goal.returns-clause-action
returns-clause-action c =
    let none = not_refused (sub_action_refusal c.args.module.now c.args.rows.now) tt c.in_ok-check_space.field-0 c.in_ok-check_space.ensures.refusal in
    let basis : IsBasisOfSpan c.args.module.now c.args.rows.now c.in_ok-basis.basis =
    basis_of_span c.args.module.now c.args.rows.now c.in_ok-span.span c.in_ok-basis.basis (space_rows c.args.module.now c.args.rows.now none)
    c.span_of.ensures.well_formed c.in_ok-span.ensures.span c.in_ok-basis.ensures.basis c.in_ok-basis.ensures.matrix_well_formed in
    action_on_span c.args.module.now c.args.rows.now c.in_ok-basis.basis (sub_action_refusal c.args.module.now c.args.rows.now) c.action_on_basis.result none basis
    c.action_on_basis.ensures.action

pub returns-in_err-check_space-clause-action : goal.returns-in_err-check_space-clause-action
returns-in_err-check_space-clause-action c =
    refused_early (sub_action_refusal c.args.module.now c.args.rows.now) tt _ _ c.from_residual.result _ c.in_err-check_space.ensures.refusal c.from_residual.ensures.1

pub returns-in_err-check_space-clause-well_formed : goal.returns-in_err-check_space-clause-well_formed
returns-in_err-check_space-clause-well_formed c = IfOk-from_err c.from_residual.result IsModule c.from_residual.ensures.0

pub returns-in_err-span-clause-action : goal.returns-in_err-span-clause-action
returns-in_err-span-clause-action c =
    let none = not_refused (sub_action_refusal c.args.module.now c.args.rows.now) tt c.in_ok-check_space.field-0 c.in_ok-check_space.ensures.refusal in
    no_memory_late (sub_action_refusal c.args.module.now c.args.rows.now) _ _ c.from_residual-in_err-span.result _ none c.in_err-span.ensures.span
    c.from_residual-in_err-span.ensures.1

pub returns-in_err-span-clause-well_formed : goal.returns-in_err-span-clause-well_formed
returns-in_err-span-clause-well_formed c = IfOk-from_err c.from_residual-in_err-span.result IsModule c.from_residual-in_err-span.ensures.0

pub returns-in_err-basis-clause-action : goal.returns-in_err-basis-clause-action
returns-in_err-basis-clause-action c =
    let none = not_refused (sub_action_refusal c.args.module.now c.args.rows.now) tt c.in_ok-check_space.field-0 c.in_ok-check_space.ensures.refusal in
    no_memory_late (sub_action_refusal c.args.module.now c.args.rows.now) _ _ c.from_residual-in_err-basis.result _ none c.in_err-basis.ensures.basis
    c.from_residual-in_err-basis.ensures.1

pub returns-in_err-basis-clause-well_formed : goal.returns-in_err-basis-clause-well_formed
returns-in_err-basis-clause-well_formed c = IfOk-from_err c.from_residual-in_err-basis.result IsModule c.from_residual-in_err-basis.ensures.0

pub returns-clause-well_formed : goal.returns-clause-well_formed
returns-clause-well_formed c = c.action_on_basis.ensures.well_formed

pub returns-in_err-pivots-clause-action : goal.returns-in_err-pivots-clause-action
returns-in_err-pivots-clause-action c =
    let none = not_refused (sub_action_refusal c.args.module.now c.args.rows.now) tt c.in_ok-check_space.field-0 c.in_ok-check_space.ensures.refusal in
    no_memory_late (sub_action_refusal c.args.module.now c.args.rows.now) _ _ c.from_residual-in_err-pivots.result _ none c.in_err-pivots.ensures.pivots
    c.from_residual-in_err-pivots.ensures.1

pub returns-in_err-pivots-clause-well_formed : goal.returns-in_err-pivots-clause-well_formed
returns-in_err-pivots-clause-well_formed c = IfOk-from_err c.from_residual-in_err-pivots.result IsModule c.from_residual-in_err-pivots.ensures.0
