use Rattle.std.proofs.Common.{sym, ◌∙◌}
use Rattle.std.proofs.lemmas.Result.{IfOk-from_err}
use Rattle.axe_spin.specs.Modules.{IsModule}
use Rattle.axe_action.specs.Actions.{sub_action_refusal}
use Rattle.axe_echelon.proofs.Exits.{not_refused, refused_early, answered_late}
use Rattle.axe_action.proofs.SubBases.{space_rows, some_row}
use Rattle.axe_action.proofs.subspaces.basis_action.Goals as goal

pub returns-in_err-check_space-clause-action : goal.returns-in_err-check_space-clause-action
returns-in_err-check_space-clause-action c =
    refused_early (sub_action_refusal c.args.module.now c.args.rows.now) tt _ _ c.from_residual.result _ c.in_err-check_space.ensures.refusal c.from_residual.ensures.1

pub returns-in_err-check_space-clause-well_formed : goal.returns-in_err-check_space-clause-well_formed
returns-in_err-check_space-clause-well_formed c = IfOk-from_err c.from_residual.result IsModule c.from_residual.ensures.0

pub returns-then-rows-dim-clause-action : goal.returns-then-rows-dim-clause-action
returns-then-rows-dim-clause-action c =
    let none = not_refused (sub_action_refusal c.args.module.now c.args.rows.now) tt c.in_ok-check_space.field-0 c.in_ok-check_space.ensures.refusal in
    answered_late (sub_action_refusal c.args.module.now c.args.rows.now) _ _ _ _ c.action_on_everything.result none (λ action acts. acts) (λ refusal stands. stands)
    c.action_on_everything.ensures.action

pub returns-then-rows-dim-clause-well_formed : goal.returns-then-rows-dim-clause-well_formed
returns-then-rows-dim-clause-well_formed c = c.action_on_everything.ensures.well_formed

pub action_on_everything-requires-clause-module_well_formed : goal.action_on_everything-requires-clause-module_well_formed
action_on_everything-requires-clause-module_well_formed c = c.dim.ensures.well_formed

pub action_on_everything-requires-clause-rows_well_formed : goal.action_on_everything-requires-clause-rows_well_formed
action_on_everything-requires-clause-rows_well_formed c = c.rows.ensures.well_formed

pub action_on_everything-requires-clause-independent : goal.action_on_everything-requires-clause-independent
action_on_everything-requires-clause-independent c = c.requires.independent

pub action_on_everything-requires-clause-square : goal.action_on_everything-requires-clause-square
action_on_everything-requires-clause-square c = sym c.rows.ensures.count ∙ c.if-rows-dim.true ∙ c.dim.ensures.count

pub action_on_everything-requires-clause-field : goal.action_on_everything-requires-clause-field
action_on_everything-requires-clause-field c =
    (space_rows c.args.module.now c.args.rows.now
    (not_refused (sub_action_refusal c.args.module.now c.args.rows.now) tt c.in_ok-check_space.field-0 c.in_ok-check_space.ensures.refusal)).field

pub action_on_everything-requires-clause-fits : goal.action_on_everything-requires-clause-fits
action_on_everything-requires-clause-fits c =
    (space_rows c.args.module.now c.args.rows.now
    (not_refused (sub_action_refusal c.args.module.now c.args.rows.now) tt c.in_ok-check_space.field-0 c.in_ok-check_space.ensures.refusal)).columns

pub action_on_proper-requires-clause-some_row : goal.action_on_proper-requires-clause-some_row
action_on_proper-requires-clause-some_row c =
    some_row c.args.rows.now.rows (space_rows c.args.module.now c.args.rows.now
    (not_refused (sub_action_refusal c.args.module.now c.args.rows.now) tt c.in_ok-check_space.field-0 c.in_ok-check_space.ensures.refusal)).some

pub action_on_proper-requires-clause-field : goal.action_on_proper-requires-clause-field
action_on_proper-requires-clause-field c =
    (space_rows c.args.module.now c.args.rows.now
    (not_refused (sub_action_refusal c.args.module.now c.args.rows.now) tt c.in_ok-check_space.field-0 c.in_ok-check_space.ensures.refusal)).field

pub action_on_proper-requires-clause-fits : goal.action_on_proper-requires-clause-fits
action_on_proper-requires-clause-fits c =
    (space_rows c.args.module.now c.args.rows.now
    (not_refused (sub_action_refusal c.args.module.now c.args.rows.now) tt c.in_ok-check_space.field-0 c.in_ok-check_space.ensures.refusal)).columns

pub returns-clause-action : goal.returns-clause-action
returns-clause-action c =
    let none = not_refused (sub_action_refusal c.args.module.now c.args.rows.now) tt c.in_ok-check_space.field-0 c.in_ok-check_space.ensures.refusal in
    answered_late (sub_action_refusal c.args.module.now c.args.rows.now) _ _ _ _ c.action_on_proper.result none (λ action acts. acts) (λ refusal stands. stands)
    c.action_on_proper.ensures.action

pub returns-clause-well_formed : goal.returns-clause-well_formed
returns-clause-well_formed c = c.action_on_proper.ensures.well_formed
