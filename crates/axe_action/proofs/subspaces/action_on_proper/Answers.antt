use Rattle.std.proofs.Common.{refl}
use Rattle.std.proofs.lemmas.Result.{IfOk-from_err}
use Rattle.axe_spin.specs.Modules.{IsModule}
use Rattle.axe_echelon.proofs.Exits.{no_memory_late}
use Rattle.axe_action.proofs.subspaces.action_on_proper.Goals as goal

pub returns-in_err-span-clause-action : goal.returns-in_err-span-clause-action
returns-in_err-span-clause-action c = no_memory_late _ _ _ c.from_residual.result _ refl c.in_err-span.ensures.span c.from_residual.ensures.1

pub returns-in_err-span-clause-well_formed : goal.returns-in_err-span-clause-well_formed
returns-in_err-span-clause-well_formed c = IfOk-from_err c.from_residual.result IsModule c.from_residual.ensures.0

pub coordinate_columns-requires-clause-independent : goal.coordinate_columns-requires-clause-independent
coordinate_columns-requires-clause-independent c = c.requires.independent

pub coordinate_columns-requires-clause-span : goal.coordinate_columns-requires-clause-span
coordinate_columns-requires-clause-span c = c.in_ok-span.ensures.span

pub returns-in_err-columns-clause-action : goal.returns-in_err-columns-clause-action
returns-in_err-columns-clause-action c =
    no_memory_late _ _ _ c.from_residual-in_err-columns.result _ refl c.in_err-columns.ensures c.from_residual-in_err-columns.ensures.1

pub returns-in_err-columns-clause-well_formed : goal.returns-in_err-columns-clause-well_formed
returns-in_err-columns-clause-well_formed c = IfOk-from_err c.from_residual-in_err-columns.result IsModule c.from_residual-in_err-columns.ensures.0

pub action_over-requires-clause-independent : goal.action_over-requires-clause-independent
action_over-requires-clause-independent c = c.requires.independent

pub action_over-requires-clause-some_row : goal.action_over-requires-clause-some_row
action_over-requires-clause-some_row c = c.requires.some_row

pub action_over-requires-clause-field : goal.action_over-requires-clause-field
action_over-requires-clause-field c = c.requires.field

pub action_over-requires-clause-fits : goal.action_over-requires-clause-fits
action_over-requires-clause-fits c = c.requires.fits

pub action_over-requires-clause-span : goal.action_over-requires-clause-span
action_over-requires-clause-span c = c.in_ok-span.ensures.span

pub returns-in_default-clause-action : goal.returns-in_default-clause-action
returns-in_default-clause-action c = c.action_over.ensures.action

pub returns-in_default-clause-well_formed : goal.returns-in_default-clause-well_formed
returns-in_default-clause-well_formed c = c.action_over.ensures.well_formed

pub returns-clause-action : goal.returns-clause-action
returns-clause-action c = c.action_on_basis.ensures.action

pub returns-clause-well_formed : goal.returns-clause-well_formed
returns-clause-well_formed c = c.action_on_basis.ensures.well_formed
