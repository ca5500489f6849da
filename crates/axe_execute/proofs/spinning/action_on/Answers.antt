use Rattle.std.proofs.lemmas.Result.{err_from_is_err_and}
use Rattle.axe_execute.specs.ModuleCommands.{ActionOn}
use Rattle.axe_action.proofs.SubmoduleActions.{only_memory, action_on_basis}
use Rattle.axe_execute.proofs.spinning.action_on.Goals as goal

pub returns-in_err-basis_action : goal.returns-in_err-basis_action
unfolding ActionOn
returns-in_err-basis_action c =
    let p = err_from_is_err_and c.from_residual.result c.from_residual.ensures.1 in
    rw (p.1, p.2, only_memory c.args.module.now c.args.rows.now c.in_err-basis_action.field-0.0 c.requires.submodule c.in_err-basis_action.ensures.action) tt

pub returns : goal.returns
unfolding ActionOn
returns c =
    let acts = action_on_basis c.args.module.now c.args.rows.now c.in_ok-basis_action.field-0 c.requires.submodule c.in_ok-basis_action.ensures.action in
    (acts.1, c.in_ok-basis_action.ensures.well_formed.over.square)
