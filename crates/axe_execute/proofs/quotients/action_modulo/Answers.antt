use Rattle.std.proofs.lemmas.Result.{err_from_is_err_and}
use Rattle.axe_spin.specs.Modules.{ModuleValue, HasSquareGenerators, rows_refusal}
use Rattle.axe_action.specs.Actions.{IsProperActionModulo, quotient_late}
use Rattle.axe_execute.specs.ModuleCommands.{ActionModulo}
use Rattle.axe_plan.proofs.Refused.{refused_fault_or, accepted_value_or}
use Rattle.axe_execute.proofs.quotients.action_modulo.Goals as goal

pub returns-in_err-quotient_action : goal.returns-in_err-quotient_action
unfolding ActionModulo
returns-in_err-quotient_action c =
    let p = err_from_is_err_and c.from_residual.result c.from_residual.ensures.1 in
    rw (p.1, p.2) (refused_fault_or (IsProperActionModulo c.args.module.now c.args.rows.now)
    (λ action. IsProperActionModulo c.args.module.now c.args.rows.now action × HasSquareGenerators action)
    (quotient_late c.args.module.now c.args.rows.now) (rows_refusal c.args.module.now c.args.rows.now) c.in_err-quotient_action.field-0.0
    c.in_err-quotient_action.ensures.action)

pub returns : goal.returns
unfolding ActionModulo
returns c =
    accepted_value_or (IsProperActionModulo c.args.module.now c.args.rows.now)
    (λ (action : ModuleValue). IsProperActionModulo c.args.module.now c.args.rows.now action × HasSquareGenerators action)
    (quotient_late c.args.module.now c.args.rows.now) (rows_refusal c.args.module.now c.args.rows.now) c.in_ok-quotient_action.field-0
    (λ of. (of, c.in_ok-quotient_action.ensures.well_formed.over.square)) c.in_ok-quotient_action.ensures.action
