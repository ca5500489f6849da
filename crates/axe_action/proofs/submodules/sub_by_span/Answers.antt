use Rattle.std.proofs.Common.{Err}
use Rattle.axe_echelon.proofs.Exits.{no_memory}
use Rattle.axe_action.specs.Actions.{IsBasisAction}
use Rattle.axe_action.proofs.SubmoduleLaws.{invariant_answers}
use Rattle.axe_action.proofs.QuotientRows.{free_of_rows}
use Rattle.axe_action.proofs.submodules.sub_by_span.Goals as goal

pub returns-in_err-span-clause-sub : goal.returns-in_err-span-clause-sub
returns-in_err-span-clause-sub c = no_memory _ c.from_residual.result _ c.from_residual.ensures.1 c.in_err-span.ensures.span

pub returns-in_err-span-clause-columns : goal.returns-in_err-span-clause-columns
returns-in_err-span-clause-columns c = no_memory _ c.from_residual.result _ c.from_residual.ensures.1 c.in_err-span.ensures.span

pub returns-in_err-columns-clause-sub : goal.returns-in_err-columns-clause-sub
returns-in_err-columns-clause-sub c = no_memory _ c.from_residual-in_err-columns.result _ c.from_residual-in_err-columns.ensures.1 c.in_err-columns.ensures.free

pub returns-in_err-columns-clause-columns : goal.returns-in_err-columns-clause-columns
returns-in_err-columns-clause-columns c = no_memory _ c.from_residual-in_err-columns.result _ c.from_residual-in_err-columns.ensures.1 c.in_err-columns.ensures.free

pub returns-in_err-sub-clause-sub : goal.returns-in_err-sub-clause-sub
returns-in_err-sub-clause-sub c =
    no_memory _ c.from_residual-in_err-sub.result c.in_err-sub.field-0.0 c.from_residual-in_err-sub.ensures.1
    (invariant_answers c.args.module.now c.args.rows.now (IsBasisAction c.args.module.now c.args.rows.now) (Err c.in_err-sub.field-0.0)
    c.requires.invariant c.in_err-sub.ensures.action)

pub returns-in_err-sub-clause-columns : goal.returns-in_err-sub-clause-columns
returns-in_err-sub-clause-columns c =
    no_memory _ c.from_residual-in_err-sub.result c.in_err-sub.field-0.0 c.from_residual-in_err-sub.ensures.1
    (invariant_answers c.args.module.now c.args.rows.now (IsBasisAction c.args.module.now c.args.rows.now) (Err c.in_err-sub.field-0.0)
    c.requires.invariant c.in_err-sub.ensures.action)

pub returns-clause-sub : goal.returns-clause-sub
returns-clause-sub c = c.in_ok-sub.ensures.action.1

pub returns-clause-columns : goal.returns-clause-columns
returns-clause-columns c =
    free_of_rows c.args.rows.now c.in_ok-span.span c.in_ok-columns.columns.items c.in_ok-span.ensures.span c.in_ok-columns.ensures.free
