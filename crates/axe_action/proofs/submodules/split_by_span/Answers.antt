use Rattle.std.proofs.Common.{Ok, Err}
use Rattle.axe_echelon.proofs.Exits.{no_memory}
use Rattle.axe_spin.proofs.SeedLaws.{vectors_accepted}
use Rattle.axe_action.proofs.SubmoduleLaws.{not_everything, proper_answers}
use Rattle.axe_action.proofs.submodules.split_by_span.Goals as goal

pub returns-in_err-sub-clause-sub : goal.returns-in_err-sub-clause-sub
returns-in_err-sub-clause-sub c = no_memory _ c.from_residual.result _ c.from_residual.ensures.1 c.in_err-sub.ensures.sub

pub returns-in_err-sub-clause-quotient : goal.returns-in_err-sub-clause-quotient
returns-in_err-sub-clause-quotient c = no_memory _ c.from_residual.result _ c.from_residual.ensures.1 c.in_err-sub.ensures.sub

pub returns-in_err-sub-clause-columns : goal.returns-in_err-sub-clause-columns
returns-in_err-sub-clause-columns c = no_memory _ c.from_residual.result _ c.from_residual.ensures.1 c.in_err-sub.ensures.sub

pub returns-in_err-quotient-clause-sub : goal.returns-in_err-quotient-clause-sub
returns-in_err-quotient-clause-sub c =
    no_memory _ c.from_residual-in_err-quotient.result c.in_err-quotient.field-0.0 c.from_residual-in_err-quotient.ensures.1
    (proper_answers c.args.module.now c.args.rows.now (Err c.in_err-quotient.field-0.0)
    (vectors_accepted c.args.module.now c.args.rows.now c.requires.field c.requires.fits)
    (not_everything c.args.module.now c.args.rows.now c.requires.field c.requires.fits c.in_ok-sub.ensures.rows_well_formed c.requires.independent c.requires.proper)
    c.requires.invariant c.in_err-quotient.ensures.action)

pub returns-in_err-quotient-clause-quotient : goal.returns-in_err-quotient-clause-quotient
returns-in_err-quotient-clause-quotient c =
    no_memory _ c.from_residual-in_err-quotient.result c.in_err-quotient.field-0.0 c.from_residual-in_err-quotient.ensures.1
    (proper_answers c.args.module.now c.args.rows.now (Err c.in_err-quotient.field-0.0)
    (vectors_accepted c.args.module.now c.args.rows.now c.requires.field c.requires.fits)
    (not_everything c.args.module.now c.args.rows.now c.requires.field c.requires.fits c.in_ok-sub.ensures.rows_well_formed c.requires.independent c.requires.proper)
    c.requires.invariant c.in_err-quotient.ensures.action)

pub returns-in_err-quotient-clause-columns : goal.returns-in_err-quotient-clause-columns
returns-in_err-quotient-clause-columns c =
    no_memory _ c.from_residual-in_err-quotient.result c.in_err-quotient.field-0.0 c.from_residual-in_err-quotient.ensures.1
    (proper_answers c.args.module.now c.args.rows.now (Err c.in_err-quotient.field-0.0)
    (vectors_accepted c.args.module.now c.args.rows.now c.requires.field c.requires.fits)
    (not_everything c.args.module.now c.args.rows.now c.requires.field c.requires.fits c.in_ok-sub.ensures.rows_well_formed c.requires.independent c.requires.proper)
    c.requires.invariant c.in_err-quotient.ensures.action)

pub returns-clause-sub : goal.returns-clause-sub
returns-clause-sub c = c.in_ok-sub.ensures.sub

pub returns-clause-quotient : goal.returns-clause-quotient
returns-clause-quotient c =
    proper_answers c.args.module.now c.args.rows.now (Ok c.in_ok-quotient.quotient)
    (vectors_accepted c.args.module.now c.args.rows.now c.requires.field c.requires.fits)
    (not_everything c.args.module.now c.args.rows.now c.requires.field c.requires.fits c.in_ok-sub.ensures.rows_well_formed c.requires.independent c.requires.proper)
    c.requires.invariant c.in_ok-quotient.ensures.action

pub returns-clause-columns : goal.returns-clause-columns
returns-clause-columns c = c.in_ok-sub.ensures.columns

pub returns-clause-well_formed : goal.returns-clause-well_formed
returns-clause-well_formed c = (c.in_ok-sub.ensures.well_formed, c.in_ok-quotient.ensures.well_formed)
