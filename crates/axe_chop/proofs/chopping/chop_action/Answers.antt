use Rattle.std.proofs.Common.{subst}
use Rattle.axe_spin.specs.Modules.{IsModule}
use Rattle.axe_chop.specs.Kept.{acting_module}
use Rattle.axe_chop.proofs.AnswerLaws.{answer_is_true, small_answer, no_memory_to_chop}
use Rattle.axe_chop.proofs.chopping.chop_action.Goals as goal

pub returns-clause-run : goal.returns-clause-run
returns-clause-run c = c.answer_of.ensures (acting_module c.args.action) c.args.seed c.args.words c.in_ok-searched.ensures

pub returns-clause-holds : goal.returns-clause-holds
returns-clause-holds c =
    answer_is_true (acting_module c.args.action) (subst IsModule c.module.ensures c.dim.ensures.well_formed) c.args.seed c.args.words c.answer_of.result
    (c.answer_of.ensures (acting_module c.args.action) c.args.seed c.args.words c.in_ok-searched.ensures)

pub returns-clause-small : goal.returns-clause-small
returns-clause-small c few =
    small_answer (acting_module c.args.action) (subst IsModule c.module.ensures c.dim.ensures.well_formed) c.args.seed c.args.words few c.answer_of.result
    (c.answer_of.ensures (acting_module c.args.action) c.args.seed c.args.words c.in_ok-searched.ensures)

pub returns-in_err-searched-clause-run : goal.returns-in_err-searched-clause-run
returns-in_err-searched-clause-run c =
    no_memory_to_chop (acting_module c.args.action) c.args.seed c.args.words c.from_residual.result c.from_residual.ensures.1

pub returns-in_err-searched-clause-holds : goal.returns-in_err-searched-clause-holds
returns-in_err-searched-clause-holds c =
    answer_is_true (acting_module c.args.action) (subst IsModule c.module.ensures c.dim.ensures.well_formed) c.args.seed c.args.words c.from_residual.result
    (no_memory_to_chop (acting_module c.args.action) c.args.seed c.args.words c.from_residual.result c.from_residual.ensures.1)

pub returns-in_err-searched-clause-small : goal.returns-in_err-searched-clause-small
returns-in_err-searched-clause-small c few =
    small_answer (acting_module c.args.action) (subst IsModule c.module.ensures c.dim.ensures.well_formed) c.args.seed c.args.words few c.from_residual.result
    (no_memory_to_chop (acting_module c.args.action) c.args.seed c.args.words c.from_residual.result c.from_residual.ensures.1)
