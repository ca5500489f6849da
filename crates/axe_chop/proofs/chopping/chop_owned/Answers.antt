use Rattle.axe_chop.proofs.chopping.chop_owned.Goals as goal

pub returns-clause-run : goal.returns-clause-run
returns-clause-run c = c.chop_action.ensures.run

pub returns-clause-holds : goal.returns-clause-holds
returns-clause-holds c = c.chop_action.ensures.holds

pub returns-clause-small : goal.returns-clause-small
returns-clause-small c = c.chop_action.ensures.small
