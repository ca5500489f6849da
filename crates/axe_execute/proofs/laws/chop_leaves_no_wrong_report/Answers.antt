use Rattle.axe_execute.proofs.AfterChop.{left_by_chop, before_or_after}
use Rattle.axe_execute.proofs.laws.chop_leaves_no_wrong_report.Goals as goal

pub returns-clause-left : goal.returns-clause-left
returns-clause-left c = left_by_chop

pub returns-clause-report : goal.returns-clause-report
returns-clause-report c = before_or_after
