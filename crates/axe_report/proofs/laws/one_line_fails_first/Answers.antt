use Rattle.std.proofs.Common.{refl}
use Rattle.axe_report.proofs.Failing.{one_line}
use Rattle.axe_report.proofs.laws.one_line_fails_first.Goals as goal

pub returns-clause-line : goal.returns-clause-line
returns-clause-line c = one_line

pub returns-clause-report : goal.returns-clause-report
returns-clause-report c = λ report line is fails. fails.no_report (report, is, refl)
