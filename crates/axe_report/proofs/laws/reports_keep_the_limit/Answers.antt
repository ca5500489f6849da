use Rattle.axe_report.proofs.Sizes.{report_within}
use Rattle.axe_report.proofs.laws.reports_keep_the_limit.Goals as goal

pub returns : goal.returns
returns c = report_within
