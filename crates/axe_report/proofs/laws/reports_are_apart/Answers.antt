use Rattle.axe_report.proofs.Unique.{report_apart}
use Rattle.axe_report.proofs.laws.reports_are_apart.Goals as goal

pub returns : goal.returns
returns c = report_apart
