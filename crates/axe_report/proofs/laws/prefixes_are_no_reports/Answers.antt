use Rattle.axe_report.proofs.Unique.{no_prefix}
use Rattle.axe_report.proofs.laws.prefixes_are_no_reports.Goals as goal

pub returns : goal.returns
returns c = no_prefix
