use Rattle.axe_report.proofs.Deciding.{answered}
use Rattle.axe_report.proofs.laws.bytes_are_a_report_or_fail.Goals as goal

pub returns : goal.returns
returns c = answered
