use Rattle.std.proofs.Common.{rules}
use Rattle.axe_report.proofs.report.ReportFactor.new.Goals as goal

pub returns : goal.returns
returns c = search rules
