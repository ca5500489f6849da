use Rattle.std.proofs.Common.{rules}
use Rattle.axe_report.proofs.report.ReportFactor.multiplicity.Goals as goal

pub returns : goal.returns
returns c = search rules
