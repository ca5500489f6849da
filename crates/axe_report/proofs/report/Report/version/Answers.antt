use Rattle.std.proofs.Common.{rules}
use Rattle.axe_report.proofs.report.Report.version.Goals as goal

pub returns-clause-value : goal.returns-clause-value
returns-clause-value c = search rules
