use Rattle.std.proofs.Common.{rules}
use Rattle.axe_report.proofs.report.FactorWitness.new.Goals as goal

pub returns : goal.returns
returns c = search rules
