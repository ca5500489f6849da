use Rattle.std.proofs.Common.{arith}
use Rattle.std.proofs.lemmas.Grind.{common_steps}
use Rattle.axe_report.proofs.first_line.header_with.Goals as goal

pub returns : goal.returns
returns c = grind (arith, common_steps)
