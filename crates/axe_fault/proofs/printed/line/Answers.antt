use Rattle.std.proofs.Common.{rules}
use Rattle.axe_fault.proofs.printed.line.Goals as goal

pub returns-clause-line : goal.returns-clause-line
returns-clause-line c = search rules
