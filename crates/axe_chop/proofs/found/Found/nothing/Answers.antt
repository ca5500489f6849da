use Rattle.std.proofs.Common.{rules}
use Rattle.axe_chop.proofs.found.Found.nothing.Goals as goal

pub returns-clause-basis : goal.returns-clause-basis
returns-clause-basis c = search rules
