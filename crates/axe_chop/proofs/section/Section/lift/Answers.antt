use Rattle.std.proofs.Common.{rules}
use Rattle.axe_chop.proofs.section.Section.lift.Goals as goal

pub returns-clause-lifted : goal.returns-clause-lifted
returns-clause-lifted c = search rules
