use Rattle.std.proofs.Common.{rules}
use Rattle.axe_arguments.proofs.count.WordCount.get.Goals as goal

pub returns-clause-number : goal.returns-clause-number
returns-clause-number c = search rules

pub returns-clause-range : goal.returns-clause-range
returns-clause-range c = search rules
