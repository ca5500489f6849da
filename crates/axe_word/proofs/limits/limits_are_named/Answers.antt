use Rattle.std.proofs.Common.{rules}
use Rattle.axe_word.proofs.limits.limits_are_named.Goals as goal

pub returns-clause-terms : goal.returns-clause-terms
returns-clause-terms c = search rules

pub returns-clause-numbers : goal.returns-clause-numbers
returns-clause-numbers c = search rules
