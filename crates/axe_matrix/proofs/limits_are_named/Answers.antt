use Rattle.std.proofs.Common.{rules}
use Rattle.axe_matrix.proofs.limits_are_named.Goals as goal

pub returns-clause-rows : goal.returns-clause-rows
returns-clause-rows c = search rules

pub returns-clause-columns : goal.returns-clause-columns
returns-clause-columns c = search rules
