use Rattle.std.proofs.Common.{rules}
use Rattle.axe_arguments.proofs.limits_are_named.Goals as goal

pub returns-clause-words : goal.returns-clause-words
returns-clause-words c = search rules

pub returns-clause-generators : goal.returns-clause-generators
returns-clause-generators c = search rules

pub returns-clause-name_bytes : goal.returns-clause-name_bytes
returns-clause-name_bytes c = search rules
