use Rattle.std.proofs.Common.{rules}
use Rattle.axe_arguments.proofs.name.Name.as_str.Goals as goal

pub returns-clause-text : goal.returns-clause-text
returns-clause-text c = search rules
