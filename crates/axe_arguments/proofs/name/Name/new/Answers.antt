use Rattle.std.proofs.Common.{rules}
use Rattle.axe_arguments.proofs.name.Name.new.Goals as goal

-- a text that breaks the rule is a bad name
pub returns-then-not-is_name-clause-bad_name : goal.returns-then-not-is_name-clause-bad_name
returns-then-not-is_name-clause-bad_name c = search rules
