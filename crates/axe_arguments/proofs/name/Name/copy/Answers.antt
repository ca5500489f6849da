use Rattle.std.proofs.Common.{rules}
use Rattle.axe_arguments.proofs.name.Name.copy.Goals as goal

-- the copy has the bytes of the name
pub returns : goal.returns
returns c = search rules
