use Rattle.std.proofs.Common.{rules}
use Rattle.axe_fault.proofs.fault.Fault.of_folder.Goals as goal

pub returns-in_default : goal.returns-in_default
returns-in_default c = search rules
