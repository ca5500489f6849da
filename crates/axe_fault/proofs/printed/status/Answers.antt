use Rattle.std.proofs.Common.{rules}
use Rattle.axe_fault.proofs.printed.status.Goals as goal

pub returns-in-File : goal.returns-in-File
returns-in-File c = search rules

pub returns-in-Undecided : goal.returns-in-Undecided
returns-in-Undecided c = search rules
