use Rattle.std.proofs.Common.{rules}
use Rattle.axe_fault.proofs.printed.number.Goals as goal

pub returns-in-Folder : goal.returns-in-Folder
returns-in-Folder c = search rules

pub returns-in-Undecided : goal.returns-in-Undecided
returns-in-Undecided c = search rules
