use Rattle.std.proofs.Common.{rules}
use Rattle.axe_echelon.proofs.pivot_table.PivotTable.is_pivot.Goals as goal

pub returns : goal.returns
returns c = search rules

pub returns-in_default : goal.returns-in_default
returns-in_default c = search rules
