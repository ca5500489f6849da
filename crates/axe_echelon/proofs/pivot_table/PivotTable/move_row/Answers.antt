use Rattle.std.proofs.Common.{rules}
use Rattle.axe_echelon.proofs.pivot_table.PivotTable.move_row.Goals as goal

pub returns-clause-marks : goal.returns-clause-marks
returns-clause-marks c = search rules

pub returns-clause-rows : goal.returns-clause-rows
returns-clause-rows c = search rules

pub returns-clause-blocks : goal.returns-clause-blocks
returns-clause-blocks c = search rules
