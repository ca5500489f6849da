use Rattle.std.proofs.Common.{rules}
use Rattle.axe_echelon.proofs.pivot_table.PivotTable.mark.Goals as goal

pub returns-clause-marks : goal.returns-clause-marks
returns-clause-marks c = search rules

pub returns-clause-rows : goal.returns-clause-rows
returns-clause-rows c = search rules

pub returns-clause-block : goal.returns-clause-block
returns-clause-block c = search rules
