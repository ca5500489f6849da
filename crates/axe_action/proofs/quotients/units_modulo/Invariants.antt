use Rattle.axe_algebra.specs.Lists.{unit_row}
use Rattle.axe_action.specs.FreeColumns.{HasRowsModulo}
use Rattle.axe_action.proofs.quotients.units_modulo.Given as goal

abbrev pub invariant-loop-column : goal.invariant-loop-column
invariant-loop-column l = HasRowsModulo l.span l.columns (unit_row l.span.cols) l.column l.units
