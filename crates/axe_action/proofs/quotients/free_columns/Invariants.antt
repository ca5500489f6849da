use Rattle.axe_action.specs.FreeColumns.{IsFreeColumn}
use Rattle.axe_action.proofs.ColumnLists.{AreColumnsBelow}
use Rattle.axe_action.proofs.quotients.free_columns.Given as goal

abbrev pub invariant-loop-column : goal.invariant-loop-column
invariant-loop-column l = AreColumnsBelow (IsFreeColumn l.span) l.column l.columns.items
