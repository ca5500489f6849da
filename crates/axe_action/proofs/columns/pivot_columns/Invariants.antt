use Rattle.axe_algebra.specs.SpansOfLists.{IsPivot}
use Rattle.axe_field.specs.NumberFields.{number_field}
use Rattle.axe_action.proofs.ColumnLists.{AreColumnsBelow}
use Rattle.axe_action.proofs.columns.pivot_columns.Given as goal

abbrev pub invariant-loop-column : goal.invariant-loop-column
invariant-loop-column l = AreColumnsBelow (IsPivot (number_field l.span.order) l.span.rows) l.column l.columns.items
