use Rattle.axe_action.specs.LeadingColumns.{IsOtherColumn}
use Rattle.axe_action.proofs.ColumnLists.{AreColumnsBelow}
use Rattle.axe_action.proofs.LeadingLaws.{ArePassed}
use Rattle.axe_action.proofs.leading.other_columns.Given as goal

abbrev pub invariant-loop-column : goal.invariant-loop-column
invariant-loop-column l = record {
  others : AreColumnsBelow (IsOtherColumn l.bound l.columns) l.column l.others.items;
  passed : ArePassed l.columns l.passed l.column;
}
