use Rattle.std.proofs.Common.{◌≡◌, ◌≤◌, length}
use Rattle.axe_action.specs.LeadingColumns.{AreLeadingColumns}
use Rattle.axe_action.proofs.leading.leading_columns.Given as goal

abbrev pub invariant-loop-index : goal.invariant-loop-index
invariant-loop-index l = record {
  leading : AreLeadingColumns l.next l.rows.rows l.columns.items;
  count : length l.columns.items ≡ l.index;
  within : l.next ≤ l.rows.cols;
}
