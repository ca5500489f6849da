use Rattle.std.proofs.Common.{◌≤◌, ◌-◌}
use Rattle.axe_row.specs.Combinations.{most_combined}
use Rattle.axe_matrix.proofs.products.rows_combined.Given as goal

abbrev pub invariant-loop-size : goal.invariant-loop-size
invariant-loop-size l = record {
  some : 1 ≤ l.size;
  fits : l.size ≤ most_combined l.field;
}

abbrev pub decreases-loop-size : goal.decreases-loop-size
decreases-loop-size l = l.most - l.size
