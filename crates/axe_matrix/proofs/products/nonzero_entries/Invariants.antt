use Rattle.std.proofs.Common.{◌≤◌, ◌-◌, length}
use Rattle.axe_matrix.proofs.products.nonzero_entries.Given as goal

abbrev pub invariant-loop-index : goal.invariant-loop-index
invariant-loop-index l = record {
  fits : l.at ≤ length l.row.entries;
  counted : l.count ≤ l.at;
}

abbrev pub decreases-loop-index : goal.decreases-loop-index
decreases-loop-index l = length l.row.entries - l.at
