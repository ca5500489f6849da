use Rattle.std.proofs.Common.{◌≤◌, ◌-◌, length}
use Rattle.axe_echelon.proofs.LeadingRowLaws.{IsClearedUpTo}
use Rattle.axe_echelon.proofs.leading_rows.clear_after.Given as goal

abbrev pub invariant-loop-pivot : goal.invariant-loop-pivot
invariant-loop-pivot l = record {
  fits : l.start ≤ length l.row.entries;
  so_far : IsClearedUpTo l.fn.row.order (length l.fn.row.entries) l.column l.rows l.pivots l.start l.fn.row l.row;
}

abbrev pub decreases-loop-pivot : goal.decreases-loop-pivot
decreases-loop-pivot l = length l.fn.row.entries - l.start
