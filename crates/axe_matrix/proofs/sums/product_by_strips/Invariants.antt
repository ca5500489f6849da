use Rattle.std.proofs.Common.{◌≤◌, ◌-◌}
use Rattle.axe_matrix.specs.Matrices.{matrix_product}
use Rattle.axe_matrix.proofs.PlacedColumns.{HasFirstColumns}
use Rattle.axe_matrix.proofs.sums.product_by_strips.Given as goal

abbrev pub invariant-loop-start : goal.invariant-loop-start
invariant-loop-start l = record {
  fits : l.start ≤ l.b.cols;
  so_far : HasFirstColumns l.start (matrix_product l.a l.b) l.product;
}

abbrev pub decreases-loop-start : goal.decreases-loop-start
decreases-loop-start l = l.b.cols - l.start
