use Rattle.axe_matrix.specs.Matrices.{IsMatrix}
use Rattle.axe_reduction.specs.Solutions.{AreRowsByPivot}
use Rattle.axe_reduction.proofs.solutions.rows_by_pivot.Given as goal

abbrev pub invariant-loop-column : goal.invariant-loop-column
invariant-loop-column l = record {
  so_far : AreRowsByPivot l.pivots l.rows l.column l.sorted;
  well_formed : IsMatrix l.sorted;
}
