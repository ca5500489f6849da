use Rattle.axe_matrix.specs.Matrices.{IsMatrix}
use Rattle.axe_echelon.proofs.OrthogonalSpaces.{IsOrthogonalDownTo}
use Rattle.axe_echelon.proofs.null_spaces.orthogonal_rows.Given as goal

abbrev pub invariant-loop-column : goal.invariant-loop-column
invariant-loop-column l = record {
  so_far : IsOrthogonalDownTo l.space l.column l.orthogonal;
  well_formed : IsMatrix l.orthogonal;
}
