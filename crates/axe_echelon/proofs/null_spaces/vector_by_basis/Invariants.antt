use Rattle.std.specs.Prelude.{length}
use Rattle.axe_echelon.specs.Echelons.{IsReducedMatrix}
use Rattle.axe_echelon.specs.Mirrored.{mirrored_row}
use Rattle.axe_echelon.proofs.OrthogonalLaws.{ArePlacesBefore}
use Rattle.axe_echelon.proofs.OrthogonalRows.{IsVectorUpTo}
use Rattle.axe_echelon.proofs.null_spaces.vector_by_basis.Given as goal

abbrev pub invariant-loop-pivot : goal.invariant-loop-pivot
invariant-loop-pivot l = record {
  places : (reduced : IsReducedMatrix l.space l.basis) → ArePlacesBefore (length l.basis.rows) reduced.basis.pivots l.pivot l.index;
  vector : IsVectorUpTo l.space l.basis l.column l.index (mirrored_row l.vector);
}
