use Rattle.axe_echelon.proofs.OrthogonalRows.{IsVectorFrom}
use Rattle.axe_echelon.proofs.null_spaces.vector_by_rows.Given as goal

abbrev pub invariant-loop-index : goal.invariant-loop-index
invariant-loop-index l = IsVectorFrom l.space l.column l.index l.vector
