use Rattle.axe_matrix.specs.Matrices.{IsMatrix}
use Rattle.axe_echelon.proofs.ReducedLaws.{IsReducedUpTo}
use Rattle.axe_echelon.proofs.subspace.Subspace.reduced_rows.Given as goal

abbrev pub invariant-loop-column : goal.invariant-loop-column
invariant-loop-column l = record {
  so_far : IsReducedUpTo l.self l.column l.reduced;
  well_formed : IsMatrix l.reduced;
}
