use Rattle.axe_echelon.proofs.LeadingRowLaws.{IsHalfMoved}
use Rattle.axe_echelon.proofs.subspace.Subspace.into_reduced_rows.Given as goal

abbrev pub invariant-loop-column : goal.invariant-loop-column
invariant-loop-column l = IsHalfMoved l.fn.self l.column l.rows.items l.pivots l.reduced
