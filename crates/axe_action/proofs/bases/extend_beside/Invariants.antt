use Rattle.axe_action.proofs.BasisLaws.{IsExtendedBefore}
use Rattle.axe_action.proofs.bases.extend_beside.Given as goal

abbrev pub invariant-loop-column : goal.invariant-loop-column
invariant-loop-column l = IsExtendedBefore l.rows l.column l.extended
