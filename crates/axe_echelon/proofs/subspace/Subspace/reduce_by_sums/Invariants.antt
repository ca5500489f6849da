use Rattle.std.proofs.Common.{◌*◌}
use Rattle.axe_echelon.specs.Subspaces.{IsReducedBelow}
use Rattle.axe_echelon.proofs.subspace.Subspace.reduce_by_sums.Given as goal

abbrev pub invariant-loop-at : goal.invariant-loop-at
invariant-loop-at l = IsReducedBelow l.self (l.at * 64) l.fn.row l.sum
