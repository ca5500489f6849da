use Rattle.axe_reduction.proofs.GrowingLaws.{IsClearedBelow}
use Rattle.axe_reduction.proofs.few.clear.Given as goal

abbrev pub invariant-loop-index : goal.invariant-loop-index
invariant-loop-index l = IsClearedBelow l.index l.pivots l.reduced l.fn.row l.row
