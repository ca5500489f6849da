use Rattle.axe_echelon.proofs.SolvingLaws.{IsSolvedFrom}
use Rattle.axe_echelon.proofs.solve.Given as goal

abbrev pub invariant-loop-index : goal.invariant-loop-index
invariant-loop-index l = IsSolvedFrom l.space l.steps l.index l.fn.multipliers l.multipliers
