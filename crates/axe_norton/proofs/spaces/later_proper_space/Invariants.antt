use Rattle.axe_norton.proofs.PointRuns.{CoordinatesTried}
use Rattle.axe_norton.proofs.spaces.later_proper_space.Given as goal

abbrev pub invariant-loop-coordinates : goal.invariant-loop-coordinates
invariant-loop-coordinates l = CoordinatesTried l.module l.null_space l.coordinates-iterator
