use Rattle.axe_reduction.proofs.SolutionRows.{ArePlacedBelow}
use Rattle.axe_reduction.proofs.solutions.places_of.Given as goal

abbrev pub invariant-loop-place : goal.invariant-loop-place
invariant-loop-place l = ArePlacedBelow l.numbers l.place l.places.items
