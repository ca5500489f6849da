use Rattle.axe_layer.proofs.NumberSums.{IsAddedBelow}
use Rattle.axe_plane.proofs.bytes.BytePlane.add_to.Given as goal

abbrev pub invariant-loop-at : goal.invariant-loop-at
invariant-loop-at l = IsAddedBelow l.fn.numbers l.factor l.self.digits l.at l.numbers
