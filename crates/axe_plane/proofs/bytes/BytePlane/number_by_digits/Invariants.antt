use Rattle.axe_layer.proofs.PieceDigits.{IsNumberOf}
use Rattle.axe_plane.proofs.bytes.BytePlane.number_by_digits.Given as goal

abbrev pub invariant-loop-index : goal.invariant-loop-index
invariant-loop-index l = IsNumberOf l.base l.at l.self.digits l.index l.number
