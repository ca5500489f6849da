use Rattle.axe_layer.proofs.PieceBits.{IsNumberOfBits}
use Rattle.axe_layer.proofs.layer.number_of_bits.Given as goal

abbrev pub invariant-loop-place : goal.invariant-loop-place
invariant-loop-place l = IsNumberOfBits l.base l.word l.place l.number
