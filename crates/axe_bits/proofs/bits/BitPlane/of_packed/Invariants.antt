use Rattle.std.proofs.Common.{◌*◌}
use Rattle.axe_algebra.specs.Lists.{listed}
use Rattle.axe_layer.specs.Packed.{packed_bit}
use Rattle.axe_layer.proofs.DigitWords.{HaveDigits}
use Rattle.axe_bits.proofs.bits.BitPlane.of_packed.Given as goal

abbrev pub invariant-loop-at : goal.invariant-loop-at
invariant-loop-at l = HaveDigits (listed l.len (packed_bit l.bytes)) (l.at * 64) l.words.items
