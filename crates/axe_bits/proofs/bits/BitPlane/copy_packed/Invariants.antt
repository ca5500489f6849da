use Rattle.std.proofs.Common.{◌*◌}
use Rattle.axe_layer.proofs.PackedWords.{ArePackedBelow}
use Rattle.axe_bits.proofs.bits.BitPlane.copy_packed.Given as goal

abbrev pub invariant-loop-at : goal.invariant-loop-at
invariant-loop-at l = ArePackedBelow l.self (l.at * 64) l.bytes
