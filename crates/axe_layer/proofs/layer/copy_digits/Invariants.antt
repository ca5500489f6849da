use Rattle.std.proofs.Common.{◌*◌, length}
use Rattle.axe_layer.specs.Bits.{bits}
use Rattle.axe_layer.proofs.DigitWords.{IsWrittenBelow}
use Rattle.axe_layer.proofs.layer.copy_digits.Given as goal

abbrev pub invariant-loop-at : goal.invariant-loop-at
invariant-loop-at l = IsWrittenBelow (bits (length l.fn.numbers) l.words) (l.at * 64) l.numbers
