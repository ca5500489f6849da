use Rattle.std.proofs.Common.{◌*◌}
use Rattle.axe_layer.specs.Digits.{digits_at}
use Rattle.axe_layer.proofs.DigitWords.{HaveDigits}
use Rattle.axe_layer.proofs.layer.fill_with_bits.Given as goal

abbrev pub invariant-loop-at : goal.invariant-loop-at
invariant-loop-at l = HaveDigits (digits_at 2 l.place l.numbers) (l.at * 64) l.words
