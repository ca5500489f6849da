use Rattle.std.proofs.Common.{◌+◌, ◌*◌}
use Rattle.axe_algebra.specs.Lists.{listed}
use Rattle.axe_lane.specs.Words.{bit_of}
use Rattle.axe_layer.proofs.DigitWords.{HaveDigits}
use Rattle.axe_layer.proofs.layer.fill_with_part.Given as goal

abbrev pub invariant-loop-at : goal.invariant-loop-at
invariant-loop-at l = HaveDigits (listed l.len (λ j. bit_of l.layer (l.start + j))) (l.at * 64) l.words
