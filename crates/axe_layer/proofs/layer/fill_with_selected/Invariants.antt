use Rattle.std.proofs.Common.{◌*◌, map}
use Rattle.axe_lane.specs.Words.{bit_of}
use Rattle.axe_layer.proofs.DigitWords.{HaveDigits}
use Rattle.axe_layer.proofs.layer.fill_with_selected.Given as goal

abbrev pub invariant-loop-at : goal.invariant-loop-at
invariant-loop-at l = HaveDigits (map (bit_of l.layer) l.indices) (l.at * 64) l.words
