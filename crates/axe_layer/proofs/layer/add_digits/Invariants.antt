use Rattle.std.proofs.Common.{◌*◌}
use Rattle.axe_layer.specs.Bits.{bits}
use Rattle.axe_layer.proofs.NumberSums.{IsAddedBelow}
use Rattle.axe_layer.proofs.layer.add_digits.Given as goal

abbrev pub invariant-loop-at : goal.invariant-loop-at
invariant-loop-at l = IsAddedBelow l.fn.numbers l.factor (bits l.len l.words) (l.at * 64) l.numbers
