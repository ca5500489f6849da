use Rattle.std.proofs.Common.{◌≡◌, ℕ, ◌+◌, ◌*◌, ◌<◌, ◌≤◌, get_or, length}
use Rattle.std.specs.Int.{bit_at}
use Rattle.axe_layer.proofs.parts.add_spread.Given as goal

abbrev pub invariant-loop-at : goal.invariant-loop-at
invariant-loop-at l = record {
  long : length l.numbers ≡ length l.fn.numbers;
  done : (j : ℕ) → j < l.at → get_or l.numbers j 0 ≡ get_or l.fn.numbers j 0 + l.factor * bit_at l.word j;
  left : (j : ℕ) → l.at ≤ j → get_or l.numbers j 0 ≡ get_or l.fn.numbers j 0;
}
