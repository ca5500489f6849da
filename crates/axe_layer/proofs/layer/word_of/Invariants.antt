use Rattle.std.proofs.Common.{◌≡◌, ℕ, ◌+◌, ◌<◌, ◌≤◌, get_or}
use Rattle.std.specs.Int.{bit_at}
use Rattle.axe_layer.proofs.layer.word_of.Given as goal

abbrev pub invariant-loop-at : goal.invariant-loop-at
invariant-loop-at l = record {
  done : (i : ℕ) → i < 64 → l.from + i < l.at → bit_at l.word i ≡ bit_at (get_or l.numbers (l.from + i) 0) l.place;
  left : (i : ℕ) → i < 64 → l.at ≤ l.from + i → bit_at l.word i ≡ 0;
}
