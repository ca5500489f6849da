use Rattle.std.proofs.Common.{◌≡◌, ◌⊎◌, ℕ, ◌+◌, ◌*◌, ◌<◌, ◌≤◌, get_or}
use Rattle.std.specs.Int.{bit_at}
use Rattle.axe_layer.proofs.blocks.put_words_of_bytes.Given as goal

abbrev pub invariant-loop-place : goal.invariant-loop-place
invariant-loop-place l = record {
  done : (k i : ℕ) → k < l.place → i < 64 → bit_at (get_or l.words (l.at * 8 + k) 0) i ≡ bit_at (get_or l.bytes i 0) k;
  kept : (j : ℕ) → j < l.at * 8 ⊎ l.at * 8 + 8 ≤ j → get_or l.words j 0 ≡ get_or l.fn.words j 0;
}
