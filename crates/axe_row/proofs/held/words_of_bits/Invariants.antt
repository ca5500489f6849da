use Rattle.std.proofs.Common.{ℕ, ◌≡◌, ◌<◌, length, get_or}
use Rattle.axe_row.proofs.held.words_of_bits.Given as goal

abbrev pub invariant-loop-at : goal.invariant-loop-at
invariant-loop-at g l = (length l.words ≡ g.row.W) × ((k : ℕ) → k < l.at → get_or l.words k 0 ≡ get_or l.from k 0)
