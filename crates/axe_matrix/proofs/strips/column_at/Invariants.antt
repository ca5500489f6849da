use Rattle.std.proofs.Common.{ℕ, ◌≡◌, ◌<◌, length, get_or}
use Rattle.axe_algebra.specs.Lists.{entry}
use Rattle.axe_matrix.proofs.strips.column_at.Given as goal

abbrev pub invariant-loop-index : goal.invariant-loop-index
invariant-loop-index l = record {
  fits : length l.column.items ≡ length l.lines;
  taken : (k : ℕ) → k < l.index → get_or l.column.items k 0 ≡ entry l.lines k l.place;
}
