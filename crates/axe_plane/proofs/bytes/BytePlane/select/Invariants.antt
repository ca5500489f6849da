use Rattle.std.proofs.Common.{◌≡◌, ℕ, ◌<◌, get_or, length}
use Rattle.axe_plane.proofs.bytes.BytePlane.select.Given as goal

abbrev pub invariant-loop-at : goal.invariant-loop-at
invariant-loop-at l = record {
  long : length l.bytes.items ≡ length l.indices;
  so_far : (j : ℕ) → j < l.at → get_or l.bytes.items j 0 ≡ get_or l.self.digits (get_or l.indices j 0) 0;
}
