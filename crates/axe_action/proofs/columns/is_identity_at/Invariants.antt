use Rattle.std.proofs.Common.{◌≡◌, ◌<◌, ℕ, [], length, get_or}
use Rattle.axe_algebra.specs.Lists.{unit_row}
use Rattle.axe_matrix.specs.Matrices.{entries_at}
use Rattle.axe_action.proofs.columns.is_identity_at.Given as goal

abbrev pub invariant-loop-index : goal.invariant-loop-index
invariant-loop-index l = (t : ℕ) → t < l.index → entries_at l.columns (get_or l.rows.rows t []) ≡ unit_row (length l.columns) t
