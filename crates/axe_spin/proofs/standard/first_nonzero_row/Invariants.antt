use Rattle.std.proofs.Common.{ℕ, [], ◌<◌, slice_index_or}
use Rattle.axe_row.specs.Operations.{IsZeroVector}
use Rattle.axe_spin.proofs.standard.first_nonzero_row.Given as goal

abbrev pub invariant-loop-index : goal.invariant-loop-index
invariant-loop-index l = (i : ℕ) → i < l.index → IsZeroVector (slice_index_or l.matrix.rows i [])
