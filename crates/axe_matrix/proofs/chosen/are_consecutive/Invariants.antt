use Rattle.std.proofs.Common.{◌≡◌, ℕ, ◌+◌, ◌<◌, get_or}
use Rattle.axe_matrix.proofs.chosen.are_consecutive.Given as goal

abbrev pub invariant-loop-index : goal.invariant-loop-index
invariant-loop-index l = (t : ℕ) → t < l.index → get_or l.columns t 0 ≡ get_or l.columns 0 0 + t
