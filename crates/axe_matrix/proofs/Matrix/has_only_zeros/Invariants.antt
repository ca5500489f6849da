use Rattle.std.proofs.Common.{◌≡◌, take, true}
use Rattle.axe_matrix.specs.Matrices.{has_only_zeros}
use Rattle.axe_matrix.proofs.Matrix.has_only_zeros.Given as goal

abbrev pub invariant-loop-index : goal.invariant-loop-index
invariant-loop-index l = has_only_zeros (take l.index l.self.rows) ≡ true
