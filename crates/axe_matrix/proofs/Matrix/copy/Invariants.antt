use Rattle.std.proofs.Common.{[], get_or}
use Rattle.axe_matrix.proofs.PartialMatrices.{IsPartialMatrix}
use Rattle.axe_matrix.proofs.Matrix.copy.Given as goal

abbrev pub invariant-loop-index : goal.invariant-loop-index
invariant-loop-index l = IsPartialMatrix l.self.order l.self.cols (λ i. get_or l.self.rows i []) l.index l.copy
