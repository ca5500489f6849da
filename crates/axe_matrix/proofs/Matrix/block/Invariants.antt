use Rattle.std.proofs.Common.{◌+◌}
use Rattle.axe_algebra.specs.Lists.{entry, listed}
use Rattle.axe_matrix.proofs.PartialMatrices.{IsPartialMatrix}
use Rattle.axe_matrix.proofs.Matrix.block.Given as goal

abbrev pub invariant-loop-index : goal.invariant-loop-index
invariant-loop-index l =
    IsPartialMatrix l.self.order l.cols (λ i. listed l.cols (λ j. entry l.self.rows (l.row + i) (l.column + j))) l.index l.block
