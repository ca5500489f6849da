use Rattle.axe_algebra.specs.Lists.{listed}
use Rattle.axe_matrix.proofs.PartialMatrices.{IsPartialMatrix}
use Rattle.axe_matrix.proofs.sums.MatrixSum.zero.Given as goal

abbrev pub invariant-loop-index : goal.invariant-loop-index
invariant-loop-index l = IsPartialMatrix l.field l.cols (λ i. listed l.cols (λ j. 0)) l.index l.sums
