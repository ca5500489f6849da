use Rattle.axe_algebra.specs.Bridge.{field_of}
use Rattle.axe_algebra.proofs.SquareMatrices.{transpose_criterion}
use Rattle.axe_algebra.proofs.inverses.invertible_exactly_when_transpose_is.Goals as goal

pub returns : goal.returns
returns c K = transpose_criterion (field_of K)
