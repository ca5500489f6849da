use Rattle.axe_algebra.specs.Bridge.{field_of}
use Rattle.axe_algebra.proofs.SquareMatrices.{null_space_criterion}
use Rattle.axe_algebra.proofs.inverses.invertible_exactly_when_null_space_is_zero.Goals as goal

pub returns : goal.returns
returns c K = null_space_criterion (field_of K)
