use Rattle.axe_algebra.specs.Bridge.{field_of}
use Rattle.axe_algebra.proofs.SquareMatrices.{inverse_is_unique}
use Rattle.axe_algebra.proofs.inverses.inverse_is_unique.Goals as goal

pub returns : goal.returns
returns c K = inverse_is_unique (field_of K)
