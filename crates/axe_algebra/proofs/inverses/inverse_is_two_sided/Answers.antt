use Rattle.axe_algebra.specs.Bridge.{field_of}
use Rattle.axe_algebra.proofs.SquareMatrices.{two_sided, left_two_sided}
use Rattle.axe_algebra.proofs.inverses.inverse_is_two_sided.Goals as goal

pub returns-clause-right : goal.returns-clause-right
returns-clause-right c K = two_sided (field_of K)

pub returns-clause-left : goal.returns-clause-left
returns-clause-left c K = left_two_sided (field_of K)
