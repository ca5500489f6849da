use Rattle.axe_algebra.specs.Bridge.{field_of}
use Rattle.axe_polynomial_algebra.proofs.Dividing.{divide, division_is_unique}
use Rattle.axe_polynomial_algebra.proofs.division.division_with_remainder.Goals as goal

pub returns-clause-some : goal.returns-clause-some
returns-clause-some c K = divide (field_of K)

pub returns-clause-only : goal.returns-clause-only
returns-clause-only c K = division_is_unique (field_of K)
