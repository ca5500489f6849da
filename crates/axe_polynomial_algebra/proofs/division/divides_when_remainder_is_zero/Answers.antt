use Rattle.axe_algebra.specs.Bridge.{field_of}
use Rattle.axe_polynomial_algebra.proofs.Dividing.{divides_when_zero, divides_or_not}
use Rattle.axe_polynomial_algebra.proofs.division.divides_when_remainder_is_zero.Goals as goal

pub returns-clause-criterion : goal.returns-clause-criterion
returns-clause-criterion c K = divides_when_zero (field_of K)

pub returns-clause-decidable : goal.returns-clause-decidable
returns-clause-decidable c K = divides_or_not (field_of K)
