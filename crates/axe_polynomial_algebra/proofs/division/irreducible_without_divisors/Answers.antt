use Rattle.axe_algebra.specs.Bridge.{field_of}
use Rattle.axe_polynomial_algebra.proofs.Cofactors.{irreducible_without_divisors}
use Rattle.axe_polynomial_algebra.proofs.division.irreducible_without_divisors.Goals as goal

pub returns : goal.returns
returns c K = irreducible_without_divisors (field_of K)
