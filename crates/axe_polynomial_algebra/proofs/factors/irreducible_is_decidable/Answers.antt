use Rattle.axe_polynomial_algebra.proofs.ProperDivisors.{irreducible_or_not}
use Rattle.axe_polynomial_algebra.proofs.factors.irreducible_is_decidable.Goals as goal

pub returns : goal.returns
returns c = irreducible_or_not
