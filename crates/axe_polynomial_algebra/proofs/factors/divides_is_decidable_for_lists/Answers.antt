use Rattle.axe_polynomial_algebra.proofs.ProperDivisors.{divides_list_or_not}
use Rattle.axe_polynomial_algebra.proofs.factors.divides_is_decidable_for_lists.Goals as goal

pub returns : goal.returns
returns c = divides_list_or_not
