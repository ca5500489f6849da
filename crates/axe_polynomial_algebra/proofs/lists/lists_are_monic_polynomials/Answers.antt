use Rattle.axe_polynomial_algebra.proofs.ListCongruences.{monic_of_list}
use Rattle.axe_polynomial_algebra.proofs.MonicLists.{monic_has_list, monic_list_is_unique}
use Rattle.axe_polynomial_algebra.proofs.lists.lists_are_monic_polynomials.Goals as goal

pub returns-clause-monic : goal.returns-clause-monic
returns-clause-monic c K = monic_of_list K

pub returns-clause-some : goal.returns-clause-some
returns-clause-some c K = monic_has_list K

pub returns-clause-only : goal.returns-clause-only
returns-clause-only c K = monic_list_is_unique K
