use Rattle.axe_polynomial_algebra.proofs.MonicLists.{list_is_irreducible_without_divisors, half_the_degree_is_enough}
use Rattle.axe_polynomial_algebra.proofs.lists.list_is_irreducible_without_divisors.Goals as goal

pub returns-clause-monic : goal.returns-clause-monic
returns-clause-monic c K = list_is_irreducible_without_divisors K

pub returns-clause-irreducible : goal.returns-clause-irreducible
returns-clause-irreducible c K = half_the_degree_is_enough K
