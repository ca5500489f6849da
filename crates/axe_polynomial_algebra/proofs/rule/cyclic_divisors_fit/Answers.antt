use Rattle.axe_algebra.specs.Bridge.{field_of}
use Rattle.axe_polynomial_algebra.proofs.CyclicVectors.{cyclic_divisor_fits}
use Rattle.axe_polynomial_algebra.proofs.CyclicLists.{list_cyclic_divisor_fits}
use Rattle.axe_polynomial_algebra.proofs.rule.cyclic_divisors_fit.Goals as goal

pub returns-clause-vectors : goal.returns-clause-vectors
returns-clause-vectors c K = cyclic_divisor_fits (field_of K)

pub returns-clause-lists : goal.returns-clause-lists
returns-clause-lists c K = list_cyclic_divisor_fits K
