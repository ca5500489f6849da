use Rattle.axe_algebra.specs.Bridge.{field_of}
use Rattle.axe_polynomial_algebra.proofs.MinimalPolynomials.{minimal_polynomial_exists, minimal_polynomial_is_unique}
use Rattle.axe_polynomial_algebra.proofs.minimal.vector_has_one_minimal_polynomial.Goals as goal

pub returns-clause-some : goal.returns-clause-some
returns-clause-some c K = minimal_polynomial_exists (field_of K)

pub returns-clause-only : goal.returns-clause-only
returns-clause-only c K = minimal_polynomial_is_unique (field_of K)
