use Rattle.axe_polynomial_algebra.proofs.MinimalLists.{list_minimal_polynomial_exists}
use Rattle.axe_polynomial_algebra.proofs.MinimalLists.{list_minimal_polynomial_is_unique}
use Rattle.axe_polynomial_algebra.proofs.minimal.row_has_one_minimal_polynomial.Goals as goal

pub returns-clause-some : goal.returns-clause-some
returns-clause-some c K = list_minimal_polynomial_exists K

pub returns-clause-only : goal.returns-clause-only
returns-clause-only c K = list_minimal_polynomial_is_unique K
