use Rattle.axe_polynomial_algebra.proofs.MinimalLists.{list_minimal_polynomial_divides}
use Rattle.axe_polynomial_algebra.proofs.minimal.minimal_polynomial_of_row_divides_what_annihilates.Goals as goal

pub returns : goal.returns
returns c K = list_minimal_polynomial_divides K
