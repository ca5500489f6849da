use Rattle.axe_algebra.specs.Bridge.{field_of}
use Rattle.axe_polynomial_algebra.proofs.MinimalPolynomials.{minimal_polynomial_divides}
use Rattle.axe_polynomial_algebra.proofs.minimal.minimal_polynomial_divides_what_annihilates.Goals as goal

pub returns : goal.returns
returns c K = minimal_polynomial_divides (field_of K)
