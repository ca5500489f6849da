use Rattle.axe_algebra.specs.Bridge.{field_of}
use Rattle.axe_polynomial_algebra.proofs.MinimalPolynomials.{combination_gives_minimal_polynomial}
use Rattle.axe_polynomial_algebra.proofs.minimal.combination_gives_minimal_polynomial.Goals as goal

pub returns : goal.returns
returns c K = combination_gives_minimal_polynomial (field_of K)
