use Rattle.axe_polynomial_algebra.proofs.PolynomialNumbers.{number_tells, numbers_by_degree}
use Rattle.axe_polynomial_algebra.proofs.factors.monic_polynomials_are_numbered.Goals as goal

pub returns-clause-one : goal.returns-clause-one
returns-clause-one c = number_tells

pub returns-clause-by_degree : goal.returns-clause-by_degree
returns-clause-by_degree c = numbers_by_degree
