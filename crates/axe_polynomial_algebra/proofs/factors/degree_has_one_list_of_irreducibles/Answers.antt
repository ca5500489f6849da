use Rattle.axe_polynomial_algebra.proofs.ListFactors.{irreducibles_exist, irreducibles_are_unique}
use Rattle.axe_polynomial_algebra.proofs.factors.degree_has_one_list_of_irreducibles.Goals as goal

pub returns-clause-some : goal.returns-clause-some
returns-clause-some c = irreducibles_exist

pub returns-clause-only : goal.returns-clause-only
returns-clause-only c = irreducibles_are_unique
