use Rattle.axe_polynomial_algebra.proofs.ListFactors.{factors_of_degree_exist, factors_of_degree_are_unique}
use Rattle.axe_polynomial_algebra.proofs.factors.polynomial_has_one_list_of_factors_of_degree.Goals as goal

pub returns-clause-some : goal.returns-clause-some
returns-clause-some c = factors_of_degree_exist

pub returns-clause-only : goal.returns-clause-only
returns-clause-only c = factors_of_degree_are_unique
