use Rattle.axe_polynomial_algebra.proofs.ValueLists.{list_value_exists, list_value_is_unique}
use Rattle.axe_polynomial_algebra.proofs.values.polynomial_has_one_value.Goals as goal

pub returns-clause-some : goal.returns-clause-some
returns-clause-some c K = list_value_exists K

pub returns-clause-only : goal.returns-clause-only
returns-clause-only c K = list_value_is_unique K
