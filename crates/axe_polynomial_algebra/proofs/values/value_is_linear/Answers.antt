use Rattle.axe_algebra.specs.Bridge.{field_of}
use Rattle.axe_polynomial_algebra.proofs.ValueLaws.{value_of_sum, value_of_multiple}
use Rattle.axe_polynomial_algebra.proofs.values.value_is_linear.Goals as goal

pub returns-clause-sums : goal.returns-clause-sums
returns-clause-sums c K = value_of_sum (field_of K)

pub returns-clause-multiples : goal.returns-clause-multiples
returns-clause-multiples c K = value_of_multiple (field_of K)
