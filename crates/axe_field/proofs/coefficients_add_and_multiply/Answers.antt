use Rattle.axe_field.proofs.CoefficientLaws.{element_of-coefficients, coefficient-add, coefficient-mul}
use Rattle.axe_field.proofs.coefficients_add_and_multiply.Goals as goal

pub returns : goal.returns
returns c = record { element = element_of-coefficients; sum = coefficient-add; product = coefficient-mul }
