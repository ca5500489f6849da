use Rattle.std.proofs.Common.{refl}
use Rattle.axe_field.specs.Tables.{tables_of}
use Rattle.axe_field.specs.Planes.{monomial, coefficients_of_multiple, matrix_of_multiplication}
use Rattle.axe_field.specs.Arithmetic.{coefficients, number_of, polynomial_sum, polynomial_multiple, polynomial_negative, polynomial_product, without_leading, polynomial_remainder, polynomial_of, field_add, field_neg, field_mul, field_inv}
use Rattle.axe_field.proofs.tables.nine.Goals as goal

pub returns : goal.returns
unfolding tables_of coefficients number_of polynomial_sum polynomial_multiple polynomial_negative polynomial_product without_leading polynomial_remainder polynomial_of field_add field_neg field_mul field_inv monomial coefficients_of_multiple matrix_of_multiplication
returns c = refl
