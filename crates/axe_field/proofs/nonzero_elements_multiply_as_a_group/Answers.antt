use Rattle.axe_field.specs.CheckedLaws.{field_inv-below, field_mul-add, field_mul-below, field_mul-inv, field_mul-one, field_mul_assoc, field_mul_comm}
use Rattle.axe_field.proofs.nonzero_elements_multiply_as_a_group.Goals as goal

pub returns-clause-closed : goal.returns-clause-closed
returns-clause-closed c = field_mul-below

pub returns-clause-commutative : goal.returns-clause-commutative
returns-clause-commutative c = field_mul_comm

pub returns-clause-associative : goal.returns-clause-associative
returns-clause-associative c = field_mul_assoc

pub returns-clause-one : goal.returns-clause-one
returns-clause-one c = field_mul-one

pub returns-clause-inverse_is_element : goal.returns-clause-inverse_is_element
returns-clause-inverse_is_element c = field_inv-below

pub returns-clause-inverse : goal.returns-clause-inverse
returns-clause-inverse c = field_mul-inv

pub returns-clause-distributive : goal.returns-clause-distributive
returns-clause-distributive c = field_mul-add
