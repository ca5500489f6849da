use Rattle.axe_field.proofs.NumberFields.{number_field-add, number_field-inv, number_field-mul, number_field-neg, number_field-order}
use Rattle.axe_field.proofs.number_fields_have_these_operations.Goals as goal

pub returns-clause-order : goal.returns-clause-order
returns-clause-order c = number_field-order

pub returns-clause-sum : goal.returns-clause-sum
returns-clause-sum c = number_field-add

pub returns-clause-negative : goal.returns-clause-negative
returns-clause-negative c = number_field-neg

pub returns-clause-product : goal.returns-clause-product
returns-clause-product c = number_field-mul

pub returns-clause-inverse : goal.returns-clause-inverse
returns-clause-inverse c = number_field-inv
