use Rattle.axe_field.specs.CheckedLaws.{field_add-below, field_add-neg, field_add-zero, field_add_assoc, field_add_comm, field_neg-below}
use Rattle.axe_field.proofs.elements_add_as_a_group.Goals as goal

pub returns-clause-closed : goal.returns-clause-closed
returns-clause-closed c = field_add-below

pub returns-clause-commutative : goal.returns-clause-commutative
returns-clause-commutative c = field_add_comm

pub returns-clause-associative : goal.returns-clause-associative
returns-clause-associative c = field_add_assoc

pub returns-clause-zero : goal.returns-clause-zero
returns-clause-zero c = field_add-zero

pub returns-clause-negative_is_element : goal.returns-clause-negative_is_element
returns-clause-negative_is_element c = field_neg-below

pub returns-clause-negative : goal.returns-clause-negative
returns-clause-negative c = field_add-neg
