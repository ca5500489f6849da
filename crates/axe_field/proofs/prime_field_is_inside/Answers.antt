use Rattle.axe_field.proofs.FormLaws.{prime_element, prime_sum, prime_product}
use Rattle.axe_field.proofs.prime_field_is_inside.Goals as goal

pub returns-clause-element : goal.returns-clause-element
returns-clause-element c = prime_element

pub returns-clause-sum : goal.returns-clause-sum
returns-clause-sum c = prime_sum

pub returns-clause-product : goal.returns-clause-product
returns-clause-product c = prime_product
