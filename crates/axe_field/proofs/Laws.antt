-- Further laws of the seven fields, beside those that make them fields.
use Rattle.std.proofs.Common.{◌≡◌, ℕ, Bool, true, eqb, refl, ◌∙◌}
use Rattle.std.proofs.lemmas.Bool.{eqb-true}
use Rattle.axe_field.specs.Order.{Order, Two, Three, Four, Five, Seven, Eight, Nine, IsElement}
use Rattle.axe_field.specs.Arithmetic.{coefficients, number_of, polynomial_sum, polynomial_multiple, polynomial_negative, polynomial_product, without_leading, polynomial_remainder, polynomial_of, field_mul}
use Rattle.axe_field.specs.CheckedLaws.{passes_below, at_one, from_one, field_mul_comm, field_mul-one}
use Rattle.axe_field.proofs.Orders.{zero_is_element, one_is_element}

multiplies_zero : Order → ℕ → Bool
multiplies_zero o a = eqb (field_mul o a 0) 0

multiplies_zero-all : (o : Order) → at_one multiplies_zero o ≡ true
unfolding at_one passes_below multiplies_zero coefficients number_of polynomial_sum polynomial_multiple polynomial_negative polynomial_product without_leading polynomial_remainder polynomial_of field_mul
multiplies_zero-all Two = refl
multiplies_zero-all Three = refl
multiplies_zero-all Four = refl
multiplies_zero-all Five = refl
multiplies_zero-all Seven = refl
multiplies_zero-all Eight = refl
multiplies_zero-all Nine = refl

pub field_mul-zero : (o : Order) (a : ℕ) → IsElement o a → field_mul o a 0 ≡ 0
unfolding multiplies_zero
field_mul-zero o a ha = eqb-true (field_mul o a 0) 0 (from_one multiplies_zero o (multiplies_zero-all o) a ha)

pub field_zero-mul : (o : Order) (a : ℕ) → IsElement o a → field_mul o 0 a ≡ 0
field_zero-mul o a ha = field_mul_comm o 0 a (zero_is_element o) ha ∙ field_mul-zero o a ha

pub field_one-mul : (o : Order) (a : ℕ) → IsElement o a → field_mul o 1 a ≡ a
field_one-mul o a ha = field_mul_comm o 1 a (one_is_element o) ha ∙ field_mul-one o a ha
