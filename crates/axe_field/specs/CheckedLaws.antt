-- Lemmas, checked, need not be read: the laws of the seven fields, which `number_field` names as proofs. There are few
-- elements, so each law is computed: it is a test of all of them.
use Rattle.std.specs.Prelude.{◌≡◌, ◌≢◌, ℕ, zero, suc, ◌<◌, Bool, true, ◌&&◌, ◌||◌, eqb, ltb, ◌⊎◌, refl}
use Rattle.std.proofs.Common.{arith, ap, ◌∙◌, inl, inr, lit<}
use Rattle.std.proofs.Math.Nat.{eq-or-lt_of_le}
use Rattle.std.proofs.lemmas.Bool.{and_parts, or_cases, ltb-true, eqb-true}
use Rattle.axe_field.specs.Order.{Order, Two, Three, Four, Five, Seven, Eight, Nine, order_number, IsElement}
use Rattle.axe_field.specs.Arithmetic.{coefficients, number_of, polynomial_sum, polynomial_multiple}
use Rattle.axe_field.specs.Arithmetic.{polynomial_negative, polynomial_product, without_leading, polynomial_remainder}
use Rattle.axe_field.specs.Arithmetic.{polynomial_of, field_add, field_neg, field_mul, field_inv}

-- a test of all numbers below n
unfoldable pub passes_below : ℕ → (ℕ → Bool) → Bool
passes_below zero test = true
passes_below (suc n) test = test n && passes_below n test

-- what passes below n holds of each number below n
pub passes_below-at : (n : ℕ) (test : ℕ → Bool) → passes_below n test ≡ true → (a : ℕ) → a < n → test a ≡ true
unfolding passes_below
passes_below-at zero test e a h = absurd (omega arith)
passes_below-at (suc n) test e a h =
    let here : (test n ≡ true) × (passes_below n test ≡ true) = and_parts (test n) (passes_below n test) e in
    let split : (a ≡ n) ⊎ (a < n) = eq-or-lt_of_le (omega arith) in
    elim split [ inl last ↦ ap test last ∙ here.0 | inr lower ↦ passes_below-at n test here.1 a lower ]

neg_is_below : Order → ℕ → Bool
neg_is_below o a = ltb (field_neg o a) (order_number o)

inv_is_below : Order → ℕ → Bool
inv_is_below o a = ltb (field_inv o a) (order_number o)

adds_zero : Order → ℕ → Bool
adds_zero o a = eqb (field_add o a 0) a

adds_neg : Order → ℕ → Bool
adds_neg o a = eqb (field_add o a (field_neg o a)) 0

multiplies_one : Order → ℕ → Bool
multiplies_one o a = eqb (field_mul o a 1) a

multiplies_inv : Order → ℕ → Bool
multiplies_inv o a = eqb a 0 || eqb (field_mul o a (field_inv o a)) 1

sum_is_below : Order → ℕ → ℕ → Bool
sum_is_below o a b = ltb (field_add o a b) (order_number o)

product_is_below : Order → ℕ → ℕ → Bool
product_is_below o a b = ltb (field_mul o a b) (order_number o)

sum_commutes : Order → ℕ → ℕ → Bool
sum_commutes o a b = eqb (field_add o a b) (field_add o b a)

product_commutes : Order → ℕ → ℕ → Bool
product_commutes o a b = eqb (field_mul o a b) (field_mul o b a)

sum_associates : Order → ℕ → ℕ → ℕ → Bool
sum_associates o a b c = eqb (field_add o (field_add o a b) c) (field_add o a (field_add o b c))

product_associates : Order → ℕ → ℕ → ℕ → Bool
product_associates o a b c = eqb (field_mul o (field_mul o a b) c) (field_mul o a (field_mul o b c))

product_distributes : Order → ℕ → ℕ → ℕ → Bool
product_distributes o a b c = eqb (field_mul o a (field_add o b c)) (field_add o (field_mul o a b) (field_mul o a c))

-- a law of one element is computed at all of them
unfoldable pub at_one : (Order → ℕ → Bool) → Order → Bool
at_one law o = passes_below (order_number o) (law o)

-- a law of two elements is computed at all pairs
unfoldable pub at_two : (Order → ℕ → ℕ → Bool) → Order → Bool
at_two law o = passes_below (order_number o) (λ a. passes_below (order_number o) (law o a))

-- a law of three elements is computed at all triples
at_three : (Order → ℕ → ℕ → ℕ → Bool) → Order → Bool
at_three law o =
    passes_below (order_number o) (λ a. passes_below (order_number o) (λ b. passes_below (order_number o) (law o a b)))

-- all of the laws
laws_pass : Order → Bool
laws_pass o =
    at_one neg_is_below o && (at_one inv_is_below o && (at_one adds_zero o && (at_one adds_neg o
    && (at_one multiplies_one o && (at_one multiplies_inv o && (at_two sum_is_below o && (at_two product_is_below o
    && (at_two sum_commutes o && (at_two product_commutes o && (at_three sum_associates o
    && (at_three product_associates o && at_three product_distributes o)))))))))))

laws_pass-true : (o : Order) → laws_pass o ≡ true
unfolding laws_pass at_one at_two at_three passes_below neg_is_below inv_is_below adds_zero adds_neg multiplies_one
    multiplies_inv sum_is_below product_is_below sum_commutes product_commutes sum_associates product_associates
    product_distributes coefficients number_of polynomial_sum polynomial_multiple polynomial_negative
    polynomial_product without_leading polynomial_remainder polynomial_of field_add field_neg field_mul field_inv
laws_pass-true Two = refl
laws_pass-true Three = refl
laws_pass-true Four = refl
laws_pass-true Five = refl
laws_pass-true Seven = refl
laws_pass-true Eight = refl
laws_pass-true Nine = refl

-- the parts of the computed test
record LawsPass (o : Order) : Type 0 where
  neg-below : at_one neg_is_below o ≡ true
  inv-below : at_one inv_is_below o ≡ true
  add-zero : at_one adds_zero o ≡ true
  add-neg : at_one adds_neg o ≡ true
  mul-one : at_one multiplies_one o ≡ true
  mul-inv : at_one multiplies_inv o ≡ true
  add-below : at_two sum_is_below o ≡ true
  mul-below : at_two product_is_below o ≡ true
  add_comm : at_two sum_commutes o ≡ true
  mul_comm : at_two product_commutes o ≡ true
  add_assoc : at_three sum_associates o ≡ true
  mul_assoc : at_three product_associates o ≡ true
  mul-add : at_three product_distributes o ≡ true

passes : (o : Order) → LawsPass o
unfolding laws_pass
passes o =
    let after_neg = and_parts (at_one neg_is_below o) _ (laws_pass-true o) in
    let after_inv = and_parts (at_one inv_is_below o) _ after_neg.1 in
    let after_zero = and_parts (at_one adds_zero o) _ after_inv.1 in
    let after_opposite = and_parts (at_one adds_neg o) _ after_zero.1 in
    let after_one = and_parts (at_one multiplies_one o) _ after_opposite.1 in
    let after_inverse = and_parts (at_one multiplies_inv o) _ after_one.1 in
    let after_sum = and_parts (at_two sum_is_below o) _ after_inverse.1 in
    let after_product = and_parts (at_two product_is_below o) _ after_sum.1 in
    let after_sums = and_parts (at_two sum_commutes o) _ after_product.1 in
    let after_products = and_parts (at_two product_commutes o) _ after_sums.1 in
    let after_associative = and_parts (at_three sum_associates o) _ after_products.1 in
    let last = and_parts (at_three product_associates o) (at_three product_distributes o) after_associative.1 in
    record {
      neg-below = after_neg.0;
      inv-below = after_inv.0;
      add-zero = after_zero.0;
      add-neg = after_opposite.0;
      mul-one = after_one.0;
      mul-inv = after_inverse.0;
      add-below = after_sum.0;
      mul-below = after_product.0;
      add_comm = after_sums.0;
      mul_comm = after_products.0;
      add_assoc = after_associative.0;
      mul_assoc = last.0;
      mul-add = last.1;
    }

-- what was computed at all elements holds of each
pub from_one : (law : Order → ℕ → Bool) (o : Order) → at_one law o ≡ true → (a : ℕ) → IsElement o a → law o a ≡ true
unfolding at_one
from_one law o e a ha = passes_below-at (order_number o) (law o) e a ha

-- what was computed at all pairs holds of each
pub from_two : (law : Order → ℕ → ℕ → Bool) (o : Order) → at_two law o ≡ true →
    (a b : ℕ) → IsElement o a → IsElement o b → law o a b ≡ true
unfolding at_two
from_two law o e a b ha hb =
    let q = order_number o in
    let at_a = passes_below-at q (λ d. passes_below q (law o d)) e a ha in
    passes_below-at q (law o a) at_a b hb

from_three : (law : Order → ℕ → ℕ → ℕ → Bool) (o : Order) → at_three law o ≡ true →
    (a b c : ℕ) → IsElement o a → IsElement o b → IsElement o c → law o a b c ≡ true
unfolding at_three
from_three law o e a b c ha hb hc =
    let q = order_number o in
    let at_a = passes_below-at q (λ d. passes_below q (λ f. passes_below q (law o d f))) e a ha in
    let at_b = passes_below-at q (λ f. passes_below q (law o a f)) at_a b hb in
    passes_below-at q (law o a b) at_b c hc

pub field_neg-below : (o : Order) (a : ℕ) → IsElement o a → IsElement o (field_neg o a)
unfolding neg_is_below
field_neg-below o a ha = ltb-true (field_neg o a) (order_number o) (from_one neg_is_below o (passes o).neg-below a ha)

pub field_inv-below : (o : Order) (a : ℕ) → IsElement o a → IsElement o (field_inv o a)
unfolding inv_is_below
field_inv-below o a ha = ltb-true (field_inv o a) (order_number o) (from_one inv_is_below o (passes o).inv-below a ha)

pub field_add-zero : (o : Order) (a : ℕ) → IsElement o a → field_add o a 0 ≡ a
unfolding adds_zero
field_add-zero o a ha = eqb-true (field_add o a 0) a (from_one adds_zero o (passes o).add-zero a ha)

pub field_add-neg : (o : Order) (a : ℕ) → IsElement o a → field_add o a (field_neg o a) ≡ 0
unfolding adds_neg
field_add-neg o a ha = eqb-true (field_add o a (field_neg o a)) 0 (from_one adds_neg o (passes o).add-neg a ha)

pub field_mul-one : (o : Order) (a : ℕ) → IsElement o a → field_mul o a 1 ≡ a
unfolding multiplies_one
field_mul-one o a ha = eqb-true (field_mul o a 1) a (from_one multiplies_one o (passes o).mul-one a ha)

pub field_mul-inv : (o : Order) (a : ℕ) → IsElement o a → a ≢ 0 → field_mul o a (field_inv o a) ≡ 1
unfolding multiplies_inv
field_mul-inv o a ha nonzero =
    let one = field_mul o a (field_inv o a) in
    elim (or_cases (eqb a 0) (eqb one 1) (from_one multiplies_inv o (passes o).mul-inv a ha)) [
      | inl zero_too ↦ absurd (nonzero (eqb-true a 0 zero_too))
      | inr found ↦ eqb-true one 1 found
    ]

pub field_add-below : (o : Order) (a b : ℕ) → IsElement o a → IsElement o b → IsElement o (field_add o a b)
unfolding sum_is_below
field_add-below o a b ha hb =
    ltb-true (field_add o a b) (order_number o)
    (from_two sum_is_below o (passes o).add-below a b ha hb)

pub field_mul-below : (o : Order) (a b : ℕ) → IsElement o a → IsElement o b → IsElement o (field_mul o a b)
unfolding product_is_below
field_mul-below o a b ha hb =
    ltb-true (field_mul o a b) (order_number o)
    (from_two product_is_below o (passes o).mul-below a b ha hb)

pub field_add_comm : (o : Order) (a b : ℕ) → IsElement o a → IsElement o b → field_add o a b ≡ field_add o b a
unfolding sum_commutes
field_add_comm o a b ha hb =
    eqb-true (field_add o a b) (field_add o b a)
    (from_two sum_commutes o (passes o).add_comm a b ha hb)

pub field_mul_comm : (o : Order) (a b : ℕ) → IsElement o a → IsElement o b → field_mul o a b ≡ field_mul o b a
unfolding product_commutes
field_mul_comm o a b ha hb =
    eqb-true (field_mul o a b) (field_mul o b a)
    (from_two product_commutes o (passes o).mul_comm a b ha hb)

pub field_add_assoc : (o : Order) (a b c : ℕ) → IsElement o a → IsElement o b → IsElement o c →
    field_add o (field_add o a b) c ≡ field_add o a (field_add o b c)
unfolding sum_associates
field_add_assoc o a b c ha hb hc = eqb-true _ _ (from_three sum_associates o (passes o).add_assoc a b c ha hb hc)

pub field_mul_assoc : (o : Order) (a b c : ℕ) → IsElement o a → IsElement o b → IsElement o c →
    field_mul o (field_mul o a b) c ≡ field_mul o a (field_mul o b c)
unfolding product_associates
field_mul_assoc o a b c ha hb hc = eqb-true _ _ (from_three product_associates o (passes o).mul_assoc a b c ha hb hc)

pub field_mul-add : (o : Order) (a b c : ℕ) → IsElement o a → IsElement o b → IsElement o c →
    field_mul o a (field_add o b c) ≡ field_add o (field_mul o a b) (field_mul o a c)
unfolding product_distributes
field_mul-add o a b c ha hb hc = eqb-true _ _ (from_three product_distributes o (passes o).mul-add a b c ha hb hc)

-- a field has at least its 0 and its 1
pub order_number-above : (o : Order) → 1 < order_number o
order_number-above Two = lit< tt
order_number-above Three = lit< tt
order_number-above Four = lit< tt
order_number-above Five = lit< tt
order_number-above Seven = lit< tt
order_number-above Eight = lit< tt
order_number-above Nine = lit< tt
