-- Products by the values of linear forms, and the prime field inside a field: there are few elements, so each law is
-- computed at all of them.
use Rattle.std.proofs.Common.{◌≡◌, ◌≢◌, arith, ℕ, Bool, true, ◌&&◌, eqb, ltb, cond, refl, List, [], ◌∷◌, length, slice_index}
use Rattle.std.proofs.lemmas.Bool.{and_parts, ltb-true, eqb-true}
use Rattle.axe_algebra.specs.ListArithmetic.{number_sum}
use Rattle.axe_field.specs.Order.{Order, Two, Three, Four, Five, Seven, Eight, Nine, order_number, prime_of, degree_of, IsElement}
use Rattle.axe_field.specs.Arithmetic.{coefficients, number_of, polynomial_sum, polynomial_multiple, polynomial_negative, polynomial_product, without_leading, polynomial_remainder, polynomial_of, field_add, field_mul}
use Rattle.axe_field.specs.CheckedLaws.{passes_below, passes_below-at, at_two, from_two}
use Rattle.axe_field.specs.Forms.{prime_order, term_at, term_of_product, AreProductTerms}
use Rattle.axe_field.specs.NumberFields.{number_field}
use Rattle.axe_field.specs.declared.forms.ProductTerm.{ProductTerm}

-- ---- the prime field inside

is_inside : Order → ℕ → Bool
is_inside o a = ltb a (order_number o)

adds_as_inside : Order → ℕ → ℕ → Bool
adds_as_inside o a b = eqb (field_add o a b) (field_add (prime_order o) a b)

multiplies_as_inside : Order → ℕ → ℕ → Bool
multiplies_as_inside o a b = eqb (field_mul o a b) (field_mul (prime_order o) a b)

-- a test of all elements of the prime field, and of all pairs of them
passes_inside : (Order → ℕ → Bool) → Order → Bool
passes_inside law o = passes_below (order_number (prime_order o)) (law o)

pass_inside : (Order → ℕ → ℕ → Bool) → Order → Bool
pass_inside law o =
    passes_below (order_number (prime_order o)) (λ a. passes_below (order_number (prime_order o)) (law o a))

is_inside-all : (o : Order) → passes_inside is_inside o ≡ true
unfolding passes_inside passes_below is_inside
is_inside-all Two = refl
is_inside-all Three = refl
is_inside-all Four = refl
is_inside-all Five = refl
is_inside-all Seven = refl
is_inside-all Eight = refl
is_inside-all Nine = refl

adds_as_inside-all : (o : Order) → pass_inside adds_as_inside o ≡ true
unfolding pass_inside passes_below adds_as_inside coefficients number_of polynomial_sum polynomial_of field_add
adds_as_inside-all Two = refl
adds_as_inside-all Three = refl
adds_as_inside-all Four = refl
adds_as_inside-all Five = refl
adds_as_inside-all Seven = refl
adds_as_inside-all Eight = refl
adds_as_inside-all Nine = refl

multiplies_as_inside-all : (o : Order) → pass_inside multiplies_as_inside o ≡ true
unfolding pass_inside passes_below multiplies_as_inside coefficients number_of polynomial_sum polynomial_multiple polynomial_negative polynomial_product without_leading polynomial_remainder polynomial_of field_mul
multiplies_as_inside-all Two = refl
multiplies_as_inside-all Three = refl
multiplies_as_inside-all Four = refl
multiplies_as_inside-all Five = refl
multiplies_as_inside-all Seven = refl
multiplies_as_inside-all Eight = refl
multiplies_as_inside-all Nine = refl

pub prime_element : (o : Order) (a : ℕ) → IsElement (prime_order o) a → IsElement o a
unfolding passes_inside is_inside
prime_element o a ha = ltb-true a (order_number o) (passes_below-at _ (is_inside o) (is_inside-all o) a ha)

pub prime_sum : (o : Order) (a b : ℕ) → IsElement (prime_order o) a → IsElement (prime_order o) b →
    field_add o a b ≡ field_add (prime_order o) a b
unfolding pass_inside adds_as_inside
prime_sum o a b ha hb =
    eqb-true _ _ (passes_below-at _ (adds_as_inside o a) (passes_below-at _ _ (adds_as_inside-all o) a ha) b hb)

pub prime_product : (o : Order) (a b : ℕ) → IsElement (prime_order o) a → IsElement (prime_order o) b →
    field_mul o a b ≡ field_mul (prime_order o) a b
unfolding pass_inside multiplies_as_inside
prime_product o a b ha hb =
    eqb-true _ _ (passes_below-at _ (multiplies_as_inside o a) (passes_below-at _ _ (multiplies_as_inside-all o) a ha) b hb)

-- ---- values of forms are elements of the prime field

pub prime_order-number : (o : Order) → order_number (prime_order o) ≡ prime_of o
prime_order-number Two = refl
prime_order-number Three = refl
prime_order-number Four = refl
prime_order-number Five = refl
prime_order-number Seven = refl
prime_order-number Eight = refl
prime_order-number Nine = refl

-- ---- terms of products

has_forms : Order → List ProductTerm → Bool
has_forms o terms =
    passes_below (length terms) (λ k. passes_below 3
    (λ i. ltb (slice_index (term_at terms k).form i) (cond (ltb i (degree_of o)) (prime_of o) 1)))

has_weights : Order → List ProductTerm → Bool
has_weights o terms = passes_below (length terms) (λ k. ltb (term_at terms k).weight (order_number o))

multiplies_by : List ProductTerm → Order → ℕ → ℕ → Bool
multiplies_by terms o a b =
    eqb (field_mul o a b) (number_sum (number_field o) (λ k. term_of_product o (term_at terms k) a b) (length terms))

terms_pass : Order → List ProductTerm → Bool
terms_pass o terms = has_forms o terms && (has_weights o terms && at_two (multiplies_by terms) o)

are_terms : (o : Order) (terms : List ProductTerm) → terms_pass o terms ≡ true → AreProductTerms o terms
unfolding terms_pass has_forms has_weights multiplies_by
are_terms o terms e =
    let all = and_parts _ _ e in
    let later = and_parts _ _ all.1 in
    record {
      forms = λ k hk i hi. ltb-true _ _ (passes_below-at 3 _ (passes_below-at (length terms) _ all.0 k hk) i hi);
      weights = λ k hk. ltb-true _ _ (passes_below-at (length terms) _ later.0 k hk);
      products = λ a b ha hb. eqb-true _ _ (from_two (multiplies_by terms) o later.1 a b ha hb);
    }

-- over a prime field: an element is its coefficient of 1
pub terms_of_prime : (o : Order) → order_number o ≢ 4 → order_number o ≢ 8 → order_number o ≢ 9 → AreProductTerms o
    (record { form = 1 ∷ 0 ∷ 0 ∷ []; weight = 1 } ∷ [])
unfolding terms_pass has_forms has_weights multiplies_by at_two passes_below number_sum number_field coefficients number_of polynomial_sum polynomial_multiple polynomial_negative polynomial_product without_leading polynomial_remainder polynomial_of field_add field_mul
terms_of_prime Two four eight nine = are_terms Two _ refl
terms_of_prime Three four eight nine = are_terms Three _ refl
terms_of_prime Four four eight nine = absurd (four refl)
terms_of_prime Five four eight nine = are_terms Five _ refl
terms_of_prime Seven four eight nine = are_terms Seven _ refl
terms_of_prime Eight four eight nine = absurd (eight refl)
terms_of_prime Nine four eight nine = absurd (nine refl)

pub terms_of_four : (o : Order) → order_number o ≡ 4 → AreProductTerms o
    (record { form = 1 ∷ 0 ∷ 0 ∷ []; weight = 3 } ∷ record { form = 0 ∷ 1 ∷ 0 ∷ []; weight = 1 }
    ∷ record { form = 1 ∷ 1 ∷ 0 ∷ []; weight = 2 } ∷ [])
unfolding terms_pass has_forms has_weights multiplies_by at_two passes_below number_sum number_field coefficients number_of polynomial_sum polynomial_multiple polynomial_negative polynomial_product without_leading polynomial_remainder polynomial_of field_add field_mul
terms_of_four Two e = absurd (omega arith)
terms_of_four Three e = absurd (omega arith)
terms_of_four Four e = are_terms Four _ refl
terms_of_four Five e = absurd (omega arith)
terms_of_four Seven e = absurd (omega arith)
terms_of_four Eight e = absurd (omega arith)
terms_of_four Nine e = absurd (omega arith)

pub terms_of_eight : (o : Order) → order_number o ≡ 8 → AreProductTerms o
    (record { form = 1 ∷ 0 ∷ 0 ∷ []; weight = 7 } ∷ record { form = 0 ∷ 1 ∷ 0 ∷ []; weight = 5 }
    ∷ record { form = 0 ∷ 0 ∷ 1 ∷ []; weight = 1 } ∷ record { form = 1 ∷ 1 ∷ 0 ∷ []; weight = 2 }
    ∷ record { form = 1 ∷ 0 ∷ 1 ∷ []; weight = 4 } ∷ record { form = 0 ∷ 1 ∷ 1 ∷ []; weight = 3 } ∷ [])
unfolding terms_pass has_forms has_weights multiplies_by at_two passes_below number_sum number_field coefficients number_of polynomial_sum polynomial_multiple polynomial_negative polynomial_product without_leading polynomial_remainder polynomial_of field_add field_mul
terms_of_eight Two e = absurd (omega arith)
terms_of_eight Three e = absurd (omega arith)
terms_of_eight Four e = absurd (omega arith)
terms_of_eight Five e = absurd (omega arith)
terms_of_eight Seven e = absurd (omega arith)
terms_of_eight Eight e = are_terms Eight _ refl
terms_of_eight Nine e = absurd (omega arith)

pub terms_of_nine : (o : Order) → order_number o ≡ 9 → AreProductTerms o
    (record { form = 1 ∷ 0 ∷ 0 ∷ []; weight = 7 } ∷ record { form = 0 ∷ 1 ∷ 0 ∷ []; weight = 1 }
    ∷ record { form = 1 ∷ 1 ∷ 0 ∷ []; weight = 3 } ∷ [])
unfolding terms_pass has_forms has_weights multiplies_by at_two passes_below number_sum number_field coefficients number_of polynomial_sum polynomial_multiple polynomial_negative polynomial_product without_leading polynomial_remainder polynomial_of field_add field_mul
terms_of_nine Two e = absurd (omega arith)
terms_of_nine Three e = absurd (omega arith)
terms_of_nine Four e = absurd (omega arith)
terms_of_nine Five e = absurd (omega arith)
terms_of_nine Seven e = absurd (omega arith)
terms_of_nine Eight e = absurd (omega arith)
terms_of_nine Nine e = are_terms Nine _ refl
