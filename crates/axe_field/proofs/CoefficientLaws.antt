-- Elements by their coefficients: sums are taken coefficient by coefficient, products by the matrix of a factor.
use Rattle.std.proofs.Common.{◌≡◌, ℕ, ◌<◌, ◌+◌, ◌%◌, Bool, true, ◌&&◌, eqb, ltb, cond, refl, ◌≢◌, ◌||◌, inl, inr}
use Rattle.std.proofs.lemmas.Bool.{and_parts, or_cases, ltb-true, eqb-true}
use Rattle.axe_algebra.specs.Lists.{entry}
use Rattle.axe_field.specs.Order.{Order, Two, Three, Four, Five, Seven, Eight, Nine, order_number, prime_of, degree_of, IsElement}
use Rattle.axe_field.specs.Arithmetic.{coefficients, number_of, polynomial_sum, polynomial_multiple, polynomial_negative, polynomial_product, without_leading, polynomial_remainder, polynomial_of, field_add, field_mul}
use Rattle.axe_field.specs.CheckedLaws.{passes_below, passes_below-at, at_one, at_two, from_one, from_two}
use Rattle.axe_field.specs.Planes.{monomial, coefficients_of_multiple, matrix_of_multiplication, coefficient, IsCoefficient, element_of, coefficient_by_matrix}

-- ---- the tests, each of all elements

adds_by_coefficients : Order → ℕ → ℕ → Bool
adds_by_coefficients o a b =
    passes_below 3 (λ j. eqb (coefficient o (field_add o a b) j) ((coefficient o a j + coefficient o b j) % prime_of o))

multiplies_by_matrix : Order → ℕ → ℕ → Bool
multiplies_by_matrix o c a =
    passes_below 3 (λ j. eqb (coefficient o (field_mul o c a) j) (coefficient_by_matrix o (matrix_of_multiplication o c) a j))

has_entries_below : Order → ℕ → Bool
has_entries_below o c =
    passes_below 3 (λ i. passes_below 3 (λ j. ltb (entry (matrix_of_multiplication o c) i j) (prime_of o)))

is_of_its_coefficients : Order → ℕ → Bool
is_of_its_coefficients o a = eqb (element_of o (coefficient o a 0) (coefficient o a 1) (coefficient o a 2)) a

has_coefficients_below : Order → ℕ → Bool
has_coefficients_below o a = passes_below 3 (λ j. ltb (coefficient o a j) (cond (ltb j (degree_of o)) (prime_of o) 1))

has_first_row : Order → ℕ → Bool
has_first_row o a = passes_below 3 (λ j. eqb (entry (matrix_of_multiplication o a) 0 j) (coefficient o a j))

has_zeros_outside : Order → ℕ → Bool
has_zeros_outside o c =
    passes_below 3 (λ i. passes_below 3 (λ j.
    (ltb i (degree_of o) && ltb j (degree_of o)) || eqb (entry (matrix_of_multiplication o c) i j) 0))

-- the number of three coefficients is that of an element, and has them
has_these : Order → ℕ → ℕ → ℕ → Bool
has_these o d0 d1 d2 =
    ltb (element_of o d0 d1 d2) (order_number o) && (eqb (coefficient o (element_of o d0 d1 d2) 0) d0
    && (eqb (coefficient o (element_of o d0 d1 d2) 1) d1 && eqb (coefficient o (element_of o d0 d1 d2) 2) d2))

have_these : Order → Bool
have_these o =
    passes_below (prime_of o) (λ d0. passes_below (cond (ltb 1 (degree_of o)) (prime_of o) 1)
    (λ d1. passes_below (cond (ltb 2 (degree_of o)) (prime_of o) 1) (λ d2. has_these o d0 d1 d2)))

adds_by_coefficients-all : (o : Order) → at_two adds_by_coefficients o ≡ true
unfolding at_two passes_below adds_by_coefficients coefficients number_of polynomial_sum polynomial_of field_add
adds_by_coefficients-all Two = refl
adds_by_coefficients-all Three = refl
adds_by_coefficients-all Four = refl
adds_by_coefficients-all Five = refl
adds_by_coefficients-all Seven = refl
adds_by_coefficients-all Eight = refl
adds_by_coefficients-all Nine = refl

multiplies_by_matrix-all : (o : Order) → at_two multiplies_by_matrix o ≡ true
unfolding at_two passes_below multiplies_by_matrix monomial coefficients_of_multiple matrix_of_multiplication coefficients number_of polynomial_sum polynomial_multiple polynomial_negative polynomial_product without_leading polynomial_remainder polynomial_of field_mul
multiplies_by_matrix-all Two = refl
multiplies_by_matrix-all Three = refl
multiplies_by_matrix-all Four = refl
multiplies_by_matrix-all Five = refl
multiplies_by_matrix-all Seven = refl
multiplies_by_matrix-all Eight = refl
multiplies_by_matrix-all Nine = refl

has_entries_below-all : (o : Order) → at_one has_entries_below o ≡ true
unfolding at_one passes_below has_entries_below monomial coefficients_of_multiple matrix_of_multiplication coefficients polynomial_sum polynomial_multiple polynomial_negative polynomial_product without_leading polynomial_remainder polynomial_of
has_entries_below-all Two = refl
has_entries_below-all Three = refl
has_entries_below-all Four = refl
has_entries_below-all Five = refl
has_entries_below-all Seven = refl
has_entries_below-all Eight = refl
has_entries_below-all Nine = refl

has_first_row-all : (o : Order) → at_one has_first_row o ≡ true
unfolding at_one passes_below has_first_row monomial coefficients_of_multiple matrix_of_multiplication coefficients polynomial_sum polynomial_multiple polynomial_negative polynomial_product without_leading polynomial_remainder polynomial_of
has_first_row-all Two = refl
has_first_row-all Three = refl
has_first_row-all Four = refl
has_first_row-all Five = refl
has_first_row-all Seven = refl
has_first_row-all Eight = refl
has_first_row-all Nine = refl

has_zeros_outside-all : (o : Order) → at_one has_zeros_outside o ≡ true
unfolding at_one passes_below has_zeros_outside monomial coefficients_of_multiple matrix_of_multiplication coefficients polynomial_sum polynomial_multiple polynomial_negative polynomial_product without_leading polynomial_remainder polynomial_of
has_zeros_outside-all Two = refl
has_zeros_outside-all Three = refl
has_zeros_outside-all Four = refl
has_zeros_outside-all Five = refl
has_zeros_outside-all Seven = refl
has_zeros_outside-all Eight = refl
has_zeros_outside-all Nine = refl

is_of_its_coefficients-all : (o : Order) → at_one is_of_its_coefficients o ≡ true
unfolding at_one passes_below is_of_its_coefficients coefficients number_of polynomial_of
is_of_its_coefficients-all Two = refl
is_of_its_coefficients-all Three = refl
is_of_its_coefficients-all Four = refl
is_of_its_coefficients-all Five = refl
is_of_its_coefficients-all Seven = refl
is_of_its_coefficients-all Eight = refl
is_of_its_coefficients-all Nine = refl

has_coefficients_below-all : (o : Order) → at_one has_coefficients_below o ≡ true
unfolding at_one passes_below has_coefficients_below coefficients polynomial_of
has_coefficients_below-all Two = refl
has_coefficients_below-all Three = refl
has_coefficients_below-all Four = refl
has_coefficients_below-all Five = refl
has_coefficients_below-all Seven = refl
has_coefficients_below-all Eight = refl
has_coefficients_below-all Nine = refl

have_these-all : (o : Order) → have_these o ≡ true
unfolding have_these passes_below has_these coefficients number_of polynomial_of
have_these-all Two = refl
have_these-all Three = refl
have_these-all Four = refl
have_these-all Five = refl
have_these-all Seven = refl
have_these-all Eight = refl
have_these-all Nine = refl

-- ---- the laws

-- the sum of two elements has the sums of their coefficients, modulo the prime
pub coefficient-add : (o : Order) (a b j : ℕ) → IsElement o a → IsElement o b → j < 3 →
    coefficient o (field_add o a b) j ≡ (coefficient o a j + coefficient o b j) % prime_of o
unfolding adds_by_coefficients
coefficient-add o a b j ha hb hj =
    eqb-true _ _ (passes_below-at 3 _ (from_two adds_by_coefficients o (adds_by_coefficients-all o) a b ha hb) j hj)

-- the product by c has the coefficients that the matrix of the multiplication by c gives
pub coefficient-mul : (o : Order) (c a j : ℕ) → IsElement o c → IsElement o a → j < 3 →
    coefficient o (field_mul o c a) j ≡ coefficient_by_matrix o (matrix_of_multiplication o c) a j
unfolding multiplies_by_matrix
coefficient-mul o c a j hc ha hj =
    eqb-true _ _ (passes_below-at 3 _ (from_two multiplies_by_matrix o (multiplies_by_matrix-all o) c a hc ha) j hj)

-- the entries of the matrix are below the prime
pub matrix_of_multiplication-below : (o : Order) (c i j : ℕ) → IsElement o c → i < 3 → j < 3 →
    entry (matrix_of_multiplication o c) i j < prime_of o
unfolding has_entries_below
matrix_of_multiplication-below o c i j hc hi hj =
    ltb-true _ _ (passes_below-at 3 _ (passes_below-at 3 _ (from_one has_entries_below o (has_entries_below-all o) c hc) i hi) j hj)

-- its first row has the element's own coefficients
pub matrix_of_multiplication-first : (o : Order) (a j : ℕ) → IsElement o a → j < 3 →
    entry (matrix_of_multiplication o a) 0 j ≡ coefficient o a j
unfolding has_first_row
matrix_of_multiplication-first o a j ha hj =
    eqb-true _ _ (passes_below-at 3 _ (from_one has_first_row o (has_first_row-all o) a ha) j hj)

-- from the degree on its rows and columns are 0
pub matrix_of_multiplication-outside : (o : Order) (c i j : ℕ) → IsElement o c → i < 3 → j < 3 →
    entry (matrix_of_multiplication o c) i j ≢ 0 → (i < degree_of o) × (j < degree_of o)
unfolding has_zeros_outside
matrix_of_multiplication-outside o c i j hc hi hj nonzero =
    let test = passes_below-at 3 _ (passes_below-at 3 _ (from_one has_zeros_outside o (has_zeros_outside-all o) c hc) i hi) j hj in
    elim (or_cases (ltb i (degree_of o) && ltb j (degree_of o)) (eqb (entry (matrix_of_multiplication o c) i j) 0) test) [
      | inl inside ↦
          let both = and_parts (ltb i (degree_of o)) (ltb j (degree_of o)) inside in
          (ltb-true i (degree_of o) both.0, ltb-true j (degree_of o) both.1)
      | inr none ↦ absurd (nonzero (eqb-true (entry (matrix_of_multiplication o c) i j) 0 none))
    ]

-- an element is that of its coefficients
pub element_of-coefficients : (o : Order) (a : ℕ) → IsElement o a →
    element_of o (coefficient o a 0) (coefficient o a 1) (coefficient o a 2) ≡ a
unfolding is_of_its_coefficients
element_of-coefficients o a ha = eqb-true _ _ (from_one is_of_its_coefficients o (is_of_its_coefficients-all o) a ha)

pub coefficient-below : (o : Order) (a j : ℕ) → IsElement o a → j < 3 → IsCoefficient o j (coefficient o a j)
unfolding has_coefficients_below
coefficient-below o a j ha hj =
    ltb-true _ _ (passes_below-at 3 _ (from_one has_coefficients_below o (has_coefficients_below-all o) a ha) j hj)

-- three coefficients and the element that has them
pub record IsElementOf (o : Order) (d0 d1 d2 : ℕ) : Type 0 where
  pub element : IsElement o (element_of o d0 d1 d2)
  pub first : coefficient o (element_of o d0 d1 d2) 0 ≡ d0
  pub second : coefficient o (element_of o d0 d1 d2) 1 ≡ d1
  pub third : coefficient o (element_of o d0 d1 d2) 2 ≡ d2

these-pass : (o : Order) (d0 d1 d2 : ℕ) → d0 < prime_of o → IsCoefficient o 1 d1 → IsCoefficient o 2 d2 →
    has_these o d0 d1 d2 ≡ true
unfolding have_these
these-pass o d0 d1 d2 h0 h1 h2 = passes_below-at _ _ (passes_below-at _ _ (passes_below-at _ _ (have_these-all o) d0 h0) d1 h1) d2 h2

pub coefficients_are : (o : Order) (d0 d1 d2 : ℕ) → d0 < prime_of o → IsCoefficient o 1 d1 → IsCoefficient o 2 d2 →
    IsElementOf o d0 d1 d2
unfolding has_these
coefficients_are o d0 d1 d2 h0 h1 h2 =
    let all = and_parts _ _ (these-pass o d0 d1 d2 h0 h1 h2) in
    let later = and_parts _ _ all.1 in
    let last = and_parts _ _ later.1 in
    record {
      element = ltb-true _ _ all.0;
      first = eqb-true _ _ later.0;
      second = eqb-true _ _ last.0;
      third = eqb-true _ _ last.1;
    }
