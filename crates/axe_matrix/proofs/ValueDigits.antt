-- The places of the entries of a value in a word, by the words of the entries' digits.
use Rattle.std.proofs.Common.{◌≡◌, ◌≢◌, ℕ, zero, suc, ◌+◌, ◌*◌, ◌/◌, ◌%◌, ◌<◌, ◌≤◌, ◌^◌, ◌-◌, min, max, Bool, true, List, [], length, get_or, map, cond, eqb, refl, sym, ap, ap₂, subst, ◌∙◌, arith, lit<, w64}
use Rattle.std.specs.Int.{bit_at, bit_not}
use Rattle.std.specs.Int.RustNames.{bit_or}
use Rattle.std.specs.List.{All}
use Rattle.std.proofs.lemmas.Nat.{or_lt}
use Rattle.std.proofs.lemmas.Nat.Bits.{bit_at-lt, bit_at_or, bit_at_not}
use Rattle.std.proofs.lemmas.Bool.{eqb-true, ne_eqb, lt-ltb}
use Rattle.std.proofs.lemmas.List.{get_or-map, get_or_past, length-map}
use native.Mathlib.Decide.{dec_lt}
use Rattle.axe_field.specs.Arithmetic.{coefficients, polynomial_of}
use Rattle.axe_field.specs.CheckedLaws.{passes_below, at_two, from_two}
use Rattle.axe_field.specs.Order.{Order, Two, Three, Four, Five, Seven, Eight, Nine, order_number, prime_of, degree_of, IsElement}
use Rattle.axe_field.specs.Planes.{coefficient}
use Rattle.axe_field.proofs.CoefficientLaws.{coefficient-below}
use Rattle.axe_field.proofs.Orders.{zero_is_element}
use Rattle.axe_row.specs.Planes.{coefficients_at}
use Rattle.axe_matrix.specs.ValueTerms.{places_of_value}

pub prime_is_small : (o : Order) → degree_of o ≢ 1 → prime_of o ≤ 3
prime_is_small Two h = absurd (h refl)
prime_is_small Three h = absurd (h refl)
prime_is_small Four h = omega arith
prime_is_small Five h = absurd (h refl)
prime_is_small Seven h = absurd (h refl)
prime_is_small Eight h = omega arith
prime_is_small Nine h = omega arith

-- ---- coefficients of an entry, also of the 0 that is past the last

coefficient-zero : (o : Order) (j : ℕ) → j < degree_of o → coefficient o 0 j ≡ 0
unfolding polynomial_of coefficients
coefficient-zero Two zero h = refl
coefficient-zero Two (suc j) h = absurd (omega arith)
coefficient-zero Three zero h = refl
coefficient-zero Three (suc j) h = absurd (omega arith)
coefficient-zero Four zero h = refl
coefficient-zero Four (suc zero) h = refl
coefficient-zero Four (suc (suc j)) h = absurd (omega arith)
coefficient-zero Five zero h = refl
coefficient-zero Five (suc j) h = absurd (omega arith)
coefficient-zero Seven zero h = refl
coefficient-zero Seven (suc j) h = absurd (omega arith)
coefficient-zero Eight zero h = refl
coefficient-zero Eight (suc zero) h = refl
coefficient-zero Eight (suc (suc zero)) h = refl
coefficient-zero Eight (suc (suc (suc j))) h = absurd (omega arith)
coefficient-zero Nine zero h = refl
coefficient-zero Nine (suc zero) h = refl
coefficient-zero Nine (suc (suc j)) h = absurd (omega arith)

mapped_at : (f : ℕ → ℕ) (xs : List ℕ) (e : ℕ) → f 0 ≡ 0 → get_or (map f xs) e 0 ≡ f (get_or xs e 0)
mapped_at f xs e none = elim (dec_lt e (length xs)) [
  | yes inside ↦ get_or-map f xs e 0 0 inside
  | no outside ↦ get_or_past (map f xs) e 0 (omega (arith, length-map xs f)) ∙ sym none ∙ ap f (sym (get_or_past xs e 0 (omega arith)))
]

coefficient_of_entry : (o : Order) (j e : ℕ) (entries : List ℕ) → j < degree_of o →
    get_or (coefficients_at o j entries) e 0 ≡ coefficient o (get_or entries e 0) j
coefficient_of_entry o j e entries h =
    ap (λ (t : Bool). get_or (cond t (map (λ a. coefficient o a j) entries) []) e 0) (lt-ltb j (degree_of o) h)
    ∙ mapped_at (λ a. coefficient o a j) entries e (coefficient-zero o j h)

-- 1 where an entry is the value, and 0 elsewhere, also past the last
pub place_of_entry : (value e : ℕ) (entries : List ℕ) → value ≢ 0 → get_or (places_of_value value entries) e 0 ≡ cond (eqb (get_or entries e 0) value) 1 0
unfolding places_of_value
place_of_entry value e entries nonzero =
    mapped_at (λ a. cond (eqb a value) 1 0) entries e (ap (λ (t : Bool). cond t 1 0) (ne_eqb 0 value (λ same. nonzero (sym same))))

element_at : (o : Order) (e : ℕ) (entries : List ℕ) → All (IsElement o) entries → IsElement o (get_or entries e 0)
element_at o e entries over = elim (dec_lt e (length entries)) [
  | yes inside ↦ over e 0 inside
  | no outside ↦ subst (IsElement o) (sym (get_or_past entries e 0 (omega arith))) (zero_is_element o)
]

-- a coefficient of an entry is below 3
pub coefficient_below_three : (o : Order) (j e : ℕ) (entries : List ℕ) → degree_of o ≢ 1 → j < degree_of o → All (IsElement o) entries →
    get_or (coefficients_at o j entries) e 0 < 3
coefficient_below_three o j e entries h below over =
    let small = coefficient-below o (get_or entries e 0) j (element_at o e entries over) (degree_at_most o j below) in
    let digit : coefficient o (get_or entries e 0) j < prime_of o =
    subst (λ (t : Bool). coefficient o (get_or entries e 0) j < cond t (prime_of o) 1) (lt-ltb j (degree_of o) below) small in
    omega (arith, coefficient_of_entry o j e entries below, digit, prime_is_small o h)
  where
    degree_at_most : (o : Order) (j : ℕ) → j < degree_of o → j < 3
    degree_at_most Two j h = omega arith
    degree_at_most Three j h = omega arith
    degree_at_most Four j h = omega arith
    degree_at_most Five j h = omega arith
    degree_at_most Seven j h = omega arith
    degree_at_most Eight j h = omega arith
    degree_at_most Nine j h = omega arith

-- ---- an element is the value where its coefficients are the value's digits

-- 1 where a coefficient is a digit, and 0 elsewhere
abbrev pub is_digit : ℕ → ℕ → ℕ
is_digit a d = cond (eqb a d) 1 0

is_by_two : Order → ℕ → ℕ → Bool
is_by_two o a value =
    eqb (min (is_digit (coefficient o a 0) (value % prime_of o)) (is_digit (coefficient o a 1) (value / prime_of o % prime_of o))) (is_digit a value)

by_two_digits : (o : Order) → degree_of o ≡ 2 → at_two is_by_two o ≡ true
unfolding at_two passes_below is_by_two polynomial_of coefficients
by_two_digits Two h = absurd (omega arith)
by_two_digits Three h = absurd (omega arith)
by_two_digits Four h = refl
by_two_digits Five h = absurd (omega arith)
by_two_digits Seven h = absurd (omega arith)
by_two_digits Eight h = absurd (omega arith)
by_two_digits Nine h = refl

is_by_three : Order → ℕ → ℕ → Bool
is_by_three o a value =
    eqb (min (min (is_digit (coefficient o a 0) (value % prime_of o)) (is_digit (coefficient o a 1) (value / prime_of o % prime_of o)))
    (is_digit (coefficient o a 2) (value / (prime_of o * prime_of o)))) (is_digit a value)

by_three_digits : (o : Order) → degree_of o ≢ 1 → degree_of o ≢ 2 → at_two is_by_three o ≡ true
unfolding at_two passes_below is_by_three polynomial_of coefficients
by_three_digits Two h k = absurd (h refl)
by_three_digits Three h k = absurd (h refl)
by_three_digits Four h k = absurd (k refl)
by_three_digits Five h k = absurd (h refl)
by_three_digits Seven h k = absurd (h refl)
by_three_digits Eight h k = refl
by_three_digits Nine h k = absurd (k refl)

pub degree_above_one : (o : Order) → degree_of o ≢ 1 → 1 < degree_of o
degree_above_one Two h = absurd (h refl)
degree_above_one Three h = absurd (h refl)
degree_above_one Four h = omega arith
degree_above_one Five h = absurd (h refl)
degree_above_one Seven h = absurd (h refl)
degree_above_one Eight h = omega arith
degree_above_one Nine h = omega arith

module _ (o : Order) (value e : ℕ) (entries : List ℕ) (h : degree_of o ≢ 1) (hv : IsElement o value) (nonzero : value ≢ 0)
    (over : All (IsElement o) entries) where
  abbrev a : ℕ
  a = get_or entries e 0

  -- the bit of a place
  digit_bit : (j digit coefficient_there bit : ℕ) → j < degree_of o → coefficient_there ≡ get_or (coefficients_at o j entries) e 0 →
      bit ≡ is_digit coefficient_there digit → bit ≡ is_digit (coefficient o a j) digit
  digit_bit j digit there bit below there_is bit_is = bit_is ∙ ap (λ y. is_digit y digit) (there_is ∙ coefficient_of_entry o j e entries below)

  pub place_by_two : (c l u w bit : ℕ) → degree_of o ≡ 2 → c ≡ get_or (coefficients_at o 0 entries) e 0 → l ≡ get_or (coefficients_at o 1 entries) e 0 →
      u ≡ is_digit c (value % prime_of o) → w ≡ is_digit l (value / prime_of o % prime_of o) → bit ≡ min u w →
      bit ≡ get_or (places_of_value value entries) e 0
  unfolding is_by_two
  place_by_two c l u w bit two c_is l_is u_is w_is bit_is =
      bit_is
      ∙ ap₂ min (digit_bit 0 _ c u (omega (arith, degree_above_one o h)) c_is u_is) (digit_bit 1 _ l w (degree_above_one o h) l_is w_is)
      ∙ eqb-true _ _ (from_two is_by_two o (by_two_digits o two) a value (element_at o e entries over) hv)
      ∙ sym (place_of_entry value e entries nonzero)

  pub place_by_three : (c l q u w z bit : ℕ) → degree_of o ≢ 2 → 2 < degree_of o → c ≡ get_or (coefficients_at o 0 entries) e 0 →
      l ≡ get_or (coefficients_at o 1 entries) e 0 → q ≡ get_or (coefficients_at o 2 entries) e 0 →
      u ≡ is_digit c (value % prime_of o) → w ≡ is_digit l (value / prime_of o % prime_of o) → z ≡ is_digit q (value / (prime_of o * prime_of o)) →
      bit ≡ min (min u w) z → bit ≡ get_or (places_of_value value entries) e 0
  unfolding is_by_three
  place_by_three c l q u w z bit not_two three c_is l_is q_is u_is w_is z_is bit_is =
      bit_is
      ∙ ap₂ min (ap₂ min (digit_bit 0 _ c u (omega (arith, degree_above_one o h)) c_is u_is) (digit_bit 1 _ l w (degree_above_one o h) l_is w_is))
      (digit_bit 2 _ q z three q_is z_is)
      ∙ eqb-true _ _ (from_two is_by_three o (by_three_digits o h not_two) a value (element_at o e entries over) hv)
      ∙ sym (place_of_entry value e entries nonzero)

pub three_coefficients : (o : Order) → degree_of o ≢ 1 → degree_of o ≢ 2 → (2 < degree_of o) × (prime_of o ≡ 2) × (order_number o ≡ 8)
three_coefficients Two h k = absurd (h refl)
three_coefficients Three h k = absurd (h refl)
three_coefficients Four h k = absurd (k refl)
three_coefficients Five h k = absurd (h refl)
three_coefficients Seven h k = absurd (h refl)
three_coefficients Eight h k = (lit< tt, refl, refl)
three_coefficients Nine h k = absurd (k refl)

-- ---- the places of the digit 0

-- neither of two bits is 1
neither : (a b : ℕ) → a < 2 → b < 2 → 1 - max a b ≡ cond (eqb (a + 2 * b) 0) 1 0
neither zero zero ha hb = refl
neither zero (suc zero) ha hb = refl
neither zero (suc (suc b)) ha hb = absurd (omega arith)
neither (suc zero) zero ha hb = refl
neither (suc zero) (suc zero) ha hb = refl
neither (suc zero) (suc (suc b)) ha hb = absurd (omega arith)
neither (suc (suc a)) b ha hb = absurd (omega arith)

pub no_digit : (u w i : ℕ) → i < 64 → u < 2 ^ 64 → w < 2 ^ 64 → bit_at (bit_not w64 (bit_or u w)) i ≡ cond (eqb (bit_at u i + 2 * bit_at w i) 0) 1 0
no_digit u w i low hu hw =
    bit_at_not w64 (bit_or u w) i (or_lt 64 u w hu hw) low ∙ ap (λ m. 1 - m) (bit_at_or u w i) ∙ neither (bit_at u i) (bit_at w i) (bit_at-lt u i) (bit_at-lt w i)
