-- Monic polynomials and their numbers.
use Rattle.std.specs.Prelude.{◌≡◌, ℕ, suc, ◌+◌, ◌-◌, ◌*◌, ◌/◌, ◌%◌, ◌^◌, ◌<◌, ◌≤◌, List, length, get_or, set, reverse}
use Rattle.std.specs.List.{All}
use Rattle.std.proofs.Common.{get_or-set_other, get_or-set_same}
use Rattle.std.proofs.lemmas.List.{get_or-reverse, length-reverse, reverse-reverse, get_or_default, same_lists}
use Rattle.std.proofs.lemmas.Nat.{div-mul-add}
use Rattle.axe_algebra.specs.NumberField.{NumberField}
use Rattle.axe_algebra.specs.Digits.{digits, number_with_digits}
use Rattle.axe_algebra.specs.Lists.{AreElements}
use Rattle.axe_algebra.proofs.Digits.{digits_length, number_of_its_digits, digits_of_their_number, digit_at}
use Rattle.axe_algebra.proofs.Digits.{digits-below}
use Rattle.axe_algebra.proofs.ElementNumbers.{zero-below}
use Rattle.axe_polynomial_algebra.specs.PolynomialsOfLists.{degree_of, IsMonicOver, polynomial_number}
use Rattle.axe_polynomial_algebra.proofs.PolynomialNumbers
use Rattle.axe_poly.specs.Numbering.{polynomial_with_number}
use mathlib.Core.Path.{sym, ◌∙◌, ap, subst}
use native.Mathlib.Nat.{mod-eq_of_lt, pow-suc, div-div-eq-div-mul}
use native.Mathlib.Omega.{arith}
use native.Mathlib.Decide.{ℕ_discrete}

pub polynomial_length : (q n x : ℕ) → length (polynomial_with_number q n x) ≡ suc n
unfolding polynomial_with_number
polynomial_length q n x = length-reverse (digits q (suc n) x) ∙ digits_length q (suc n) x

-- coefficient j is digit j
pub coefficient_at : (q n x j : ℕ) → j ≤ n → get_or (polynomial_with_number q n x) j 0 ≡ x / q ^ j % q
unfolding polynomial_with_number
coefficient_at q n x j inside =
    get_or-reverse (digits q (suc n) x) j 0 (omega (arith, digits_length q (suc n) x, inside))
    ∙ ap (λ k. get_or (digits q (suc n) x) k 0)
    (let e : length (digits q (suc n) x) - 1 - j ≡ n - j = omega (arith, digits_length q (suc n) x) in e)
    ∙ digit_at q (suc n) x (n - j) j (omega (arith, inside))

-- its number
pub number_of_polynomial : (q n x : ℕ) → 0 < q → x < q ^ suc n → polynomial_number q (polynomial_with_number q n x) ≡ x
unfolding polynomial_with_number
number_of_polynomial q n x positive small =
    ap (number_with_digits q) (reverse-reverse (digits q (suc n) x)) ∙ number_of_its_digits q (suc n) x positive small

-- from a power of q up to twice that power the leading digit is 1
pub leading_one : (q n x : ℕ) → 1 < q → q ^ n ≤ x → x < 2 * q ^ n → x / q ^ n % q ≡ 1
leading_one q n x above from to =
    let is_sum : 1 * q ^ n + (x - q ^ n) ≡ x = omega arith in
    let quotient : x / q ^ n ≡ 1 = sym (ap (λ y. y / q ^ n) is_sum) ∙ div-mul-add 1 (q ^ n) (x - q ^ n) (omega arith) in
    ap (λ y. y % q) quotient ∙ mod-eq_of_lt above

-- the digits are below q in the other order, too
pub digits_reversed : (q : ℕ) (xs : List ℕ) → All (λ digit. digit < q) xs → All (λ digit. digit < q) (reverse xs)
digits_reversed q xs all k d inside =
    let within : k < length xs = omega (arith, length-reverse xs, inside) in
    subst (λ a. a < q) (sym (get_or-reverse xs k d within)) (all (length xs - 1 - k) d (omega (arith, within)))

-- the list of the digits is the polynomial with the number
pub digits_are : (q n x : ℕ) (xs : List ℕ) → length xs ≡ suc n →
    ((j : ℕ) → j < length xs → get_or xs j 0 ≡ x / q ^ j % q) → xs ≡ polynomial_with_number q n x
digits_are q n x xs long each =
    same_lists xs (polynomial_with_number q n x) (long ∙ sym (polynomial_length q n x))
    (λ k d inside. get_or_default xs k d 0 inside ∙ each k inside
    ∙ sym (coefficient_at q n x k (omega (arith, inside, long)))
    ∙ get_or_default (polynomial_with_number q n x) k 0 d (omega (arith, inside, long, polynomial_length q n x)))

-- one more digit
pub digits_next : (q x i left v : ℕ) (xs ys : List ℕ) → i < length xs → left ≡ x / q ^ i → v ≡ left % q →
    ys ≡ set xs i v →
    ((j : ℕ) → j < i → get_or xs j 0 ≡ x / q ^ j % q) → (j : ℕ) → j < i + 1 → get_or ys j 0 ≡ x / q ^ j % q
digits_next q x i left v xs ys inside left_is v_is set_is before j below = cases (ℕ_discrete j i)
  where
    cases : Dec (j ≡ i) → get_or ys j 0 ≡ x / q ^ j % q
    cases (yes same) =
        ap (λ (list : List ℕ). get_or list j 0) set_is ∙ ap (λ k. get_or (set xs i v) k 0) same
        ∙ get_or-set_same xs i v 0 inside
        ∙ v_is ∙ ap (λ n. n % q) left_is ∙ ap (λ k. x / q ^ k % q) (sym same)
    cases (no other) =
        ap (λ (list : List ℕ). get_or list j 0) set_is ∙ get_or-set_other xs i j v 0 other
        ∙ before j (omega (arith, below, other))

-- what is left after one more digit
pub left_next : (q x i left : ℕ) → left ≡ x / q ^ i → left / q ≡ x / q ^ (i + 1)
left_next q x i left is =
    ap (λ n. n / q) is ∙ div-div-eq-div-mul x (q ^ i) q
    ∙ ap (λ n. x / n) (sym (pow-suc q i) ∙ (let e : suc i ≡ i + 1 = omega arith in ap (λ k. q ^ k) e))

module _ (K : NumberField) where
  abbrev q : ℕ
  q = K.order

  pub coefficients-below : (n x : ℕ) → AreElements K (polynomial_with_number q n x)
  unfolding polynomial_with_number
  coefficients-below n x = digits_reversed q (digits q (suc n) x) (digits-below q (suc n) x (zero-below K))

  pub polynomial_degree : (n x : ℕ) → degree_of (polynomial_with_number q n x) ≡ n
  polynomial_degree n x = omega (arith, polynomial_length q n x)

  pub polynomial_is_monic : (n x : ℕ) → 1 ≤ n → q ^ n ≤ x → x < 2 * q ^ n → IsMonicOver K (polynomial_with_number q n x)
  polynomial_is_monic n x positive from to = record {
    elements = coefficients-below n x;
    positive = omega (arith, polynomial_length q n x);
    leads = ap (λ k. get_or (polynomial_with_number q n x) k 0)
        (let e : degree_of (polynomial_with_number q n x) ≡ n = omega (arith, polynomial_length q n x) in e)
        ∙ coefficient_at q n x n (omega arith) ∙ leading_one q n x K.one-below from to;
  }

  -- a monic polynomial of degree n has a number from q^n up to twice that
  pub number_of_monic : (n : ℕ) (f : List ℕ) → IsMonicOver K f → degree_of f ≡ n →
      (q ^ n ≤ polynomial_number q f) × (polynomial_number q f < 2 * q ^ n)
  number_of_monic n f monic is = between (PolynomialNumbers.number_of_monic K f monic)
    where
      power : q ^ degree_of f ≡ q ^ n
      power = ap (λ d. q ^ d) is

      between : (low : ℕ) × (low < K.order ^ degree_of f) ×
          (polynomial_number K.order f ≡ K.order ^ degree_of f + low) →
          (q ^ n ≤ polynomial_number q f) × (polynomial_number q f < 2 * q ^ n)
      between (low, small, sum) = (omega (arith, small, sum, power), omega (arith, small, sum, power))

  -- and is the one with its number
  pub monic_by_number : (n : ℕ) (f : List ℕ) → IsMonicOver K f → degree_of f ≡ n →
      f ≡ polynomial_with_number q n (polynomial_number q f)
  unfolding polynomial_with_number
  monic_by_number n f monic is =
      sym (reverse-reverse f)
      ∙ ap (reverse {A = ℕ}) (sym (digits_of_their_number q (reverse f) (digits_reversed q f monic.elements)))
      ∙ ap (λ m. reverse (digits q m (polynomial_number q f)))
      (length-reverse f ∙ (let e : length f ≡ suc n = omega (arith, monic.positive, is) in e))
