-- Elements and their numbers.
use Rattle.std.specs.Prelude.{◌≡◌, ℕ, zero, suc, ◌<◌, List, length, get_or}
use Rattle.axe_algebra.specs.NumberField.{NumberField}
use Rattle.axe_algebra.specs.Field.{Field}
use Rattle.axe_algebra.specs.Vectors.{sum}
use Rattle.axe_algebra.specs.Bridge.{ElementOf, same_element, zero_of, one_of, field_of, element_by, element}
use Rattle.axe_algebra.specs.Lists.{AreElements}
use Rattle.axe_algebra.specs.ListArithmetic.{number_sum}
use Rattle.std.proofs.lemmas.List.{get_or_past}
use mathlib.Core.Path.{refl, sym, ◌∙◌, ap, ap₂}
use native.Mathlib.Omega.{arith}
use native.Mathlib.Decide.{dec_lt}

module _ (K : NumberField) where
  abbrev F : Field
  F = field_of K

  pub zero-below : 0 < K.order
  zero-below = omega (arith, K.one-below)

  pub number_of_element : (e : ℕ) → e < K.order → (element K e).0 ≡ e
  unfolding element element_by
  number_of_element e below = cases (dec_lt e K.order)
    where
      cases : (d : Dec (e < K.order)) → (element_by K e d).0 ≡ e
      cases (yes inside) = refl
      cases (no outside) = absurd (outside below)

  pub element_of_number : (x : ElementOf K) → element K x.0 ≡ x
  element_of_number x = same_element K (element K x.0) x (number_of_element x.0 x.1)

  pub element_zero : element K 0 ≡ zero_of K
  element_zero = element_of_number (zero_of K)

  pub element_one : element K 1 ≡ one_of K
  element_one = element_of_number (one_of K)

  pub same_number : (a b : ℕ) → a < K.order → b < K.order → element K a ≡ element K b → a ≡ b
  same_number a b a-below b-below e = sym (number_of_element a a-below) ∙ ap (λ (x : ElementOf K). x.0) e ∙ number_of_element b b-below

  pub element_add : (a b : ℕ) → a < K.order → b < K.order → element K (K.add a b) ≡ F.add (element K a) (element K b)
  element_add a b a-below b-below = same_element K _ _
      (number_of_element (K.add a b) (K.add-below a b a-below b-below)
      ∙ ap₂ K.add (sym (number_of_element a a-below)) (sym (number_of_element b b-below)))

  pub element_mul : (a b : ℕ) → a < K.order → b < K.order → element K (K.mul a b) ≡ F.mul (element K a) (element K b)
  element_mul a b a-below b-below = same_element K _ _
      (number_of_element (K.mul a b) (K.mul-below a b a-below b-below)
      ∙ ap₂ K.mul (sym (number_of_element a a-below)) (sym (number_of_element b b-below)))

  pub element_neg : (a : ℕ) → a < K.order → element K (K.neg a) ≡ F.neg (element K a)
  element_neg a a-below = same_element K _ _
      (number_of_element (K.neg a) (K.neg-below a a-below) ∙ ap K.neg (sym (number_of_element a a-below)))

  -- sums of numbers are sums of elements
  pub number_sum-below : (n : ℕ) (f : ℕ → ℕ) → ((t : ℕ) → t < n → f t < K.order) → number_sum K f n < K.order
  unfolding number_sum
  number_sum-below zero f below = zero-below
  number_sum-below (suc n) f below =
      K.add-below (number_sum K f n) (f n) (number_sum-below n f (λ t inside. below t (omega arith))) (below n (omega arith))

  pub element_number_sum : (n : ℕ) (f : ℕ → ℕ) → ((t : ℕ) → t < n → f t < K.order) →
      element K (number_sum K f n) ≡ sum F n (λ t. element K (f t))
  unfolding number_sum sum
  element_number_sum zero f below = element_zero
  element_number_sum (suc n) f below =
      element_add (number_sum K f n) (f n) (number_sum-below n f (λ t inside. below t (omega arith))) (below n (omega arith))
      ∙ ap (λ x. F.add x (element K (f n))) (element_number_sum n f (λ t inside. below t (omega arith)))

  pub number_sum_same : (n : ℕ) (f g : ℕ → ℕ) → ((t : ℕ) → t < n → f t ≡ g t) → number_sum K f n ≡ number_sum K g n
  unfolding number_sum
  number_sum_same zero f g same = refl
  number_sum_same (suc n) f g same = ap₂ K.add (number_sum_same n f g (λ t inside. same t (omega arith))) (same n (omega arith))

  -- an entry of a list of elements is one, also past the end
  pub entry-below : (entries : List ℕ) (j : ℕ) → AreElements K entries → get_or entries j 0 < K.order
  entry-below entries j elements = cases (dec_lt j (length entries))
    where
      cases : Dec (j < length entries) → get_or entries j 0 < K.order
      cases (yes inside) = elements j 0 inside
      cases (no past) = omega (arith, get_or_past entries j 0 (omega arith), zero-below)
