-- Sums of some terms over a field of numbers: cut in two, with a factor, and with terms of 0.
use Rattle.std.proofs.Common.{◌≡◌, ℕ, ◌+◌, ◌<◌, ◌≤◌, sym, ap, ap₂, ◌∙◌}
use Rattle.axe_algebra.specs.Field.{Field}
use Rattle.axe_algebra.specs.ListArithmetic.{number_sum}
use Rattle.axe_algebra.specs.Bridge.{field_of, element}
use Rattle.axe_algebra.specs.NumberField.{NumberField}
use Rattle.axe_algebra.proofs.ElementNumbers.{zero-below, element_zero, element_add, element_mul, element_number_sum, same_number, number_sum-below}
use Rattle.axe_algebra.proofs.FieldLaws as Laws
use Rattle.axe_algebra.proofs.Sums.{sum_split, sum_longer, mul-sum, sum_same}

module _ (K : NumberField) where
  abbrev F : Field
  F = field_of K

  pub mul-zero : (a : ℕ) → a < K.order → K.mul a 0 ≡ 0
  mul-zero a small =
      same_number K (K.mul a 0) 0 (K.mul-below a 0 small (zero-below K)) (zero-below K)
      (element_mul K a 0 small (zero-below K) ∙ ap (F.mul (element K a)) (element_zero K) ∙ Laws.mul-zero F (element K a) ∙ sym (element_zero K))

  pub zero-mul : (a : ℕ) → a < K.order → K.mul 0 a ≡ 0
  zero-mul a small = K.mul_comm 0 a (zero-below K) small ∙ mul-zero a small

  pub zero-add : (a : ℕ) → a < K.order → K.add 0 a ≡ a
  zero-add a small = K.add_comm 0 a (zero-below K) small ∙ K.add-zero a small

  pub one-mul : (a : ℕ) → a < K.order → K.mul 1 a ≡ a
  one-mul a small = K.mul_comm 1 a K.one-below small ∙ K.mul-one a small

  pub sum-below : (f : ℕ → ℕ) (n : ℕ) → ((t : ℕ) → f t < K.order) → number_sum K f n < K.order
  sum-below f n small = number_sum-below K n f (λ t _. small t)

  -- a sum of m + n terms is one of m and one of n
  pub number_sum_split : (f : ℕ → ℕ) (m n : ℕ) → ((t : ℕ) → f t < K.order) →
      number_sum K f (m + n) ≡ K.add (number_sum K f m) (number_sum K (λ t. f (m + t)) n)
  number_sum_split f m n small =
      same_number K _ _ (sum-below f (m + n) small) (K.add-below _ _ (sum-below f m small) (sum-below (λ t. f (m + t)) n (λ t. small (m + t))))
      (element_number_sum K (m + n) f (λ t _. small t)
      ∙ sum_split F m n (λ t. element K (f t))
      ∙ ap₂ F.add (sym (element_number_sum K m f (λ t _. small t))) (sym (element_number_sum K n (λ t. f (m + t)) (λ t _. small (m + t))))
      ∙ sym (element_add K _ _ (sum-below f m small) (sum-below (λ t. f (m + t)) n (λ t. small (m + t)))))

  -- a multiple of a sum
  pub mul-number_sum : (c : ℕ) (f : ℕ → ℕ) (n : ℕ) → c < K.order → ((t : ℕ) → f t < K.order) →
      K.mul c (number_sum K f n) ≡ number_sum K (λ t. K.mul c (f t)) n
  mul-number_sum c f n c_small small =
      same_number K _ _ (K.mul-below c _ c_small (sum-below f n small)) (sum-below (λ t. K.mul c (f t)) n (λ t. K.mul-below c (f t) c_small (small t)))
      (element_mul K c _ c_small (sum-below f n small)
      ∙ ap (F.mul (element K c)) (element_number_sum K n f (λ t _. small t))
      ∙ mul-sum F (element K c) n (λ t. element K (f t))
      ∙ sum_same F n _ _ (λ t _. sym (element_mul K c (f t) c_small (small t)))
      ∙ sym (element_number_sum K n (λ t. K.mul c (f t)) (λ t _. K.mul-below c (f t) c_small (small t))))

  -- terms of 0 at the end may be left out
  pub number_sum_longer : (n m : ℕ) (f : ℕ → ℕ) → n ≤ m → ((t : ℕ) → f t < K.order) → ((t : ℕ) → n ≤ t → t < m → f t ≡ 0) →
      number_sum K f m ≡ number_sum K f n
  number_sum_longer n m f shorter small zeros =
      same_number K _ _ (sum-below f m small) (sum-below f n small)
      (element_number_sum K m f (λ t _. small t)
      ∙ sum_longer F n m (λ t. element K (f t)) shorter (λ t past below. ap (element K) (zeros t past below) ∙ element_zero K)
      ∙ sym (element_number_sum K n f (λ t _. small t)))

  -- c times a sum of m terms, and then c times the n terms after them
  pub add_terms : (x c : ℕ) (f : ℕ → ℕ) (m n : ℕ) → x < K.order → c < K.order → ((t : ℕ) → f t < K.order) →
      K.add (K.add x (K.mul c (number_sum K f m))) (K.mul c (number_sum K (λ t. f (m + t)) n))
      ≡ K.add x (K.mul c (number_sum K f (m + n)))
  add_terms x c f m n x_small c_small small =
      let first = sum-below f m small in
      let second = sum-below (λ t. f (m + t)) n (λ t. small (m + t)) in
      K.add_assoc x _ _ x_small (K.mul-below c _ c_small first) (K.mul-below c _ c_small second)
      ∙ ap (K.add x) (sym (K.mul-add c _ _ c_small first second) ∙ ap (K.mul c) (sym (number_sum_split f m n small)))
