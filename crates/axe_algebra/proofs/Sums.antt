-- Finite sums: by their terms, linear, exchanged, split and lengthened.
use Rattle.std.specs.Prelude.{◌≡◌, ◌≢◌, ℕ, zero, suc, ◌<◌, ◌≤◌, ◌+◌}
use Rattle.axe_algebra.specs.Field.{Field}
use Rattle.axe_algebra.specs.Vectors.{sum}
use Rattle.axe_algebra.proofs.FieldLaws.{zero-add, mul-zero, add_swap, neg-zero, neg-sum_of_two, add-mul, zero-mul}
use mathlib.Core.Path.{refl, sym, ◌∙◌, ap, ap₂}
use native.Mathlib.Omega.{arith}
use native.Mathlib.Decide.{ℕ_discrete}
use native.Mathlib.Nat.{add-suc, add-zero}

module _ (F : Field) where
  open F use {Element, zero as 𝟘, one as 𝟙, add as ◌⊕◌, mul as ◌⊗◌, neg}

  infixl 60 ◌⊕◌
  infixl 70 ◌⊗◌
  pub sum_more : (n : ℕ) (f : ℕ → Element) → sum F (suc n) f ≡ sum F n f ⊕ f n
  unfolding sum
  sum_more n f = refl

  pub sum_none : (f : ℕ → Element) → sum F 0 f ≡ 𝟘
  unfolding sum
  sum_none f = refl

  pub sum_same : (n : ℕ) (f g : ℕ → Element) → ((t : ℕ) → t < n → f t ≡ g t) → sum F n f ≡ sum F n g
  unfolding sum
  sum_same zero f g same = refl
  sum_same (suc n) f g same = ap₂ ◌⊕◌ (sum_same n f g (λ t below. same t (omega arith))) (same n (omega arith))

  pub sum_zeros : (n : ℕ) (f : ℕ → Element) → ((t : ℕ) → t < n → f t ≡ 𝟘) → sum F n f ≡ 𝟘
  unfolding sum
  sum_zeros zero f zeros = refl
  sum_zeros (suc n) f zeros = ap₂ ◌⊕◌ (sum_zeros n f (λ t below. zeros t (omega arith))) (zeros n (omega arith)) ∙ zero-add F 𝟘

  pub sum-add : (n : ℕ) (f g : ℕ → Element) → sum F n (λ t. f t ⊕ g t) ≡ sum F n f ⊕ sum F n g
  unfolding sum
  sum-add zero f g = sym (zero-add F 𝟘)
  sum-add (suc n) f g = ap (λ x. x ⊕ (f n ⊕ g n)) (sum-add n f g) ∙ add_swap F (sum F n f) (sum F n g) (f n) (g n)

  pub mul-sum : (c : Element) (n : ℕ) (f : ℕ → Element) → c ⊗ sum F n f ≡ sum F n (λ t. c ⊗ f t)
  unfolding sum
  mul-sum c zero f = mul-zero F c
  mul-sum c (suc n) f = F.mul-add c (sum F n f) (f n) ∙ ap (λ x. x ⊕ c ⊗ f n) (mul-sum c n f)

  pub sum-mul : (n : ℕ) (f : ℕ → Element) (c : Element) → sum F n f ⊗ c ≡ sum F n (λ t. f t ⊗ c)
  unfolding sum
  sum-mul zero f c = zero-mul F c
  sum-mul (suc n) f c = add-mul F (sum F n f) (f n) c ∙ ap (λ x. x ⊕ f n ⊗ c) (sum-mul n f c)

  pub neg-sum : (n : ℕ) (f : ℕ → Element) → neg (sum F n f) ≡ sum F n (λ t. neg (f t))
  unfolding sum
  neg-sum zero f = neg-zero F
  neg-sum (suc n) f = neg-sum_of_two F (sum F n f) (f n) ∙ ap (λ x. x ⊕ neg (f n)) (neg-sum n f)

  pub sum_swap : (m n : ℕ) (f : ℕ → ℕ → Element) → sum F m (λ s. sum F n (λ t. f s t)) ≡ sum F n (λ t. sum F m (λ s. f s t))
  unfolding sum
  sum_swap zero n f = sym (sum_zeros n (λ t. 𝟘) (λ t below. refl))
  sum_swap (suc m) n f =
      ap (λ x. x ⊕ sum F n (λ t. f m t)) (sum_swap m n f) ∙ sym (sum-add n (λ t. sum F m (λ s. f s t)) (λ t. f m t))

  -- all terms but one are zero
  pub sum_one : (n p : ℕ) (f : ℕ → Element) → p < n → ((t : ℕ) → t < n → t ≢ p → f t ≡ 𝟘) → sum F n f ≡ f p
  unfolding sum
  sum_one zero p f below zeros = absurd (omega arith)
  sum_one (suc n) p f below zeros = last (sum_one n p f) (ℕ_discrete p n)
    where
      last : (p < n → ((t : ℕ) → t < n → t ≢ p → f t ≡ 𝟘) → sum F n f ≡ f p) → Dec (p ≡ n) → sum F n f ⊕ f n ≡ f p
      last before_it (yes e) =
          ap (λ x. x ⊕ f n) (sum_zeros n f (λ t before. zeros t (omega arith) (omega arith))) ∙ zero-add F (f n) ∙ ap f (sym e)
      last before_it (no other) =
          ap₂ ◌⊕◌ (before_it (omega arith) (λ t before. zeros t (omega arith))) (zeros n (omega arith) (omega arith))
          ∙ F.add-zero (f p)

  pub sum_split : (m n : ℕ) (f : ℕ → Element) → sum F (m + n) f ≡ sum F m f ⊕ sum F n (λ t. f (m + t))
  unfolding sum
  sum_split m zero f = ap (λ k. sum F k f) (add-zero m) ∙ sym (F.add-zero (sum F m f))
  sum_split m (suc n) f =
      ap (λ k. sum F k f) (add-suc m n) ∙ ap (λ x. x ⊕ f (m + n)) (sum_split m n f)
      ∙ F.add_assoc (sum F m f) (sum F n (λ t. f (m + t))) (f (m + n))

  -- further terms that are zero
  pub sum_longer : (n m : ℕ) (f : ℕ → Element) → n ≤ m → ((t : ℕ) → n ≤ t → t < m → f t ≡ 𝟘) → sum F m f ≡ sum F n f
  unfolding sum
  sum_longer n zero f within zeros = let e : zero ≡ n = omega arith in ap (λ k. sum F k f) e
  sum_longer n (suc m) f within zeros = last (sum_longer n m f) (ℕ_discrete n (suc m))
    where
      last : (n ≤ m → ((t : ℕ) → n ≤ t → t < m → f t ≡ 𝟘) → sum F m f ≡ sum F n f) → Dec (n ≡ suc m) → sum F m f ⊕ f m ≡ sum F n f
      last before_it (yes e) = ap (λ k. sum F k f) (sym e)
      last before_it (no other) =
          ap₂ ◌⊕◌ (before_it (omega arith) (λ t from below. zeros t from (omega arith))) (zeros m (omega arith) (omega arith))
          ∙ F.add-zero (sum F n f)
