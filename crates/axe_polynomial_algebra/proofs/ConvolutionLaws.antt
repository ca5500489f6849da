-- The laws of products of polynomials.
use Rattle.std.specs.Prelude.{◌≡◌, ◌≢◌, ℕ, zero, suc, ◌+◌, ◌-◌, ◌<◌}
use Rattle.axe_algebra.specs.Field.{Field}
use Rattle.axe_algebra.specs.Vectors.{Vector, HasLength, zero_vector, unit_vector, add_vectors, subtract, scale, sum}
use Rattle.axe_algebra.proofs.FieldLaws.{zero-add, zero-mul, mul-zero, one-mul, add-mul, mul-neg, mul_left_comm}
use Rattle.axe_algebra.proofs.Sums.{sum_more, sum_none, sum_same, sum_zeros, sum-add, mul-sum, neg-sum, sum_one}
use Rattle.axe_algebra.proofs.ProductLaws.{unit_at, unit_off}
use Rattle.axe_polynomial_algebra.specs.Polynomials.{convolution}
use Rattle.axe_polynomial_algebra.specs.PolynomialTheorems.{ConvolutionIsAssociative, ConvolutionIsCommutative}
use Rattle.axe_polynomial_algebra.specs.PolynomialTheorems.{ConvolutionDistributes}
use Rattle.axe_polynomial_algebra.specs.PolynomialTheorems.{OneIsNeutral, ConvolutionHasLength, MonicTimesMonicIsMonic}
use mathlib.Core.Path.{refl, sym, ◌∙◌, ap, ap₂, subst, fun_ext}
use native.Mathlib.Omega.{arith}
use native.Mathlib.Decide.{dec_lt}

module _ (F : Field) where
  open F use {Element, zero as 𝟘, one as 𝟙, add as ◌⊕◌, mul as ◌⊗◌, neg}

  infixl 60 ◌⊕◌
  infixl 70 ◌⊗◌
  -- a sum by its first term
  pub sum_first : (n : ℕ) (f : ℕ → Element) → sum F (suc n) f ≡ f 0 ⊕ sum F n (λ t. f (suc t))
  sum_first zero f =
      sum_more F 0 f ∙ F.add_comm (sum F 0 f) (f 0)
      ∙ ap (λ y. f 0 ⊕ y) (sum_none F f ∙ sym (sum_none F (λ t. f (suc t))))
  sum_first (suc n) f =
      sum_more F (suc n) f ∙ ap (λ y. y ⊕ f (suc n)) (sum_first n f)
      ∙ F.add_assoc (f 0) (sum F n (λ t. f (suc t))) (f (suc n))
      ∙ ap (λ y. f 0 ⊕ y) (sym (sum_more F n (λ t. f (suc t))))

  -- a polynomial without its constant, divided by the variable
  abbrev pub tail_of : Vector F → Vector F
  tail_of p = λ t. p (suc t)

  pub convolution-at : (p q : Vector F) (k : ℕ) → convolution F p q k ≡ sum F (suc k) (λ i. p i ⊗ q (k - i))
  unfolding convolution
  convolution-at p q k = refl

  -- the coefficients of a product, by the first coefficient of the left factor
  pub product_first : (p q : Vector F) → convolution F p q 0 ≡ p 0 ⊗ q 0
  unfolding convolution
  product_first p q =
      sum_more F 0 (λ i. p i ⊗ q (0 - i)) ∙ ap (λ y. y ⊕ p 0 ⊗ q 0) (sum_none F (λ i. p i ⊗ q (0 - i)))
      ∙ zero-add F (p 0 ⊗ q 0)

  pub product_later : (p q : Vector F) (k : ℕ) →
      convolution F p q (suc k) ≡ p 0 ⊗ q (suc k) ⊕ convolution F (λ t. p (suc t)) q k
  unfolding convolution
  product_later p q k =
      sum_first (suc k) (λ i. p i ⊗ q (suc k - i))
      ∙ (let e : suc k - 0 ≡ suc k = omega arith in ap
      (λ s. p 0 ⊗ q s ⊕ sum F (suc k) (λ i. p (suc i) ⊗ q (suc k - suc i))) e)
      ∙ ap (λ y. p 0 ⊗ q (suc k) ⊕ y)
      (sum_same F (suc k) _ (λ i. p (suc i) ⊗ q (k - i))
      (λ i below. let e : suc k - suc i ≡ k - i = omega arith in ap (λ s. p (suc i) ⊗ q s) e))

  -- and of the right factor
  pub product_last : (p q : Vector F) (k : ℕ) →
      convolution F p q (suc k) ≡ convolution F p (λ t. q (suc t)) k ⊕ p (suc k) ⊗ q 0
  unfolding convolution
  product_last p q k =
      sum_more F (suc k) (λ i. p i ⊗ q (suc k - i))
      ∙ ap₂ ◌⊕◌
      (sum_same F (suc k) _ (λ i. p i ⊗ q (suc (k - i)))
      (λ i below. let e : suc k - i ≡ suc (k - i) = omega arith in ap (λ s. p i ⊗ q s) e))
      (let e : suc k - suc k ≡ 0 = omega arith in ap (λ s. p (suc k) ⊗ q s) e)

  pub product_of_zero : (p q : Vector F) → HasLength F 0 p → convolution F p q ≡ zero_vector F
  unfolding convolution
  product_of_zero p q length = fun_ext λ k.
      sum_zeros F (suc k) _ (λ i below. ap (λ y. y ⊗ q (k - i)) (length i (omega arith)) ∙ zero-mul F (q (k - i)))

  -- p q = q p
  commutes_at : (k : ℕ) (p q : Vector F) → convolution F p q k ≡ convolution F q p k
  commutes_at zero p q = product_first p q ∙ F.mul_comm (p 0) (q 0) ∙ sym (product_first q p)
  commutes_at (suc k) p q =
      product_later p q k ∙ ap₂ ◌⊕◌ (F.mul_comm (p 0) (q (suc k))) (commutes_at k (tail_of p) q)
      ∙ F.add_comm (q (suc k) ⊗ p 0) (convolution F q (tail_of p) k) ∙ sym (product_last q p k)

  pub convolution_comm : ConvolutionIsCommutative F
  convolution_comm p q = fun_ext λ k. commutes_at k p q

  -- sums, differences and multiples in either factor
  pub convolution-add : ConvolutionDistributes F
  unfolding convolution
  convolution-add p q r = fun_ext λ k.
      sum_same F (suc k) _ (λ i. p i ⊗ q (k - i) ⊕ p i ⊗ r (k - i)) (λ i below. F.mul-add (p i) (q (k - i)) (r (k - i)))
      ∙ sum-add F (suc k) (λ i. p i ⊗ q (k - i)) (λ i. p i ⊗ r (k - i))

  pub add-convolution : (p q r : Vector F) →
      convolution F (add_vectors F p q) r ≡ add_vectors F (convolution F p r) (convolution F q r)
  unfolding convolution
  add-convolution p q r = fun_ext λ k.
      sum_same F (suc k) _ (λ i. p i ⊗ r (k - i) ⊕ q i ⊗ r (k - i)) (λ i below. add-mul F (p i) (q i) (r (k - i)))
      ∙ sum-add F (suc k) (λ i. p i ⊗ r (k - i)) (λ i. q i ⊗ r (k - i))

  pub convolution-subtract : (p q r : Vector F) →
      convolution F p (subtract F q r) ≡ subtract F (convolution F p q) (convolution F p r)
  unfolding convolution
  convolution-subtract p q r = fun_ext λ k.
      sum_same F (suc k) _ (λ i. p i ⊗ q (k - i) ⊕ neg (p i ⊗ r (k - i)))
      (λ i below. F.mul-add (p i) (q (k - i)) (neg (r (k - i)))
      ∙ ap (λ y. p i ⊗ q (k - i) ⊕ y) (mul-neg F (p i) (r (k - i))))
      ∙ sum-add F (suc k) (λ i. p i ⊗ q (k - i)) (λ i. neg (p i ⊗ r (k - i)))
      ∙ ap (λ y. sum F (suc k) (λ i. p i ⊗ q (k - i)) ⊕ y) (sym (neg-sum F (suc k) (λ i. p i ⊗ r (k - i))))

  pub scale-convolution : (c : Element) (p q : Vector F) → convolution F (scale F c p) q ≡ scale F c (convolution F p q)
  unfolding convolution
  scale-convolution c p q = fun_ext λ k.
      sum_same F (suc k) _ (λ i. c ⊗ (p i ⊗ q (k - i))) (λ i below. F.mul_assoc c (p i) (q (k - i)))
      ∙ sym (mul-sum F c (suc k) (λ i. p i ⊗ q (k - i)))

  pub convolution-scale : (c : Element) (p q : Vector F) → convolution F p (scale F c q) ≡ scale F c (convolution F p q)
  unfolding convolution
  convolution-scale c p q = fun_ext λ k.
      sum_same F (suc k) _ (λ i. c ⊗ (p i ⊗ q (k - i))) (λ i below. mul_left_comm F (p i) c (q (k - i)))
      ∙ sym (mul-sum F c (suc k) (λ i. p i ⊗ q (k - i)))

  pub convolution-zero : (p : Vector F) → convolution F p (zero_vector F) ≡ zero_vector F
  unfolding convolution
  convolution-zero p = fun_ext λ k. sum_zeros F (suc k) _ (λ i below. mul-zero F (p i))

  -- (p q) r = p (q r)
  associates_at : (k : ℕ) (p q r : Vector F) →
      convolution F (convolution F p q) r k ≡ convolution F p (convolution F q r) k
  associates_at zero p q r =
      product_first (convolution F p q) r ∙ ap (λ y. y ⊗ r 0) (product_first p q) ∙ F.mul_assoc (p 0) (q 0) (r 0)
      ∙ ap (λ y. p 0 ⊗ y) (sym (product_first q r)) ∙ sym (product_first p (convolution F q r))
  associates_at (suc k) p q r =
      product_later (convolution F p q) r k
      ∙ ap₂ ◌⊕◌ (ap (λ y. y ⊗ r (suc k)) (product_first p q) ∙ F.mul_assoc (p 0) (q 0) (r (suc k)))
      (ap (λ (y : Vector F). y k) later)
      ∙ sym (F.add_assoc (p 0 ⊗ (q 0 ⊗ r (suc k))) (p 0 ⊗ convolution F (tail_of q) r k)
      (convolution F (convolution F (tail_of p) q) r k))
      ∙ ap₂ ◌⊕◌
      (sym (F.mul-add (p 0) (q 0 ⊗ r (suc k)) (convolution F (tail_of q) r k))
      ∙ ap (λ y. p 0 ⊗ y) (sym (product_later q r k)))
      (associates_at k (tail_of p) q r)
      ∙ sym (product_later p (convolution F q r) k)
    where
      later : convolution F (tail_of (convolution F p q)) r
          ≡ add_vectors F (scale F (p 0) (convolution F (tail_of q) r)) (convolution F (convolution F (tail_of p) q) r)
      later =
          ap (λ (f : Vector F). convolution F f r) (fun_ext λ j. product_later p q j)
          ∙ add-convolution (scale F (p 0) (tail_of q)) (convolution F (tail_of p) q) r
          ∙ ap (λ (f : Vector F). add_vectors F f (convolution F (convolution F (tail_of p) q) r))
          (scale-convolution (p 0) (tail_of q) r)

  pub convolution_assoc : ConvolutionIsAssociative F
  convolution_assoc p q r = fun_ext λ k. associates_at k p q r

  -- the k-th power of the variable moves the coefficients k places up
  pub unit_product_at : (k : ℕ) (p : Vector F) (j : ℕ) → convolution F (unit_vector F k) p (k + j) ≡ p j
  unfolding convolution
  unit_product_at k p j =
      sum_one F (suc (k + j)) k (λ i. unit_vector F k i ⊗ p (k + j - i)) (omega arith)
      (λ i below other. ap (λ y. y ⊗ p (k + j - i)) (unit_off F k i (λ e. other (sym e))) ∙ zero-mul F (p (k + j - i)))
      ∙ ap (λ y. y ⊗ p (k + j - k)) (unit_at F k) ∙ one-mul F (p (k + j - k))
      ∙ (let e : k + j - k ≡ j = omega arith in ap p e)

  pub unit_product_before : (k : ℕ) (p : Vector F) (j : ℕ) → j < k → convolution F (unit_vector F k) p j ≡ 𝟘
  unfolding convolution
  unit_product_before k p j before =
      sum_zeros F (suc j) _ (λ i below. ap (λ y. y ⊗ p (j - i)) (unit_off F k i (omega arith)) ∙ zero-mul F (p (j - i)))

  pub one_is_neutral : OneIsNeutral F
  one_is_neutral p = fun_ext λ j. (let e : j ≡ 0 + j = omega arith in ap (convolution F (unit_vector F 0) p) e)
      ∙ unit_product_at 0 p j

  -- lengths and top coefficients
  pub convolution_length : ConvolutionHasLength F
  unfolding convolution
  convolution_length d n p q of_p of_q k past = sum_zeros F (suc k) _ (λ i below. term i (dec_lt d i))
    where
      term : (i : ℕ) → Dec (d < i) → p i ⊗ q (k - i) ≡ 𝟘
      term i (yes beyond) = ap (λ y. y ⊗ q (k - i)) (of_p i (omega arith)) ∙ zero-mul F (q (k - i))
      term i (no within) = ap (λ y. p i ⊗ y) (of_q (k - i) (omega arith)) ∙ mul-zero F (p i)

  pub top_of_product : (d e : ℕ) (p q : Vector F) → HasLength F (suc d) p → HasLength F (suc e) q →
      convolution F p q (d + e) ≡ p d ⊗ q e
  unfolding convolution
  top_of_product d e p q of_p of_q =
      sum_one F (suc (d + e)) d (λ i. p i ⊗ q (d + e - i)) (omega arith) (λ i below other. term i other (dec_lt d i))
      ∙ (let same : d + e - d ≡ e = omega arith in ap (λ s. p d ⊗ q s) same)
    where
      term : (i : ℕ) → i ≢ d → Dec (d < i) → p i ⊗ q (d + e - i) ≡ 𝟘
      term i other (yes beyond) = ap (λ y. y ⊗ q (d + e - i)) (of_p i (omega arith)) ∙ zero-mul F (q (d + e - i))
      term i other (no within) = ap (λ y. p i ⊗ y) (of_q (d + e - i) (omega arith)) ∙ mul-zero F (p i)

  pub monic_times_monic : MonicTimesMonicIsMonic F
  monic_times_monic d e p q of_p of_q = record {
    leads =
        top_of_product d e p q of_p.length of_q.length ∙ ap₂ ◌⊗◌ of_p.leads of_q.leads ∙ one-mul F 𝟙;
    length = subst (λ n. HasLength F n (convolution F p q)) (omega arith)
        (convolution_length d (suc e) p q of_p.length of_q.length);
  }
