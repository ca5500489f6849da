-- Elimination: rows of length n are dependent, or independent and at most n. The one decision procedure.
use Rattle.std.specs.Prelude.{◌≡◌, ◌≢◌, ℕ, zero, suc, ◌<◌, ◌≤◌, ◌⊎◌}
use Rattle.axe_algebra.specs.Field.{Field}
use Rattle.axe_algebra.specs.Vectors.{Vector, Matrix, HasLength, HasRowsOfLength, zero_vector, unit_vector, subtract, scale, sum, times}
use Rattle.axe_algebra.specs.Spans.{IsIndependent, IsDependent}
use Rattle.axe_algebra.specs.Reduced.{LeadsAt}
use Rattle.axe_algebra.proofs.FieldLaws.{zero-add, add_swap, zero-mul, mul-zero, mul-neg, add-mul, inv-mul, other_factor, neg-add}
use Rattle.axe_algebra.proofs.Sums.{sum_same, sum_zeros, sum-add, sum-mul, neg-sum}
use Rattle.axe_algebra.proofs.ProductLaws.{times-at, times_zero_rows, unit_at}
use Rattle.axe_algebra.proofs.Skipping.{skip, skip-below, skipped, put_in, put_in_at, put_in_skip, sum_skip}
use mathlib.Core.Logic.{inl, inr}
use mathlib.Core.Path.{refl, sym, ◌∙◌, ap, ap₂, fun_ext}
use native.Mathlib.Omega.{arith}
use native.Mathlib.Decide.{ℕ_discrete, dec_lt}

module _ (F : Field) where
  open F use {Element, zero as 𝟘, one as 𝟙, add as ◌⊕◌, mul as ◌⊗◌, neg, inv}

  infixl 60 ◌⊕◌
  infixl 70 ◌⊗◌
  -- among f 0 to f (k - 1) the first that is not zero, or all are zero
  pub nonzero_or_all_zero : (k : ℕ) (f : ℕ → Element) →
      ((p : ℕ) × (p < k) × (f p ≢ 𝟘) × ((t : ℕ) → t < p → f t ≡ 𝟘)) ⊎ ((t : ℕ) → t < k → f t ≡ 𝟘)
  nonzero_or_all_zero zero f = inr λ t below. absurd (omega arith)
  nonzero_or_all_zero (suc k) f = cases (nonzero_or_all_zero k f) (F.is_discrete (f k) 𝟘)
    where
      cases : ((p : ℕ) × (p < k) × (f p ≢ 𝟘) × ((t : ℕ) → t < p → f t ≡ 𝟘)) ⊎ ((t : ℕ) → t < k → f t ≡ 𝟘) → Dec (f k ≡ 𝟘) →
          ((p : ℕ) × (p < suc k) × (f p ≢ 𝟘) × ((t : ℕ) → t < p → f t ≡ 𝟘)) ⊎ ((t : ℕ) → t < suc k → f t ≡ 𝟘)
      cases (inl (p, below, nonzero, before)) _ = inl (p, omega arith, nonzero, before)
      cases (inr zeros) (no nonzero) = inl (k, omega arith, nonzero, zeros)
      cases (inr zeros) (yes zero_too) = inr λ t below. at t below (ℕ_discrete t k)
        where
          at : (t : ℕ) → t < suc k → Dec (t ≡ k) → f t ≡ 𝟘
          at t below (yes e) = ap f e ∙ zero_too
          at t below (no other) = zeros t (omega arith)

  -- a vector is zero, or it has a first nonzero entry
  pub is_zero_or_leads : (n : ℕ) (x : Vector F) → HasLength F n x → (x ≡ zero_vector F) ⊎ ((j : ℕ) × (j < n) × LeadsAt F x j)
  is_zero_or_leads n x length = cases (nonzero_or_all_zero n x)
    where
      at : ((t : ℕ) → t < n → x t ≡ 𝟘) → (t : ℕ) → Dec (t < n) → x t ≡ 𝟘
      at zeros t (yes below) = zeros t below
      at zeros t (no past) = length t (omega arith)

      cases : ((p : ℕ) × (p < n) × (x p ≢ 𝟘) × ((t : ℕ) → t < p → x t ≡ 𝟘)) ⊎ ((t : ℕ) → t < n → x t ≡ 𝟘) →
          (x ≡ zero_vector F) ⊎ ((j : ℕ) × (j < n) × LeadsAt F x j)
      cases (inl (p, below, nonzero, before)) = inr (p, below, record { nonzero = nonzero; before = before })
      cases (inr zeros) = inl (fun_ext λ t. at zeros t (dec_lt t n))

  -- the rows other than p, each less a multiple of row p
  pub cleared : ℕ → Vector F → Matrix F → Matrix F
  cleared p r v i = subtract F (v (skip p i)) (scale F (r i) (v p))

  pub cleared-at : (p : ℕ) (r : Vector F) (v : Matrix F) (i : ℕ) → cleared p r v i ≡ subtract F (v (skip p i)) (scale F (r i) (v p))
  unfolding cleared
  cleared-at p r v i = refl

  -- a combination of all rows by row p and the cleared ones
  pub times_cleared : (k p : ℕ) (r c : Vector F) (v : Matrix F) → p ≤ k → (j : ℕ) →
      times F (suc k) c v j ≡
      (c p ⊕ sum F k (λ i. c (skip p i) ⊗ r i)) ⊗ v p j ⊕ times F k (λ i. c (skip p i)) (cleared p r v) j
  unfolding cleared
  times_cleared k p r c v within j =
      times-at F (suc k) c v j ∙ sum_skip F k p (λ t. c t ⊗ v t j) within ∙ sym whole
    where
      s : Element
      s = sum F k (λ i. c (skip p i) ⊗ r i)

      t : Element
      t = sum F k (λ i. c (skip p i) ⊗ v (skip p i) j)

      x : Element
      x = v p j

      rest : times F k (λ i. c (skip p i)) (cleared p r v) j ≡ t ⊕ neg (s ⊗ x)
      rest =
          times-at F k (λ i. c (skip p i)) (cleared p r v) j
          ∙ sum_same F k _ (λ i. c (skip p i) ⊗ v (skip p i) j ⊕ neg ((c (skip p i) ⊗ r i) ⊗ v p j))
          (λ i below. F.mul-add (c (skip p i)) (v (skip p i) j) (neg (r i ⊗ v p j))
          ∙ ap (λ y. c (skip p i) ⊗ v (skip p i) j ⊕ y)
          (mul-neg F (c (skip p i)) (r i ⊗ v p j) ∙ ap neg (sym (F.mul_assoc (c (skip p i)) (r i) (v p j)))))
          ∙ sum-add F k (λ i. c (skip p i) ⊗ v (skip p i) j) (λ i. neg ((c (skip p i) ⊗ r i) ⊗ v p j))
          ∙ ap (λ y. sum F k (λ i. c (skip p i) ⊗ v (skip p i) j) ⊕ y)
          (sym (neg-sum F k (λ i. (c (skip p i) ⊗ r i) ⊗ v p j)) ∙ ap neg (sym (sum-mul F k (λ i. c (skip p i) ⊗ r i) (v p j))))

      whole : (c p ⊕ s) ⊗ x ⊕ times F k (λ i. c (skip p i)) (cleared p r v) j ≡ c p ⊗ x ⊕ t
      whole =
          ap₂ ◌⊕◌ (add-mul F (c p) s x) rest ∙ add_swap F (c p ⊗ x) (s ⊗ x) t (neg (s ⊗ x))
          ∙ F.add_assoc (c p ⊗ x) t (s ⊗ x ⊕ neg (s ⊗ x)) ∙ ap (λ y. c p ⊗ x ⊕ (t ⊕ y)) (F.add-neg (s ⊗ x))
          ∙ ap (λ y. c p ⊗ x ⊕ y) (F.add-zero t)

  -- the multiples of row p that clear column m
  pub clearing : (m p : ℕ) → Matrix F → Vector F
  clearing m p v i = v (skip p i) m ⊗ inv (v p m)

  pub cleared_at_pivot : (m p i : ℕ) (v : Matrix F) → v p m ≢ 𝟘 → cleared p (clearing m p v) v i m ≡ 𝟘
  unfolding cleared clearing
  cleared_at_pivot m p i v nonzero =
      ap (λ x. v (skip p i) m ⊕ neg x)
      (F.mul_assoc (v (skip p i) m) (inv (v p m)) (v p m) ∙ ap (λ x. v (skip p i) m ⊗ x) (inv-mul F (v p m) nonzero)
      ∙ F.mul-one (v (skip p i) m))
      ∙ F.add-neg (v (skip p i) m)

  -- a row cleared at column m has one column less
  pub cleared_length : (m p i : ℕ) (v : Matrix F) → HasLength F (suc m) (v (skip p i)) → HasLength F (suc m) (v p) → v p m ≢ 𝟘 →
      HasLength F m (cleared p (clearing m p v) v i)
  unfolding cleared clearing
  cleared_length m p i v row pivot_row nonzero j past = cases (ℕ_discrete j m)
    where
      cases : Dec (j ≡ m) → cleared p (clearing m p v) v i j ≡ 𝟘
      cases (yes e) = ap (cleared p (clearing m p v) v i) e ∙ cleared_at_pivot m p i v nonzero
      cases (no other) =
          ap₂ (λ x y. x ⊕ neg ((v (skip p i) m ⊗ inv (v p m)) ⊗ y)) (row j (omega arith)) (pivot_row j (omega arith))
          ∙ ap (λ x. 𝟘 ⊕ neg x) (mul-zero F (v (skip p i) m ⊗ inv (v p m))) ∙ F.add-neg 𝟘

  -- a dependence of the cleared rows is one of all rows
  dependent_from_cleared : (k p : ℕ) (r : Vector F) (v : Matrix F) → p ≤ k → IsDependent F k (cleared p r v) → IsDependent F (suc k) v
  dependent_from_cleared k p r v within d = record {
    coefficients = c;
    vanishes = fun_ext λ j.
        times_cleared k p r c v within j
        ∙ ap₂ (λ x y. x ⊗ v p j ⊕ y) first_is_zero (others j)
        ∙ ap (λ x. x ⊕ 𝟘) (zero-mul F (v p j)) ∙ F.add-zero 𝟘;
    place = skip p d.place;
    place-below = skip-below p k d.place d.place-below;
    nonzero = λ e. d.nonzero (sym (put_in_skip p s d.coefficients d.place) ∙ e);
  }
    where
      s : Element
      s = neg (sum F k (λ i. d.coefficients i ⊗ r i))

      c : Vector F
      c = put_in p s d.coefficients

      same : (λ (i : ℕ). c (skip p i)) ≡ d.coefficients
      same = fun_ext λ i. put_in_skip p s d.coefficients i

      first_is_zero : c p ⊕ sum F k (λ i. c (skip p i) ⊗ r i) ≡ 𝟘
      first_is_zero =
          ap₂ (λ x (y : Vector F). x ⊕ sum F k (λ i. y i ⊗ r i)) (put_in_at p s d.coefficients) same
          ∙ neg-add F (sum F k (λ i. d.coefficients i ⊗ r i))

      others : (j : ℕ) → times F k (λ i. c (skip p i)) (cleared p r v) j ≡ 𝟘
      others j = ap (λ (y : Vector F). times F k y (cleared p r v) j) same ∙ ap (λ (x : Vector F). x j) d.vanishes

  -- independent cleared rows, all zero at a column where row p is not: then all rows are independent
  independent_from_cleared : (k p m : ℕ) (r : Vector F) (v : Matrix F) → p ≤ k → v p m ≢ 𝟘 →
      ((i : ℕ) → i < k → cleared p r v i m ≡ 𝟘) → IsIndependent F k (cleared p r v) → IsIndependent F (suc k) v
  independent_from_cleared k p m r v within nonzero zeros independent = record { only_zero = λ c vanishes t below. at c vanishes t below (ℕ_discrete t p) }
    where
      first : (c : Vector F) → times F (suc k) c v ≡ zero_vector F → c p ⊕ sum F k (λ i. c (skip p i) ⊗ r i) ≡ 𝟘
      first c vanishes =
          other_factor F (v p m) (c p ⊕ sum F k (λ i. c (skip p i) ⊗ r i))
          (F.mul_comm (v p m) _ ∙ sym (F.add-zero _)
          ∙ ap (λ x. (c p ⊕ sum F k (λ i. c (skip p i) ⊗ r i)) ⊗ v p m ⊕ x)
          (sym (times-at F k (λ i. c (skip p i)) (cleared p r v) m
          ∙ sum_zeros F k _ (λ i below. ap (λ x. c (skip p i) ⊗ x) (zeros i below) ∙ mul-zero F (c (skip p i)))))
          ∙ sym (times_cleared k p r c v within m) ∙ ap (λ (x : Vector F). x m) vanishes)
          nonzero

      rest : (c : Vector F) → times F (suc k) c v ≡ zero_vector F → times F k (λ i. c (skip p i)) (cleared p r v) ≡ zero_vector F
      rest c vanishes = fun_ext λ j.
          sym (zero-add F _) ∙ ap (λ x. x ⊕ times F k (λ i. c (skip p i)) (cleared p r v) j)
          (sym (ap (λ x. x ⊗ v p j) (first c vanishes) ∙ zero-mul F (v p j)))
          ∙ sym (times_cleared k p r c v within j) ∙ ap (λ (x : Vector F). x j) vanishes

      others : (c : Vector F) → times F (suc k) c v ≡ zero_vector F → (i : ℕ) → i < k → c (skip p i) ≡ 𝟘
      others c vanishes = independent.only_zero (λ i. c (skip p i)) (rest c vanishes)

      at : (c : Vector F) → times F (suc k) c v ≡ zero_vector F → (t : ℕ) → t < suc k → Dec (t ≡ p) → c t ≡ 𝟘
      at c vanishes t below (yes e) =
          ap c e ∙ sym (F.add-zero (c p))
          ∙ ap (λ x. c p ⊕ x) (sym (sum_zeros F k (λ i. c (skip p i) ⊗ r i)
          (λ i inside. ap (λ x. x ⊗ r i) (others c vanishes i inside) ∙ zero-mul F (r i))))
          ∙ first c vanishes
      at c vanishes t below (no other) = skipped_one (skipped p k t within below other)
        where
          skipped_one : (j : ℕ) × (j < k) × (skip p j ≡ t) → c t ≡ 𝟘
          skipped_one (j, inside, e) = ap c (sym e) ∙ others c vanishes j inside

  eliminate_rows : (n k : ℕ) (v : Matrix F) → ((i : ℕ) → i < k → HasLength F n (v i)) → IsDependent F k v ⊎ (IsIndependent F k v × (k ≤ n))
  eliminate_rows zero zero v rows = inr (record { only_zero = λ c vanishes t below. absurd (omega arith) }, omega arith)
  eliminate_rows zero (suc k) v rows = inl (record {
    coefficients = unit_vector F 0;
    vanishes = times_zero_rows F (suc k) (unit_vector F 0) v (λ t below. fun_ext λ j. rows t below j (omega arith));
    place = 0;
    place-below = omega arith;
    nonzero = λ e. F.one-not-zero (sym (unit_at F 0) ∙ e);
  })
  eliminate_rows (suc n) k v rows = cases (eliminate_rows n) k rows (nonzero_or_all_zero k (λ t. v t n))
    where
      Answer : ℕ → ℕ → Matrix F → Type 0
      Answer n k v = IsDependent F k v ⊎ (IsIndependent F k v × (k ≤ n))

      longer : (k : ℕ) → Answer n k v → Answer (suc n) k v
      longer k (inl dependent) = inl dependent
      longer k (inr (independent, bound)) = inr (independent, omega arith)

      all_rows : (k p : ℕ) → p < suc k → ((i : ℕ) → i < suc k → HasLength F (suc n) (v i)) → v p n ≢ 𝟘 →
          Answer n k (cleared p (clearing n p v) v) → Answer (suc n) (suc k) v
      all_rows k p below rows nonzero (inl dependent) = inl (dependent_from_cleared k p (clearing n p v) v (omega arith) dependent)
      all_rows k p below rows nonzero (inr (independent, bound)) =
          inr (
            independent_from_cleared k p n (clearing n p v) v (omega arith) nonzero
                (λ i inside. cleared_at_pivot n p i v nonzero)
                independent,
            omega arith,
          )

      cases : ((k : ℕ) (v : Matrix F) → ((i : ℕ) → i < k → HasLength F n (v i)) → Answer n k v) → (k : ℕ) →
          ((i : ℕ) → i < k → HasLength F (suc n) (v i)) →
          ((p : ℕ) × (p < k) × (v p n ≢ 𝟘) × ((t : ℕ) → t < p → v t n ≡ 𝟘)) ⊎ ((t : ℕ) → t < k → v t n ≡ 𝟘) → Answer (suc n) k v
      cases shorter k rows (inr zeros) = longer k (shorter k v (λ i below j past. at i below j past (ℕ_discrete j n)))
        where
          at : (i : ℕ) → i < k → (j : ℕ) → n ≤ j → Dec (j ≡ n) → v i j ≡ 𝟘
          at i below j past (yes e) = ap (v i) e ∙ zeros i below
          at i below j past (no other) = rows i below j (omega arith)
      cases shorter zero rows (inl (p, below, nonzero, before)) = absurd (omega arith)
      cases shorter (suc k) rows (inl (p, below, nonzero, before)) =
          all_rows k p below rows nonzero (shorter k (cleared p (clearing n p v) v)
          (λ i inside. cleared_length n p i v (rows (skip p i) (skip-below p k i inside)) (rows p below) nonzero))

  -- k rows of length n are dependent, or independent and at most n
  pub eliminate : (n k : ℕ) (v : Matrix F) → HasRowsOfLength F n v → IsDependent F k v ⊎ (IsIndependent F k v × (k ≤ n))
  eliminate n k v rows = eliminate_rows n k v (λ i below. rows i)
