-- Every span has a reduced basis, found from the first column on.
use Rattle.std.specs.Prelude.{◌≡◌, ◌≢◌, ℕ, zero, suc, ◌<◌, ◌≤◌, ◌+◌, ◌⊎◌}
use Rattle.axe_algebra.specs.Field.{Field}
use Rattle.axe_algebra.specs.Vectors.{Vector, Matrix, HasLength, HasRowsOfLength, zero_vector, add_vectors, subtract, scale, times}
use Rattle.axe_algebra.specs.Spans.{InSpan, SpanWithin, SameSpan}
use Rattle.axe_algebra.proofs.FieldLaws.{mul-zero, one-mul, inv-mul, neg-zero, neg-add, difference_of_same}
use Rattle.axe_algebra.proofs.Sums.{sum_one, sum_zeros}
use Rattle.axe_algebra.proofs.ProductLaws.{times-at}
use Rattle.axe_algebra.proofs.Skipping.{skip, skip-below, skipped}
use Rattle.axe_algebra.proofs.Spanning.{span_row, span_zero, span_same, span_add, span_subtract, span_scale, span_times, within_trans}
use Rattle.axe_algebra.proofs.Elimination.{nonzero_or_all_zero, cleared, cleared-at, clearing, cleared_at_pivot}
use mathlib.Core.Logic.{inl, inr}
use mathlib.Core.Path.{refl, sym, ◌∙◌, ap, ap₂, fun_ext}
use native.Mathlib.Omega.{arith}
use native.Mathlib.Decide.{ℕ_discrete, dec_lt}

-- x first, then f
pub prepend : {A : Type 0} → A → (ℕ → A) → ℕ → A
prepend x f zero = x
prepend x f (suc t) = f t

-- r rows in reduced row echelon form, with their pivots: ascending, 1 at the row's own pivot and 0 before it and at the others
pub record IsReducedList (F : Field) (r : ℕ) (w : Matrix F) (p : ℕ → ℕ) : Type 0 where
  pub ascending : (s t : ℕ) → s < t → t < r → p s < p t
  pub one : (t : ℕ) → t < r → w t (p t) ≡ F.one
  pub zero : (s t : ℕ) → s < r → t < r → s ≢ t → w t (p s) ≡ F.zero
  pub before : (t i : ℕ) → t < r → i < p t → w t i ≡ F.zero

module _ (F : Field) where
  open F use {Element, zero as 𝟘, one as 𝟙, add as ◌⊕◌, mul as ◌⊗◌, neg, inv}

  infixl 60 ◌⊕◌
  infixl 70 ◌⊗◌
  -- a combination has its coefficients at the pivots
  pub coefficient_at_pivot : (r : ℕ) (w : Matrix F) (p : ℕ → ℕ) (c : Vector F) (s : ℕ) → s < r →
      ((t : ℕ) → t < r → w t (p t) ≡ 𝟙) → ((s t : ℕ) → s < r → t < r → s ≢ t → w t (p s) ≡ 𝟘) → times F r c w (p s) ≡ c s
  coefficient_at_pivot r w p c s below one zeros =
      times-at F r c w (p s)
      ∙ sum_one F r s (λ t. c t ⊗ w t (p s)) below
      (λ t inside other. ap (λ x. c t ⊗ x) (zeros s t below inside (λ e. other (sym e))) ∙ mul-zero F (c t))
      ∙ ap (λ x. c s ⊗ x) (one s below) ∙ F.mul-one (c s)

  -- a combination of rows that are zero at j is zero there
  pub combination_zero_at : (r : ℕ) (w : Matrix F) (c : Vector F) (j : ℕ) → ((t : ℕ) → t < r → w t j ≡ 𝟘) → times F r c w j ≡ 𝟘
  combination_zero_at r w c j zeros =
      times-at F r c w j ∙ sum_zeros F r (λ t. c t ⊗ w t j) (λ t below. ap (λ x. c t ⊗ x) (zeros t below) ∙ mul-zero F (c t))

  -- rows that are zero before column j and from column j + m on, as the search for pivots meets them
  record IsWithin (j m k : ℕ) (u : Matrix F) : Type 0 where
    before : (t i : ℕ) → t < k → i < j → u t i ≡ 𝟘
    past : (t i : ℕ) → t < k → j + m ≤ i → u t i ≡ 𝟘

  -- a reduced list with pivots from j on and the span of the k rows of u
  record Reduction (n j k : ℕ) (u : Matrix F) : Type 0 where
    size : ℕ
    rows : Matrix F
    pivots : ℕ → ℕ
    lengths : HasRowsOfLength F n rows
    reduced : IsReducedList F size rows pivots
    same : SameSpan F k u size rows
    from : (t : ℕ) → t < size → j ≤ pivots t

  cleared_within : (j m k p : ℕ) (u : Matrix F) → p < suc k → u p j ≢ 𝟘 → IsWithin j (suc m) (suc k) u →
      IsWithin (suc j) m k (cleared F p (clearing F j p u) u)
  cleared_within j m k p u below nonzero within = record {
    before = λ t i inside ahead. at t i inside ahead (ℕ_discrete i j);
    past = λ t i inside beyond.
        entry t i ∙ ap₂ (λ x y. x ⊕ neg (clearing F j p u t ⊗ y)) (within.past (skip p t) i (skip-below p k t inside) (omega arith))
        (within.past p i below (omega arith))
        ∙ vanishes t;
  }
    where
      entry : (t i : ℕ) → cleared F p (clearing F j p u) u t i ≡ u (skip p t) i ⊕ neg (clearing F j p u t ⊗ u p i)
      entry t i = ap (λ (x : Vector F). x i) (cleared-at F p (clearing F j p u) u t)

      vanishes : (t : ℕ) → 𝟘 ⊕ neg (clearing F j p u t ⊗ 𝟘) ≡ 𝟘
      vanishes t = ap (λ x. 𝟘 ⊕ neg x) (mul-zero F (clearing F j p u t)) ∙ F.add-neg 𝟘

      at : (t i : ℕ) → t < k → i < suc j → Dec (i ≡ j) → cleared F p (clearing F j p u) u t i ≡ 𝟘
      at t i inside ahead (yes e) = ap (cleared F p (clearing F j p u) u t) e ∙ cleared_at_pivot F j p t u nonzero
      at t i inside ahead (no other) =
          entry t i ∙ ap₂ (λ x y. x ⊕ neg (clearing F j p u t ⊗ y)) (within.before (skip p t) i (skip-below p k t inside) (omega arith))
          (within.before p i below (omega arith))
          ∙ vanishes t

  -- the row that begins with 1 at column j, less what it has at the later pivots
  leading : (j p : ℕ) (u : Matrix F) (r : ℕ) (w : Matrix F) (q : ℕ → ℕ) → Vector F
  leading j p u r w q = subtract F (scale F (inv (u p j)) (u p)) (times F r (λ t. inv (u p j) ⊗ u p (q t)) w)

  leading_first : (j p : ℕ) (u : Matrix F) (r : ℕ) (w : Matrix F) (q : ℕ → ℕ) → u p j ≢ 𝟘 → IsReducedList F r w q →
      ((t : ℕ) → t < r → suc j ≤ q t) → leading j p u r w q j ≡ 𝟙
  unfolding leading
  leading_first j p u r w q nonzero reduced from =
      ap₂ (λ x y. x ⊕ neg y) (inv-mul F (u p j) nonzero)
      (combination_zero_at r w (λ t. inv (u p j) ⊗ u p (q t)) j (λ t below. reduced.before t j below (from t below)))
      ∙ ap (λ x. 𝟙 ⊕ x) (neg-zero F) ∙ F.add-zero 𝟙

  leading_at_pivots : (j p : ℕ) (u : Matrix F) (r : ℕ) (w : Matrix F) (q : ℕ → ℕ) → IsReducedList F r w q →
      (s : ℕ) → s < r → leading j p u r w q (q s) ≡ 𝟘
  unfolding leading
  leading_at_pivots j p u r w q reduced s below =
      difference_of_same F _ _ (sym (coefficient_at_pivot r w q (λ t. inv (u p j) ⊗ u p (q t)) s below reduced.one reduced.zero))

  leading_before : (j p : ℕ) (u : Matrix F) (r : ℕ) (w : Matrix F) (q : ℕ → ℕ) → ((i : ℕ) → i < j → u p i ≡ 𝟘) → IsReducedList F r w q →
      ((t : ℕ) → t < r → suc j ≤ q t) → (i : ℕ) → i < j → leading j p u r w q i ≡ 𝟘
  unfolding leading
  leading_before j p u r w q zeros reduced from i ahead =
      ap₂ (λ x y. inv (u p j) ⊗ x ⊕ neg y) (zeros i ahead)
      (combination_zero_at r w (λ t. inv (u p j) ⊗ u p (q t)) i (λ t below. reduced.before t i below (omega (arith, from t below))))
      ∙ ap₂ ◌⊕◌ (mul-zero F (inv (u p j))) (neg-zero F) ∙ F.add-zero 𝟘

  leading_length : (n j p : ℕ) (u : Matrix F) (r : ℕ) (w : Matrix F) (q : ℕ → ℕ) → HasLength F n (u p) → HasRowsOfLength F n w →
      HasLength F n (leading j p u r w q)
  unfolding leading
  leading_length n j p u r w q row rows i past =
      ap₂ (λ x y. inv (u p j) ⊗ x ⊕ neg y) (row i past)
      (combination_zero_at r w (λ t. inv (u p j) ⊗ u p (q t)) i (λ t below. rows t i past))
      ∙ ap₂ ◌⊕◌ (mul-zero F (inv (u p j))) (neg-zero F) ∙ F.add-zero 𝟘

  -- the leading row before a reduced list with later pivots
  prepend_reduced : (j : ℕ) (y : Vector F) (r : ℕ) (w : Matrix F) (q : ℕ → ℕ) → IsReducedList F r w q → ((t : ℕ) → t < r → suc j ≤ q t) →
      y j ≡ 𝟙 → ((s : ℕ) → s < r → y (q s) ≡ 𝟘) → ((i : ℕ) → i < j → y i ≡ 𝟘) → IsReducedList F (suc r) (prepend y w) (prepend j q)
  unfolding prepend
  prepend_reduced j y r w q reduced from first at_pivots ahead = record {
    ascending = ascending;
    one = one;
    zero = zeros;
    before = before;
  }
    where
      ascending : (s t : ℕ) → s < t → t < suc r → prepend j q s < prepend j q t
      ascending s zero smaller below = absurd (omega arith)
      ascending zero (suc t) smaller below = from t (omega arith)
      ascending (suc s) (suc t) smaller below = reduced.ascending s t (omega arith) (omega arith)

      one : (t : ℕ) → t < suc r → prepend y w t (prepend j q t) ≡ 𝟙
      one zero below = first
      one (suc t) below = reduced.one t (omega arith)

      zeros : (s t : ℕ) → s < suc r → t < suc r → s ≢ t → prepend y w t (prepend j q s) ≡ 𝟘
      zeros zero zero inside below other = absurd (other refl)
      zeros zero (suc t) inside below other = reduced.before t j (omega arith) (from t (omega arith))
      zeros (suc s) zero inside below other = at_pivots s (omega arith)
      zeros (suc s) (suc t) inside below other = reduced.zero s t (omega arith) (omega arith) (λ e. other (ap suc e))

      before : (t i : ℕ) → t < suc r → i < prepend j q t → prepend y w t i ≡ 𝟘
      before zero i below smaller = ahead i smaller
      before (suc t) i below smaller = reduced.before t i (omega arith) smaller

  -- the span of the leading row and the rest is the span of all rows
  prepend_spans : (j p k : ℕ) (u : Matrix F) (r : ℕ) (w : Matrix F) (q : ℕ → ℕ) → p < suc k → u p j ≢ 𝟘 →
      SameSpan F k (cleared F p (clearing F j p u) u) r w → SameSpan F (suc k) u (suc r) (prepend (leading j p u r w q) w)
  unfolding leading prepend
  prepend_spans j p k u r w q below nonzero same = record {
    forth = λ t inside. forth t inside (ℕ_discrete t p);
    back = back;
  }
    where
      y : Vector F
      y = leading j p u r w q

      rest : Vector F
      rest = times F r (λ t. inv (u p j) ⊗ u p (q t)) w

      rows : Matrix F
      rows = prepend y w

      -- the rows of w are among the rows, and in the span of u
      later_rows : SpanWithin F r w (suc r) rows
      later_rows t inside = span_row F (suc r) rows (suc t) (omega arith)

      cleared_in : SpanWithin F k (cleared F p (clearing F j p u) u) (suc k) u
      cleared_in i inside = span_same F (suc k) u _ _ (cleared-at F p (clearing F j p u) u i)
          (span_subtract F (suc k) u (u (skip p i)) (scale F (clearing F j p u i) (u p)) (span_row F (suc k) u (skip p i) (skip-below p k i inside))
          (span_scale F (suc k) u (clearing F j p u i) (u p) (span_row F (suc k) u p below)))

      w_in : SpanWithin F r w (suc k) u
      w_in = within_trans F r w k (cleared F p (clearing F j p u) u) (suc k) u same.back cleared_in

      back : (t : ℕ) → t < suc r → InSpan F (suc k) u (rows t)
      back zero inside =
          span_subtract F (suc k) u (scale F (inv (u p j)) (u p)) rest (span_scale F (suc k) u (inv (u p j)) (u p) (span_row F (suc k) u p below))
          (span_times F (suc k) u r (λ t. inv (u p j) ⊗ u p (q t)) w w_in)
      back (suc t) inside = w_in t (omega arith)

      -- row p is a multiple of the leading row and the rest
      row_p : u p ≡ scale F (u p j) (add_vectors F y rest)
      row_p = fun_ext λ i.
          sym (one-mul F (u p i)) ∙ ap (λ x. x ⊗ u p i) (sym (F.mul-inv (u p j) nonzero)) ∙ F.mul_assoc (u p j) (inv (u p j)) (u p i)
          ∙ ap (λ x. u p j ⊗ x) (sym (F.add-zero _) ∙ ap (λ x. inv (u p j) ⊗ u p i ⊕ x) (sym (neg-add F (rest i)))
          ∙ sym (F.add_assoc (inv (u p j) ⊗ u p i) (neg (rest i)) (rest i)))

      p_in : InSpan F (suc r) rows (u p)
      p_in = span_same F (suc r) rows (u p) _ row_p (span_scale F (suc r) rows (u p j) (add_vectors F y rest)
          (span_add F (suc r) rows y rest (span_row F (suc r) rows 0 (omega arith))
          (span_times F (suc r) rows r (λ t. inv (u p j) ⊗ u p (q t)) w later_rows)))

      others_in : (i : ℕ) → i < k → InSpan F (suc r) rows (u (skip p i))
      others_in i inside = span_same F (suc r) rows (u (skip p i)) _ sum_is
          (span_add F (suc r) rows (cleared F p (clearing F j p u) u i) (scale F (clearing F j p u i) (u p))
          (within_trans F k (cleared F p (clearing F j p u) u) r w (suc r) rows same.forth later_rows i inside)
          (span_scale F (suc r) rows (clearing F j p u i) (u p) p_in))
        where
          sum_is : u (skip p i) ≡ add_vectors F (cleared F p (clearing F j p u) u i) (scale F (clearing F j p u i) (u p))
          sum_is = fun_ext λ l. sym (
              ap (λ (x : Vector F). x l ⊕ clearing F j p u i ⊗ u p l) (cleared-at F p (clearing F j p u) u i)
              ∙ F.add_assoc (u (skip p i) l) (neg (clearing F j p u i ⊗ u p l)) (clearing F j p u i ⊗ u p l)
              ∙ ap (λ x. u (skip p i) l ⊕ x) (neg-add F (clearing F j p u i ⊗ u p l)) ∙ F.add-zero (u (skip p i) l))

      forth : (t : ℕ) → t < suc k → Dec (t ≡ p) → InSpan F (suc r) rows (u t)
      forth t inside (yes e) = span_same F (suc r) rows (u t) (u p) (ap u e) p_in
      forth t inside (no other) = from_skipped (skipped p k t (omega arith) inside other)
        where
          from_skipped : (i : ℕ) × (i < k) × (skip p i ≡ t) → InSpan F (suc r) rows (u t)
          from_skipped (i, small, e) = span_same F (suc r) rows (u t) (u (skip p i)) (ap u (sym e)) (others_in i small)

  -- with the search for pivots at column j and m columns to go
  reduce_from : (n m j k : ℕ) (u : Matrix F) → j + m ≡ n → IsWithin j m k u → Reduction n j k u
  unfolding prepend
  reduce_from n zero j k u total within = record {
    size = 0;
    rows = λ t i. 𝟘;
    pivots = λ t. j;
    lengths = λ t i past. refl;
    reduced = record {
      ascending = λ s t smaller below. absurd (omega arith);
      one = λ t below. absurd (omega arith);
      zero = λ s t inside below other. absurd (omega arith);
      before = λ t i below ahead. absurd (omega arith);
    };
    same = record {
      forth = λ t below. span_same F 0 _ (u t) (zero_vector F) (fun_ext λ i. entry t i below (dec_lt i j)) (span_zero F 0 _);
      back = λ t below. absurd (omega arith);
    };
    from = λ t below. absurd (omega arith);
  }
    where
      entry : (t i : ℕ) → t < k → Dec (i < j) → u t i ≡ 𝟘
      entry t i below (yes ahead) = within.before t i below ahead
      entry t i below (no past) = within.past t i below (omega arith)
  reduce_from n (suc m) j k u total within = cases (reduce_from n m (suc j)) k within (nonzero_or_all_zero F k (λ t. u t j))
    where
      cases : ((k : ℕ) (u : Matrix F) → suc j + m ≡ n → IsWithin (suc j) m k u → Reduction n (suc j) k u) → (k : ℕ) → IsWithin j (suc m) k u →
          ((p : ℕ) × (p < k) × (u p j ≢ 𝟘) × ((t : ℕ) → t < p → u t j ≡ 𝟘)) ⊎ ((t : ℕ) → t < k → u t j ≡ 𝟘) → Reduction n j k u
      cases shorter k within (inr zeros) = later (shorter k u (omega arith) (record {
        before = λ t i below ahead. at t i below ahead (ℕ_discrete i j);
        past = λ t i below beyond. within.past t i below (omega arith);
      }))
        where
          at : (t i : ℕ) → t < k → i < suc j → Dec (i ≡ j) → u t i ≡ 𝟘
          at t i below ahead (yes e) = ap (u t) e ∙ zeros t below
          at t i below ahead (no other) = within.before t i below (omega arith)

          later : Reduction n (suc j) k u → Reduction n j k u
          later found = record {
            size = found.size;
            rows = found.rows;
            pivots = found.pivots;
            lengths = found.lengths;
            reduced = found.reduced;
            same = found.same;
            from = λ t below. omega (arith, found.from t below);
          }
      cases shorter zero within (inl (p, below, nonzero, before)) = absurd (omega arith)
      cases shorter (suc k) within (inl (p, below, nonzero, before)) =
          with_pivot (shorter k (cleared F p (clearing F j p u) u) (omega arith) (cleared_within j m k p u below nonzero within))
        where
          with_pivot : Reduction n (suc j) k (cleared F p (clearing F j p u) u) → Reduction n j (suc k) u
          with_pivot found = record {
            size = suc found.size;
            rows = prepend y found.rows;
            pivots = prepend j found.pivots;
            lengths = lengths;
            reduced = prepend_reduced j y found.size found.rows found.pivots found.reduced found.from
                (leading_first j p u found.size found.rows found.pivots nonzero found.reduced found.from)
                (leading_at_pivots j p u found.size found.rows found.pivots found.reduced)
                (leading_before j p u found.size found.rows found.pivots (λ i ahead. within.before p i below ahead) found.reduced found.from);
            same = prepend_spans j p k u found.size found.rows found.pivots below nonzero found.same;
            from = from;
          }
            where
              y : Vector F
              y = leading j p u found.size found.rows found.pivots

              lengths : HasRowsOfLength F n (prepend y found.rows)
              lengths zero = leading_length n j p u found.size found.rows found.pivots (λ i past. within.past p i below (omega arith)) found.lengths
              lengths (suc t) = found.lengths t

              from : (t : ℕ) → t < suc found.size → j ≤ prepend j found.pivots t
              from zero below = omega arith
              from (suc t) below = omega (arith, found.from t (omega arith))

  -- every span has a reduced list of rows
  pub reduced_list : (n k : ℕ) (v : Matrix F) → HasRowsOfLength F n v →
      (r : ℕ) × (w : Matrix F) × (p : ℕ → ℕ) × HasRowsOfLength F n w × IsReducedList F r w p × SameSpan F k v r w
  reduced_list n k v rows =
      let found : Reduction n 0 k v = reduce_from n n 0 k v (omega arith) (record {
        before = λ t i below ahead. absurd (omega arith);
        past = λ t i below past. rows t i (omega arith);
      }) in
      (found.size, found.rows, found.pivots, found.lengths, found.reduced, found.same)
