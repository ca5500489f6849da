-- Echelon forms: their pivots are those of the span, what is cleared at them, one more row, and rows that they come from.
use Rattle.std.specs.Prelude.{◌≡◌, ◌≢◌, ℕ, zero, suc, ◌<◌, ◌⊎◌}
use Rattle.axe_algebra.specs.Field.{Field}
use Rattle.axe_algebra.specs.Vectors.{Vector, Matrix, HasLength, zero_vector, add_vectors, scale, times}
use Rattle.axe_algebra.specs.Spans.{IsIndependent, InSpan, SpanWithin, SameSpan}
use Rattle.axe_algebra.specs.Reduced.{IsPivot, IsZeroAtPivots}
use Rattle.axe_algebra.proofs.FieldLaws.{zero-mul, mul-zero}
use Rattle.axe_algebra.proofs.Sums.{sum_one, sum_zeros}
use Rattle.axe_algebra.proofs.ProductLaws.{times-at, times_same, times-add_vectors, times-scale}
use Rattle.axe_algebra.proofs.Spanning.{span_row, span_same, span_add, span_scale, span_times}
use Rattle.axe_algebra.proofs.Exchange.{independent_rows_span}
use Rattle.axe_algebra.proofs.ReducedBases.{place_or_none}
use Rattle.axe_echelon.specs.Forms.{IsEchelonForm, IsCombined}
use mathlib.Core.Logic.{inl, inr}
use mathlib.Core.Path.{refl, sym, ◌∙◌, ap, ap₂, subst, fun_ext}
use native.Mathlib.Omega.{arith}
use native.Mathlib.Decide.{ℕ_discrete, dec_lt}

-- what holds below r and at r holds below r + 1
pub below_or_at : (P : ℕ → Type 0) (r : ℕ) → ((t : ℕ) → t < r → P t) → P r → (t : ℕ) → t < suc r → P t
below_or_at P r before at t below = cases (ℕ_discrete t r)
  where
    cases : Dec (t ≡ r) → P t
    cases (yes e) = subst P (sym e) at
    cases (no other) = before t (omega arith)

module _ (F : Field) where
  -- no rows
  pub form_of_none : (n : ℕ) (w : Matrix F) (p : ℕ → ℕ) → IsEchelonForm F n 0 w p
  form_of_none n w p = record {
    place = λ t below. absurd (omega arith);
    one = λ t below. absurd (omega arith);
    before = λ t i below ahead. absurd (omega arith);
    cleared = λ s t first below. absurd (omega arith);
  }

  module _ (n r : ℕ) (w : Matrix F) (p : ℕ → ℕ) (form : IsEchelonForm F n r w p) where
    -- where a combination of the rows is 0 at the pivots below b, the coefficients at these rows are 0
    coefficients_below : (x d : Vector F) → x ≡ times F r d w → (b : ℕ) → ((t : ℕ) → t < r → p t < b → x (p t) ≡ F.zero) →
        (k t : ℕ) → t < k → t < r → p t < b → d t ≡ F.zero
    coefficients_below x d same b zeros zero t earlier below small = absurd (omega arith)
    coefficients_below x d same b zeros (suc k) t earlier below small =
        sym (F.mul-one (d t)) ∙ ap (F.mul (d t)) (sym (form.one t below))
        ∙ sym (sum_one F r t (λ s. F.mul (d s) (w s (p t))) below (others (coefficients_below x d same b zeros k)))
        ∙ sym (times-at F r d w (p t)) ∙ sym (ap (λ (y : Vector F). y (p t)) same) ∙ zeros t below small
      where
        others : ((s : ℕ) → s < k → s < r → p s < b → d s ≡ F.zero) → (s : ℕ) → s < r → s ≢ t → F.mul (d s) (w s (p t)) ≡ F.zero
        others zero_before s inside other = cases (dec_lt s t) (dec_lt (p s) b)
          where
            cases : Dec (s < t) → Dec (p s < b) → F.mul (d s) (w s (p t)) ≡ F.zero
            cases (yes first) (yes under) =
                ap (λ e. F.mul e (w s (p t))) (zero_before s (omega arith) inside under) ∙ zero-mul F (w s (p t))
            cases (yes first) (no over) = ap (F.mul (d s)) (form.before s (p t) inside (omega arith)) ∙ mul-zero F (d s)
            cases (no later) _ = ap (F.mul (d s)) (form.cleared t s (omega arith) inside) ∙ mul-zero F (d s)

    -- the columns p t are the pivots of the span
    pub place_of_pivot : (j : ℕ) → IsPivot F r w j → (t : ℕ) × (t < r) × (p t ≡ j)
    place_of_pivot j pivot = cases (place_or_none r p j)
      where
        d : Vector F
        d = pivot.in_span.coefficients

        term : ((t : ℕ) → t < r → p t ≢ j) → (t : ℕ) → t < r → Dec (p t < j) → F.mul (d t) (w t j) ≡ F.zero
        term none t below (yes earlier) =
            ap (λ e. F.mul e (w t j)) (coefficients_below pivot.vector d pivot.in_span.combines j
            (λ s inside ahead. pivot.leads.before (p s) ahead) (suc t) t (omega arith) below earlier) ∙ zero-mul F (w t j)
        term none t below (no later) =
            ap (F.mul (d t)) (form.before t j below (omega (arith, none t below))) ∙ mul-zero F (d t)

        cases : ((t : ℕ) × (t < r) × (p t ≡ j)) ⊎ ((t : ℕ) → t < r → p t ≢ j) → (t : ℕ) × (t < r) × (p t ≡ j)
        cases (inl found) = found
        cases (inr none) = absurd (pivot.leads.nonzero
            (ap (λ (y : Vector F). y j) pivot.in_span.combines ∙ times-at F r d w j
            ∙ sum_zeros F r (λ t. F.mul (d t) (w t j)) (λ t below. term none t below (dec_lt (p t) j))))

    pub pivot_of_place : (t : ℕ) → t < r → IsPivot F r w (p t)
    pivot_of_place t below = record {
      vector = w t;
      in_span = span_row F r w t below;
      leads = record { nonzero = λ e. F.one-not-zero (sym (form.one t below) ∙ e); before = λ i ahead. form.before t i below ahead };
    }

    -- the rows are independent
    pub rows_independent : IsIndependent F r w
    rows_independent = record {
      only_zero = λ d vanishes t below.
          coefficients_below (zero_vector F) d (sym vanishes) n (λ s inside small. refl) (suc t) t (omega arith) below (form.place t below);
    }

    -- a vector that is 0 at the pivots before a column
    abbrev pub IsClearedBefore : ℕ → Vector F → Type 0
    IsClearedBefore column x = (s : ℕ) → s < r → p s < column → x (p s) ≡ F.zero

    -- one more pivot is cleared by the row that has 1 there and 0 before it
    pub cleared_more : (t : ℕ) (x y : Vector F) → t < r → IsClearedBefore (p t) x →
        y ≡ add_vectors F x (scale F (F.neg (x (p t))) (w t)) → IsClearedBefore (suc (p t)) y
    cleared_more t x y inside cleared same s below ahead = at (dec_lt (p s) (p t))
      where
        at : Dec (p s < p t) → y (p s) ≡ F.zero
        at (yes earlier) =
            ap (λ (z : Vector F). z (p s)) same
            ∙ ap₂ F.add (cleared s below earlier)
            (ap (F.mul (F.neg (x (p t)))) (form.before t (p s) inside earlier) ∙ mul-zero F (F.neg (x (p t))))
            ∙ F.add-zero F.zero
        at (no later) =
            ap y (let at_pivot : p s ≡ p t = omega (arith, ahead, later) in at_pivot)
            ∙ ap (λ (z : Vector F). z (p t)) same
            ∙ ap (F.add (x (p t))) (ap (F.mul (F.neg (x (p t)))) (form.one t inside) ∙ F.mul-one (F.neg (x (p t)))) ∙ F.add-neg (x (p t))

    pub cleared_all : (x : Vector F) → IsClearedBefore n x → IsZeroAtPivots F r w x
    cleared_all x cleared j pivot = at (place_of_pivot j pivot)
      where
        at : (t : ℕ) × (t < r) × (p t ≡ j) → x j ≡ F.zero
        at (t, below, e) = ap x (sym e) ∙ cleared t below (form.place t below)

    -- one more row
    pub form_more : (w' : Matrix F) (p' : ℕ → ℕ) → ((t : ℕ) → t < r → w' t ≡ w t) → ((t : ℕ) → t < r → p' t ≡ p t) → p' r < n →
        w' r (p' r) ≡ F.one → ((i : ℕ) → i < p' r → w' r i ≡ F.zero) → IsZeroAtPivots F r w (w' r) → IsEchelonForm F n (suc r) w' p'
    form_more w' p' same_w same_p inside one before at_pivots = record {
      place = below_or_at (λ t. p' t < n) r (λ t below. subst (λ k. k < n) (sym (same_p t below)) (form.place t below)) inside;
      one = below_or_at (λ t. w' t (p' t) ≡ F.one) r
          (λ t below. ap₂ (λ (x : Vector F) (k : ℕ). x k) (same_w t below) (same_p t below) ∙ form.one t below) one;
      before = λ t i below. below_or_at (λ t. i < p' t → w' t i ≡ F.zero) r
          (λ t below ahead. ap (λ (x : Vector F). x i) (same_w t below) ∙ form.before t i below (subst (λ k. i < k) (same_p t below) ahead))
          (before i) t below;
      cleared = λ s t first below. below_or_at (λ t. s < t → w' t (p' s) ≡ F.zero) r
          (λ t below first. ap₂ (λ (x : Vector F) (k : ℕ). x k) (same_w t below) (same_p s (omega arith)) ∙ form.cleared s t first below)
          (λ first. ap (w' r) (same_p s first) ∙ at_pivots (p s) (pivot_of_place s first)) t below first;
    }

  -- no rows that come from others
  pub combined_none : (v w m : Matrix F) (c : Vector F) → IsCombined F 0 v w m c
  combined_none v w m c = record { combines = λ t below. absurd (omega arith); few = λ t below. absurd (omega arith) }

  module _ (r : ℕ) (v w m : Matrix F) (c : Vector F) (combined : IsCombined F r v w m c) where
    -- independent rows that come from others span what these span
    within_before : (k t : ℕ) → t < k → t < r → InSpan F r v (w t)
    within_before zero t earlier below = absurd (omega arith)
    within_before (suc k) t earlier below =
        span_same F r v (w t) (scale F (c t) (add_vectors F (v t) (times F t (m t) w))) (combined.combines t below)
        (span_scale F r v (c t) (add_vectors F (v t) (times F t (m t) w))
        (span_add F r v (v t) (times F t (m t) w) (span_row F r v t below)
        (span_times F r v t (m t) w (λ s inside. within_before k s (omega (arith, inside, earlier)) (omega (arith, inside, below))))))

    pub combined_spans : IsIndependent F r w → SameSpan F r w r v
    combined_spans independent = record {
      forth = within;
      back = λ t below. independent_rows_span F r w v (v t) independent within (span_row F r v t below);
    }
      where
        within : SpanWithin F r w r v
        within t below = within_before (suc t) t (omega arith) below

    -- one more row, and one that it comes from
    pub combined_more : (v' w' m' : Matrix F) (c' : Vector F) → ((t : ℕ) → t < r → v' t ≡ v t) → ((t : ℕ) → t < r → w' t ≡ w t) →
        ((t : ℕ) → t < r → m' t ≡ m t) → ((t : ℕ) → t < r → c' t ≡ c t) → w' r ≡ scale F (c' r) (add_vectors F (v' r) (times F r (m' r) w)) →
        HasLength F r (m' r) → IsCombined F (suc r) v' w' m' c'
    combined_more v' w' m' c' same_v same_w same_m same_c combines few = record {
      combines = below_or_at (λ t. w' t ≡ scale F (c' t) (add_vectors F (v' t) (times F t (m' t) w'))) r
          (λ t below. same_w t below ∙ combined.combines t below
          ∙ ap₂ (λ (e : F.Element) (x : Vector F). scale F e x) (sym (same_c t below))
          (ap₂ (add_vectors F) (sym (same_v t below)) (earlier_rows t below)))
          (combines ∙ ap (λ (x : Vector F). scale F (c' r) (add_vectors F (v' r) x))
          (times_same F r (m' r) (m' r) w w' (λ s first. refl) (λ s first. sym (same_w s first))));
      few = below_or_at (λ t. HasLength F t (m' t)) r
          (λ t below j past. ap (λ (x : Vector F). x j) (same_m t below) ∙ combined.few t below j past) few;
    }
      where
        earlier_rows : (t : ℕ) → t < r → times F t (m t) w ≡ times F t (m' t) w'
        earlier_rows t below = times_same F t (m t) (m' t) w w' (λ s first. ap (λ (x : Vector F). x s) (sym (same_m t below)))
            (λ s first. sym (same_w s (omega (arith, first, below))))

  -- a vector plus a combination, with a multiple of another combination added
  pub offset_more : (r : ℕ) (v : Matrix F) (first x y u d e g : Vector F) (s : F.Element) → x ≡ add_vectors F first (times F r d v) →
      u ≡ times F r g v → y ≡ add_vectors F x (scale F s u) → e ≡ add_vectors F d (scale F s g) → y ≡ add_vectors F first (times F r e v)
  offset_more r v first x y u d e g s same_x same_u same_y same_e =
      same_y ∙ ap₂ (λ (a b : Vector F). add_vectors F a (scale F s b)) same_x same_u
      ∙ fun_ext (λ j. F.add_assoc (first j) (times F r d v j) (F.mul s (times F r g v j)))
      ∙ ap (add_vectors F first) (ap (add_vectors F (times F r d v)) (sym (times-scale F r s g v))
      ∙ sym (times-add_vectors F r d (scale F s g) v) ∙ ap (λ (a : Vector F). times F r a v) (sym same_e))
