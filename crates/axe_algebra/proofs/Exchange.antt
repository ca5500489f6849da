-- Bases, membership in a span, and exchange.
use Rattle.std.specs.Prelude.{◌≡◌, ℕ, zero, suc, ◌<◌, ◌≤◌, ◌⊎◌, cond, ltb}
use Rattle.axe_algebra.specs.Field.{Field}
use Rattle.axe_algebra.specs.Vectors.{Vector, Matrix, HasLength, HasRowsOfLength, zero_vector, add_vectors, scale, times, multiply}
use Rattle.axe_algebra.specs.Spans.{InSpan, IsIndependent, IsDependent, SpanWithin, SameSpan, SpansAll}
use Rattle.axe_algebra.specs.Theorems.{Basis, BasisExists}
use Rattle.axe_algebra.proofs.FieldLaws.{zero-mul, one-mul, mul-neg, neg-mul, inv-mul, neg_is, neg_nonzero}
use Rattle.axe_algebra.proofs.ProductLaws.{times_same, times_more, times_times, times_zero, times-scale}
use Rattle.axe_algebra.proofs.Skipping.{skip_before, put_in, put_in_at, put_in_skip, put_in_all}
use Rattle.axe_algebra.proofs.Spanning.{span_row, span_same, span_within, within_trans, coefficient_rows, coefficient_rows_combine}
use Rattle.axe_algebra.proofs.Elimination.{eliminate}
use Rattle.std.proofs.lemmas.Bool.{lt-ltb, le-ltb}
use mathlib.Core.Logic.{inl, inr}
use mathlib.Core.Path.{refl, sym, ◌∙◌, ap, ap₂, fun_ext}
use native.Mathlib.Omega.{arith}
use native.Mathlib.Decide.{ℕ_discrete}

module _ (F : Field) where
  open F use {Element, zero as 𝟘, one as 𝟙, add as ◌⊕◌, mul as ◌⊗◌, neg, inv}

  infixl 60 ◌⊕◌
  infixl 70 ◌⊗◌
  -- the first m entries of a vector
  pub cut : ℕ → Vector F → Vector F
  cut m c j = cond (ltb j m) (c j) 𝟘

  pub cut_below : (m : ℕ) (c : Vector F) (j : ℕ) → j < m → cut m c j ≡ c j
  unfolding cut
  cut_below m c j below = ap (λ b. cond b (c j) 𝟘) (lt-ltb j m below)

  pub cut_length : (m : ℕ) (c : Vector F) → HasLength F m (cut m c)
  unfolding cut
  cut_length m c j past = ap (λ b. cond b (c j) 𝟘) (le-ltb j m past)

  pub times_cut : (m : ℕ) (c : Vector F) (a : Matrix F) → times F m (cut m c) a ≡ times F m c a
  times_cut m c a = times_same F m (cut m c) c a a (cut_below m c) (λ t below. refl)

  -- the first k rows of v, and x after them
  pub with_row : ℕ → Matrix F → Vector F → Matrix F
  with_row k v x = put_in k x v

  pub with_row_at : (k : ℕ) (v : Matrix F) (x : Vector F) → with_row k v x k ≡ x
  unfolding with_row
  with_row_at k v x = put_in_at k x v

  pub with_row_before : (k : ℕ) (v : Matrix F) (x : Vector F) (t : ℕ) → t < k → with_row k v x t ≡ v t
  unfolding with_row
  with_row_before k v x t below = ap (put_in k x v) (sym (skip_before k t below)) ∙ put_in_skip k x v t

  pub with_row_length : (n k : ℕ) (v : Matrix F) (x : Vector F) → HasRowsOfLength F n v → HasLength F n x → HasRowsOfLength F n (with_row k v x)
  unfolding with_row
  with_row_length n k v x rows length = put_in_all (HasLength F n) k x v length rows

  pub times_with_row : (k : ℕ) (c : Vector F) (v : Matrix F) (x : Vector F) →
      times F (suc k) c (with_row k v x) ≡ add_vectors F (times F k c v) (scale F (c k) x)
  times_with_row k c v x =
      times_more F k c (with_row k v x)
      ∙ ap₂ (add_vectors F) (times_same F k c c (with_row k v x) v (λ t below. refl) (with_row_before k v x)) (ap (scale F (c k)) (with_row_at k v x))

  -- a vector is in the span of independent rows, or independent of them
  pub spanned_or_independent : (n k : ℕ) (v : Matrix F) (x : Vector F) → HasRowsOfLength F n v → HasLength F n x → IsIndependent F k v →
      InSpan F k v x ⊎ IsIndependent F (suc k) (with_row k v x)
  spanned_or_independent n k v x rows length independent = cases (eliminate F n (suc k) (with_row k v x) (with_row_length n k v x rows length))
    where
      solved : (d : IsDependent F (suc k) (with_row k v x)) → Dec (d.coefficients k ≡ 𝟘) → InSpan F k v x
      solved d (yes last_zero) = absurd (d.nonzero (all_zero d.place d.place-below (ℕ_discrete d.place k)))
        where
          others : (t : ℕ) → t < k → d.coefficients t ≡ 𝟘
          others = independent.only_zero d.coefficients (fun_ext λ j.
              sym (F.add-zero (times F k d.coefficients v j))
              ∙ ap (λ y. times F k d.coefficients v j ⊕ y) (sym (ap (λ y. y ⊗ x j) last_zero ∙ zero-mul F (x j)))
              ∙ ap (λ (y : Vector F). y j) (sym (times_with_row k d.coefficients v x) ∙ d.vanishes))

          all_zero : (t : ℕ) → t < suc k → Dec (t ≡ k) → d.coefficients t ≡ 𝟘
          all_zero t below (yes e) = ap d.coefficients e ∙ last_zero
          all_zero t below (no other) = others t (omega arith)
      solved d (no nonzero) = record {
        coefficients = scale F (neg (inv (d.coefficients k))) d.coefficients;
        combines = fun_ext λ j. entry j ∙ ap (λ (y : Vector F). y j) (sym (times-scale F k (neg (inv (d.coefficients k))) d.coefficients v));
      }
        where
          a : Element
          a = d.coefficients k

          -- a x_j is the negative of the combination of the rows
          moved : (j : ℕ) → a ⊗ x j ≡ neg (times F k d.coefficients v j)
          moved j = neg_is F (times F k d.coefficients v j) (a ⊗ x j)
              (ap (λ (y : Vector F). y j) (sym (times_with_row k d.coefficients v x) ∙ d.vanishes))

          entry : (j : ℕ) → x j ≡ neg (inv a) ⊗ times F k d.coefficients v j
          entry j =
              sym (one-mul F (x j)) ∙ ap (λ y. y ⊗ x j) (sym (inv-mul F a nonzero)) ∙ F.mul_assoc (inv a) a (x j)
              ∙ ap (λ y. inv a ⊗ y) (moved j) ∙ mul-neg F (inv a) (times F k d.coefficients v j)
              ∙ sym (neg-mul F (inv a) (times F k d.coefficients v j))

      cases : IsDependent F (suc k) (with_row k v x) ⊎ (IsIndependent F (suc k) (with_row k v x) × (suc k ≤ n)) →
          InSpan F k v x ⊎ IsIndependent F (suc k) (with_row k v x)
      cases (inl d) = inl (solved d (F.is_discrete (d.coefficients k) 𝟘))
      cases (inr (more, bound)) = inr more

  pub independent_not_spanned : (k : ℕ) (v : Matrix F) (x : Vector F) → IsIndependent F (suc k) (with_row k v x) → ¬ (InSpan F k v x)
  independent_not_spanned k v x independent in_span =
      neg_nonzero F 𝟙 F.one-not-zero (sym (with_row_last k in_span.coefficients) ∙ independent.only_zero c vanishes k (omega arith))
    where
      c : Vector F
      c = put_in k (neg 𝟙) in_span.coefficients

      with_row_last : (k : ℕ) (d : Vector F) → put_in k (neg 𝟙) d k ≡ neg 𝟙
      with_row_last k d = put_in_at k (neg 𝟙) d

      vanishes : times F (suc k) c (with_row k v x) ≡ zero_vector F
      vanishes = times_with_row k c v x ∙ fun_ext λ j.
          ap₂ ◌⊕◌
          (ap (λ (y : Vector F). y j) (times_same F k c in_span.coefficients v v
          (λ t below. ap c (sym (skip_before k t below)) ∙ put_in_skip k (neg 𝟙) in_span.coefficients t) (λ t below. refl)
          ∙ sym in_span.combines))
          (ap (λ y. y ⊗ x j) (put_in_at k (neg 𝟙) in_span.coefficients) ∙ neg-mul F 𝟙 (x j) ∙ ap neg (one-mul F (x j)))
          ∙ F.add-neg (x j)

  -- n independent rows of length n span everything
  pub square_rows_span : (n : ℕ) (v : Matrix F) → HasRowsOfLength F n v → IsIndependent F n v → SpansAll F n n v
  square_rows_span n v rows independent x length = cases (spanned_or_independent n n v x rows length independent)
    where
      too_many : IsIndependent F (suc n) (with_row n v x) →
          IsDependent F (suc n) (with_row n v x) ⊎ (IsIndependent F (suc n) (with_row n v x) × (suc n ≤ n)) → InSpan F n v x
      too_many more (inl d) = absurd (d.nonzero (more.only_zero d.coefficients d.vanishes d.place d.place-below))
      too_many more (inr (same, bound)) = absurd (omega arith)

      cases : InSpan F n v x ⊎ IsIndependent F (suc n) (with_row n v x) → InSpan F n v x
      cases (inl in_span) = in_span
      cases (inr more) = too_many more (eliminate F n (suc n) (with_row n v x) (with_row_length n n v x rows length))

  -- the rows of the first m coefficients of k rows of v over m rows of w
  coordinates_of : (k : ℕ) (v : Matrix F) (m : ℕ) (w : Matrix F) → SpanWithin F k v m w → Matrix F
  coordinates_of k v m w within t = cut m (coefficient_rows F k v m w within t)

  coordinates_length : (k : ℕ) (v : Matrix F) (m : ℕ) (w : Matrix F) (within : SpanWithin F k v m w) →
      HasRowsOfLength F m (coordinates_of k v m w within)
  unfolding coordinates_of
  coordinates_length k v m w within t = cut_length m (coefficient_rows F k v m w within t)

  coordinates_combine : (k : ℕ) (v : Matrix F) (m : ℕ) (w : Matrix F) (within : SpanWithin F k v m w) (d : Vector F) →
      times F k d v ≡ times F m (times F k d (coordinates_of k v m w within)) w
  unfolding coordinates_of
  coordinates_combine k v m w within d =
      times_same F k d d v (multiply F m (coordinates_of k v m w within) w) (λ t below. refl)
      (λ t below. coefficient_rows_combine F k v m w within t below ∙ sym (times_cut m (coefficient_rows F k v m w within t) w))
      ∙ sym (times_times F m k d (coordinates_of k v m w within) w)

  coordinates_independent : (k : ℕ) (v : Matrix F) (m : ℕ) (w : Matrix F) (within : SpanWithin F k v m w) →
      IsIndependent F k v → IsIndependent F k (coordinates_of k v m w within)
  coordinates_independent k v m w within independent = record {
    only_zero = λ d vanishes. independent.only_zero d
        (coordinates_combine k v m w within d ∙ ap (λ c. times F m c w) vanishes ∙ times_zero F m w);
  }

  -- k independent rows in the span of m rows: k is at most m
  pub exchange : (k : ℕ) (v : Matrix F) (m : ℕ) (w : Matrix F) → IsIndependent F k v → SpanWithin F k v m w → k ≤ m
  exchange k v m w independent within =
      cases (eliminate F m k (coordinates_of k v m w within) (coordinates_length k v m w within))
    where
      cases : IsDependent F k (coordinates_of k v m w within) ⊎ (IsIndependent F k (coordinates_of k v m w within) × (k ≤ m)) → k ≤ m
      cases (inl d) =
          absurd (d.nonzero ((coordinates_independent k v m w within independent).only_zero d.coefficients d.vanishes d.place d.place-below))
      cases (inr (same, bound)) = bound

  -- k independent rows in the span of k rows span it
  pub independent_rows_span : (k : ℕ) (v w : Matrix F) (x : Vector F) → IsIndependent F k v → SpanWithin F k v k w →
      InSpan F k w x → InSpan F k v x
  independent_rows_span k v w x independent within in_span = record {
    coefficients = e.coefficients;
    combines =
        in_span.combines ∙ sym (times_cut k in_span.coefficients w) ∙ ap (λ c. times F k c w) e.combines
        ∙ sym (coordinates_combine k v k w within e.coefficients);
  }
    where
      e : InSpan F k (coordinates_of k v k w within) (cut k in_span.coefficients)
      e = square_rows_span k (coordinates_of k v k w within) (coordinates_length k v k w within)
          (coordinates_independent k v k w within independent) (cut k in_span.coefficients) (cut_length k in_span.coefficients)

  pub span_longer : (k m : ℕ) (v : Matrix F) (x : Vector F) → k ≤ m → InSpan F k v x → InSpan F m v x
  span_longer k m v x more = span_within F k v m v x (λ t below. span_row F m v t (omega arith))

  -- rows that agree span the same
  pub span_of_same_rows : (k : ℕ) (v w : Matrix F) (x : Vector F) → ((t : ℕ) → t < k → v t ≡ w t) → InSpan F k v x → InSpan F k w x
  span_of_same_rows k v w x same = span_within F k v k w x (λ t below. span_same F k w (v t) (w t) (same t below) (span_row F k w t below))

  -- the span of k rows is the span of at most k independent ones
  pub basis_of : (n k : ℕ) (v : Matrix F) → HasRowsOfLength F n v →
      (r : ℕ) × (w : Matrix F) × HasRowsOfLength F n w × IsIndependent F r w × SameSpan F k v r w × (r ≤ k)
  basis_of n zero v rows = (
    0,
    v,
    rows,
    record { only_zero = λ c vanishes t below. absurd (omega arith) },
    record { forth = λ t below. absurd (omega arith); back = λ t below. absurd (omega arith) },
    omega arith,
  )
  basis_of n (suc k) v rows = extend (basis_of n k v rows)
    where
      Basis : ℕ → Type 0
      Basis k = (r : ℕ) × (w : Matrix F) × HasRowsOfLength F n w × IsIndependent F r w × SameSpan F k v r w × (r ≤ k)

      rows_within : (m : ℕ) (u : Matrix F) → SpanWithin F k v m u → InSpan F m u (v k) → (t : ℕ) → t < suc k → Dec (t ≡ k) → InSpan F m u (v t)
      rows_within m u within last t below (yes e) = span_same F m u (v t) (v k) (ap v e) last
      rows_within m u within last t below (no other) = within t (omega arith)

      extend : Basis k → Basis (suc k)
      extend (r, w, lengths, independent, same, bound) = cases (spanned_or_independent n r w (v k) lengths (rows k) independent)
        where
          cases : InSpan F r w (v k) ⊎ IsIndependent F (suc r) (with_row r w (v k)) → Basis (suc k)
          cases (inl in_span) = (
            r,
            w,
            lengths,
            independent,
            record {
              forth = λ t below. rows_within r w same.forth in_span t below (ℕ_discrete t k);
              back = λ t below. span_longer k (suc k) v (w t) (omega arith) (same.back t below);
            },
            omega arith,
          )
          cases (inr more) = (
            suc r,
            with_row r w (v k),
            with_row_length n r w (v k) lengths (rows k),
            more,
            record {
              forth = λ t below. rows_within (suc r) (with_row r w (v k)) forth last t below (ℕ_discrete t k);
              back = λ t below. back t below (ℕ_discrete t r);
            },
            omega arith,
          )
            where
              old_rows : SpanWithin F r w (suc r) (with_row r w (v k))
              old_rows t below = span_same F (suc r) (with_row r w (v k)) (w t) (with_row r w (v k) t) (sym (with_row_before r w (v k) t below))
                  (span_row F (suc r) (with_row r w (v k)) t (omega arith))

              forth : SpanWithin F k v (suc r) (with_row r w (v k))
              forth = within_trans F k v r w (suc r) (with_row r w (v k)) same.forth old_rows

              last : InSpan F (suc r) (with_row r w (v k)) (v k)
              last = span_same F (suc r) (with_row r w (v k)) (v k) (with_row r w (v k) r) (sym (with_row_at r w (v k)))
                  (span_row F (suc r) (with_row r w (v k)) r (omega arith))

              back : (t : ℕ) → t < suc r → Dec (t ≡ r) → InSpan F (suc k) v (with_row r w (v k) t)
              back t below (yes e) =
                  span_same F (suc k) v (with_row r w (v k) t) (v k) (ap (with_row r w (v k)) e ∙ with_row_at r w (v k))
                  (span_row F (suc k) v k (omega arith))
              back t below (no other) =
                  span_same F (suc k) v (with_row r w (v k) t) (w t) (with_row_before r w (v k) t (omega arith))
                  (span_longer k (suc k) v (w t) (omega arith) (same.back t (omega arith)))

  -- membership in a span is decidable
  pub in_span_or_not : (n k : ℕ) (v : Matrix F) (x : Vector F) → HasRowsOfLength F n v → HasLength F n x → Dec (InSpan F k v x)
  in_span_or_not n k v x rows length = by_basis (basis_of n k v rows)
    where
      by_basis : (r : ℕ) × (w : Matrix F) × HasRowsOfLength F n w × IsIndependent F r w × SameSpan F k v r w × (r ≤ k) → Dec (InSpan F k v x)
      by_basis (r, w, lengths, independent, same, bound) = cases (spanned_or_independent n r w x lengths length independent)
        where
          cases : InSpan F r w x ⊎ IsIndependent F (suc r) (with_row r w x) → Dec (InSpan F k v x)
          cases (inl in_span) = yes (span_within F r w k v x same.back in_span)
          cases (inr more) = no λ in_span. independent_not_spanned r w x more (span_within F k v r w x same.forth in_span)

  pub basis_exists : BasisExists F
  basis_exists n k v rows = from (basis_of n k v rows)
    where
      from : (r : ℕ) × (w : Matrix F) × HasRowsOfLength F n w × IsIndependent F r w × SameSpan F k v r w × (r ≤ k) → Basis F n k v
      from (r, w, lengths, independent, spans, bound) =
          record { size = r; rows = w; lengths = lengths; independent = independent; spans = spans; bound = bound }
