-- Spans of lists: coefficients as lists, membership, one more row, and bounds.
use Rattle.std.specs.Prelude.{◌≡◌, ℕ, suc, ◌<◌, ◌≤◌, ◌+◌, List, [], ◌∷◌, ◌++◌, length, get_or, ◌⊎◌}
use Rattle.axe_algebra.specs.NumberField.{NumberField}
use Rattle.axe_algebra.specs.Field.{Field}
use Rattle.axe_algebra.specs.Vectors.{Vector, times}
use Rattle.axe_algebra.specs.Spans
use Rattle.axe_algebra.specs.Bridge.{field_of, vector_of, matrix_of}
use Rattle.axe_algebra.specs.Lists.{entries_of, IsVectorOver, IsMatrixOver}
use Rattle.axe_algebra.specs.ListArithmetic.{combination}
use Rattle.axe_algebra.specs.SpansOfLists.{IsSpanned, IsIndependent, HaveSameSpan, SpansEverything}
use Rattle.axe_algebra.specs.ListTheorems.{IsCombination, SpannedIsCombination}
use Rattle.axe_algebra.proofs.ProductLaws.{times_same}
use Rattle.axe_algebra.proofs.Spanning.{span_row, span_same}
use Rattle.axe_algebra.proofs.Elimination.{eliminate}
use Rattle.axe_algebra.proofs.Exchange.{cut, cut_length, times_cut, with_row, with_row_at, with_row_before, spanned_or_independent, in_span_or_not, span_longer, span_of_same_rows, square_rows_span}
use Rattle.axe_algebra.proofs.ListEntries.{vector_length, rows_length, vector_of_entries, entries_over, same_vector}
use Rattle.axe_algebra.proofs.ListProducts.{vector_of_combination, combination_over}
use Rattle.std.proofs.lemmas.List.{length-append, get_or_append_left, get_or-append-add}
use mathlib.Core.Logic.{inl, inr}
use mathlib.Core.Path.{refl, sym, ◌∙◌, ap, subst}
use native.Mathlib.Omega.{arith}
use native.Mathlib.Decide.{ℕ_discrete}

module _ (K : NumberField) where
  abbrev F : Field
  F = field_of K

  -- a vector of the span is the combination with a list of coefficients, and the other way round
  pub coefficients_of_spanned : (n : ℕ) (rows : List (List ℕ)) (v : List ℕ) → IsMatrixOver K n rows → IsVectorOver K n v → IsSpanned K rows v →
      (c : List ℕ) × IsVectorOver K (length rows) c × (v ≡ combination K n c rows)
  coefficients_of_spanned n rows v over over_v spanned = (
    entries_of K (length rows) c,
    over_c,
    same_vector K n v (combination K n (entries_of K (length rows) c) rows) over_v
        (combination_over K n (entries_of K (length rows) c) rows over_c over)
        (spanned.combines ∙ sym (times_cut F (length rows) spanned.coefficients (matrix_of K rows))
        ∙ ap (λ (x : Vector F). times F (length rows) x (matrix_of K rows))
        (sym (vector_of_entries K (length rows) c (cut_length F (length rows) spanned.coefficients)))
        ∙ sym (vector_of_combination K n (entries_of K (length rows) c) rows over_c over)),
  )
    where
      c : Vector F
      c = cut F (length rows) spanned.coefficients

      over_c : IsVectorOver K (length rows) (entries_of K (length rows) c)
      over_c = entries_over K (length rows) c

  pub spanned_by_coefficients : (n : ℕ) (rows : List (List ℕ)) (v c : List ℕ) → IsMatrixOver K n rows → IsVectorOver K (length rows) c →
      v ≡ combination K n c rows → IsSpanned K rows v
  spanned_by_coefficients n rows v c over over_c same = record {
    coefficients = vector_of K c;
    combines = ap (vector_of K) same ∙ vector_of_combination K n c rows over_c over;
  }

  -- whether a vector is spanned is decidable
  pub spanned_or_not : (n : ℕ) (rows : List (List ℕ)) (v : List ℕ) → IsMatrixOver K n rows → length v ≡ n → Dec (IsSpanned K rows v)
  spanned_or_not n rows v over same =
      in_span_or_not F n (length rows) (matrix_of K rows) (vector_of K v) (rows_length K n rows over) (vector_length K n v same)

  -- a row of the list is spanned
  pub row_spanned : (rows : List (List ℕ)) (i : ℕ) → i < length rows → IsSpanned K rows (get_or rows i [])
  row_spanned rows i below = span_row F (length rows) (matrix_of K rows) i below

  -- one more row
  pub appended_length : (rows : List (List ℕ)) (row : List ℕ) → length (rows ++ row ∷ []) ≡ suc (length rows)
  appended_length rows row = omega (arith, length-append rows (row ∷ []))

  pub appended_before : (rows : List (List ℕ)) (row : List ℕ) (t : ℕ) → t < length rows → matrix_of K (rows ++ row ∷ []) t ≡ matrix_of K rows t
  appended_before rows row t below = ap (vector_of K) (get_or_append_left rows (row ∷ []) [] t below)

  pub appended_last : (rows : List (List ℕ)) (row : List ℕ) → matrix_of K (rows ++ row ∷ []) (length rows) ≡ vector_of K row
  appended_last rows row =
      ap (vector_of K) (ap (λ (k : ℕ). get_or (rows ++ row ∷ []) k []) (let e : length rows ≡ length rows + 0 = omega arith in e)
      ∙ get_or-append-add rows (row ∷ []) 0 [])

  appended_is_with_row : (rows : List (List ℕ)) (row : List ℕ) (t : ℕ) → t < suc (length rows) →
      matrix_of K (rows ++ row ∷ []) t ≡ with_row F (length rows) (matrix_of K rows) (vector_of K row) t
  appended_is_with_row rows row t below = cases (ℕ_discrete t (length rows))
    where
      cases : Dec (t ≡ length rows) → matrix_of K (rows ++ row ∷ []) t ≡ with_row F (length rows) (matrix_of K rows) (vector_of K row) t
      cases (yes e) =
          ap (matrix_of K (rows ++ row ∷ [])) e ∙ appended_last rows row
          ∙ sym (ap (with_row F (length rows) (matrix_of K rows) (vector_of K row)) e
          ∙ with_row_at F (length rows) (matrix_of K rows) (vector_of K row))
      cases (no other) =
          appended_before rows row t (omega arith) ∙ sym (with_row_before F (length rows) (matrix_of K rows) (vector_of K row) t (omega arith))

  -- what is spanned stays spanned, and the new row is spanned
  pub appended_spans : (rows : List (List ℕ)) (row v : List ℕ) → IsSpanned K rows v → IsSpanned K (rows ++ row ∷ []) v
  appended_spans rows row v spanned =
      span_longer F (length rows) (length (rows ++ row ∷ [])) (matrix_of K (rows ++ row ∷ [])) (vector_of K v) (omega (arith, appended_length rows row))
      (span_of_same_rows F (length rows) (matrix_of K rows) (matrix_of K (rows ++ row ∷ [])) (vector_of K v)
      (λ t below. sym (appended_before rows row t below)) spanned)

  pub appended_row_spanned : (rows : List (List ℕ)) (row : List ℕ) → IsSpanned K (rows ++ row ∷ []) row
  appended_row_spanned rows row =
      span_same F (length (rows ++ row ∷ [])) (matrix_of K (rows ++ row ∷ [])) (vector_of K row) (matrix_of K (rows ++ row ∷ []) (length rows))
      (sym (appended_last rows row))
      (span_row F (length (rows ++ row ∷ [])) (matrix_of K (rows ++ row ∷ [])) (length rows) (omega (arith, appended_length rows row)))

  -- with a row of their span the rows span the same
  pub appended_same_span : (rows : List (List ℕ)) (row : List ℕ) → IsSpanned K rows row → HaveSameSpan K rows (rows ++ row ∷ [])
  appended_same_span rows row spanned = record {
    forth = λ t below. appended_spans rows row (get_or rows t []) (row_spanned rows t below);
    back = λ t below. back t (omega (arith, appended_length rows row)) (ℕ_discrete t (length rows));
  }
    where
      back : (t : ℕ) → t < suc (length rows) → Dec (t ≡ length rows) → Spans.InSpan F (length rows) (matrix_of K rows) (matrix_of K (rows ++ row ∷ []) t)
      back t below (yes e) =
          span_same F (length rows) (matrix_of K rows) (matrix_of K (rows ++ row ∷ []) t) (vector_of K row)
          (ap (matrix_of K (rows ++ row ∷ [])) e ∙ appended_last rows row) spanned
      back t below (no other) =
          span_same F (length rows) (matrix_of K rows) (matrix_of K (rows ++ row ∷ []) t) (matrix_of K rows t)
          (appended_before rows row t (omega arith)) (span_row F (length rows) (matrix_of K rows) t (omega arith))

  -- with a row outside their span independent rows stay independent
  pub appended_independent : (n : ℕ) (rows : List (List ℕ)) (row : List ℕ) → IsMatrixOver K n rows → length row ≡ n → IsIndependent K rows →
      ¬ (IsSpanned K rows row) → IsIndependent K (rows ++ row ∷ [])
  appended_independent n rows row over same independent outside =
      cases (spanned_or_independent F n (length rows) (matrix_of K rows) (vector_of K row) (rows_length K n rows over) (vector_length K n row same) independent)
    where
      cases : Spans.InSpan F (length rows) (matrix_of K rows) (vector_of K row) ⊎
          Spans.IsIndependent F (suc (length rows)) (with_row F (length rows) (matrix_of K rows) (vector_of K row)) →
          IsIndependent K (rows ++ row ∷ [])
      cases (inl spanned) = absurd (outside spanned)
      cases (inr more) = record {
        only_zero = λ c vanishes t below. more.only_zero c
            (sym (times_same F (suc (length rows)) c c (matrix_of K (rows ++ row ∷ [])) (with_row F (length rows) (matrix_of K rows) (vector_of K row))
            (λ s inside. refl) (appended_is_with_row rows row))
            ∙ ap (λ (k : ℕ). times F k c (matrix_of K (rows ++ row ∷ []))) (sym (appended_length rows row)) ∙ vanishes)
            t (omega (arith, appended_length rows row));
      }

  -- independent rows of length n are at most n, and n of them span everything
  pub independent_rows_are_few : (n : ℕ) (rows : List (List ℕ)) → IsMatrixOver K n rows → IsIndependent K rows → length rows ≤ n
  independent_rows_are_few n rows over independent = cases (eliminate F n (length rows) (matrix_of K rows) (rows_length K n rows over))
    where
      cases : Spans.IsDependent F (length rows) (matrix_of K rows) ⊎
          (Spans.IsIndependent F (length rows) (matrix_of K rows) × (length rows ≤ n)) → length rows ≤ n
      cases (inl d) = absurd (d.nonzero (independent.only_zero d.coefficients d.vanishes d.place d.place-below))
      cases (inr (same, bound)) = bound

  pub enough_rows_span : (n : ℕ) (rows : List (List ℕ)) → IsMatrixOver K n rows → IsIndependent K rows → length rows ≡ n → SpansEverything K n rows
  enough_rows_span n rows over independent same =
      subst (λ k. Spans.IsIndependent F k (matrix_of K rows) → Spans.SpansAll F n k (matrix_of K rows)) (sym same)
      (square_rows_span F n (matrix_of K rows) (rows_length K n rows over)) independent

  -- no rows are independent
  pub no_rows_independent : IsIndependent K []
  no_rows_independent = record { only_zero = λ c vanishes t below. absurd (omega arith) }

  pub spanned_exactly : SpannedIsCombination K
  spanned_exactly n rows v over over_v = (forth, λ found. spanned_by_coefficients n rows v found.coefficients over found.over found.combines)
    where
      listed_coefficients : (c : List ℕ) × IsVectorOver K (length rows) c × (v ≡ combination K n c rows) → IsCombination K n rows v
      listed_coefficients (c, over_c, same) = record { coefficients = c; over = over_c; combines = same }

      forth : IsSpanned K rows v → IsCombination K n rows v
      forth spanned = listed_coefficients (coefficients_of_spanned n rows v over over_v spanned)
