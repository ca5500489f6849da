-- The rows that are not in the span of those before them.
use Rattle.std.specs.Prelude.{◌≡◌, ℕ, zero, suc, ◌+◌, ◌<◌, ◌≤◌, List, [], ◌∷◌, ◌++◌, length, get_or, take, drop}
use Rattle.std.proofs.Math.Seq.{take-suc, take-length}
use Rattle.std.proofs.lemmas.List.{get_or_append_left, get_or-append-add}
use Rattle.axe_algebra.specs.NumberField.{NumberField}
use Rattle.std.proofs.lemmas.List.Elements.{All-push}
use Rattle.axe_algebra.specs.Lists.{IsMatrixOver, IsVectorOver}
use Rattle.axe_algebra.specs.SpansOfLists.{IsSpanned, HaveSameSpan}
use Rattle.axe_algebra.proofs.ListEntries.{row_over}
use Rattle.axe_algebra.proofs.ListSpans.{appended_length, appended_spans, appended_row_spanned, appended_same_span, spanned_or_not}
use Rattle.axe_algebra.proofs.ListVectors.{same_span_refl, same_span_sym, same_span_trans, same_span_by_rows, spanned_within}
use Rattle.axe_echelon.specs.Echelons.{AreNewRows, none, new, old}
use Rattle.axe_echelon.proofs.FormLaws.{below_or_at}
use mathlib.Core.Path.{refl, sym, ◌∙◌, ap, ap₂, subst}
use native.Mathlib.Omega.{arith}

module _ (K : NumberField) where
  -- each row of a list and one more is spanned by what spans the list, and the row
  spanned_with : (rows others : List (List ℕ)) (row : List ℕ) → ((t : ℕ) → t < length rows → IsSpanned K others (get_or rows t [])) →
      (t : ℕ) → t < length (rows ++ row ∷ []) → IsSpanned K (others ++ row ∷ []) (get_or (rows ++ row ∷ []) t [])
  spanned_with rows others row within t below = below_or_at (λ t. IsSpanned K (others ++ row ∷ []) (get_or (rows ++ row ∷ []) t [])) (length rows)
      (λ t before. subst (IsSpanned K (others ++ row ∷ [])) (sym (get_or_append_left rows (row ∷ []) [] t before))
      (appended_spans K others row (get_or rows t []) (within t before)))
      (subst (IsSpanned K (others ++ row ∷ [])) (sym last) (appended_row_spanned K others row))
      t (omega (arith, below, appended_length K rows row))
    where
      last : get_or (rows ++ row ∷ []) (length rows) [] ≡ row
      last = ap (λ k. get_or (rows ++ row ∷ []) k []) (let same : length rows ≡ length rows + 0 = omega arith in same) ∙ get_or-append-add rows (row ∷ []) 0 []

  -- the new ones of some rows span them
  pub new_rows_span : {rows kept : List (List ℕ)} → AreNewRows K rows kept → HaveSameSpan K rows kept
  new_rows_span none = same_span_refl K []
  new_rows_span (new rows kept row before outside) = same_span_by_rows K (rows ++ row ∷ []) (kept ++ row ∷ [])
      (spanned_with rows kept row (new_rows_span before).forth) (spanned_with kept rows row (new_rows_span before).back)
  new_rows_span (old rows kept row before spanned) =
      same_span_trans K (rows ++ row ∷ []) rows kept (same_span_sym K rows (rows ++ row ∷ []) (appended_same_span K rows row spanned)) (new_rows_span before)

  -- one more of the first rows
  one_more : (rows : List (List ℕ)) (i : ℕ) (row : List ℕ) → i < length rows → row ≡ get_or rows i [] → take (i + 1) rows ≡ take i rows ++ row ∷ []
  one_more rows i row below is = ap (λ k. take k rows) (let next : i + 1 ≡ suc i = omega arith in next) ∙ take-suc rows i [] below ∙ ap (λ r. take i rows ++ r ∷ []) (sym is)

  -- the next of them
  pub new_row : (rows kept : List (List ℕ)) (i : ℕ) (row : List ℕ) → AreNewRows K (take i rows) kept → i < length rows → row ≡ get_or rows i [] →
      ¬ (IsSpanned K kept row) → AreNewRows K (take (i + 1) rows) (kept ++ row ∷ [])
  new_row rows kept i row before below is outside =
      subst (λ l. AreNewRows K l (kept ++ row ∷ [])) (sym (one_more rows i row below is))
      (new (take i rows) kept row before (λ spanned. outside (spanned_within K (take i rows) kept row (new_rows_span before) spanned)))

  pub old_row : (rows kept : List (List ℕ)) (i : ℕ) (row : List ℕ) → AreNewRows K (take i rows) kept → i < length rows → row ≡ get_or rows i [] →
      IsSpanned K kept row → AreNewRows K (take (i + 1) rows) kept
  old_row rows kept i row before below is spanned =
      subst (λ l. AreNewRows K l kept) (sym (one_more rows i row below is))
      (old (take i rows) kept row before (spanned_within K kept (take i rows) row (same_span_sym K (take i rows) kept (new_rows_span before)) spanned))

  -- there is one list of them
  first_rows : (rows others : List (List ℕ)) (row other : List ℕ) → rows ++ row ∷ [] ≡ others ++ other ∷ [] → (rows ≡ others) × (row ≡ other)
  first_rows [] [] row other same = (refl, ap (λ l. get_or l 0 []) same)
  first_rows [] (o ∷ []) row other same = absurd (omega (arith, ap length same))
  first_rows [] (o ∷ p ∷ others) row other same = absurd (omega (arith, ap length same))
  first_rows (r ∷ []) [] row other same = absurd (omega (arith, ap length same))
  first_rows (r ∷ s ∷ rows) [] row other same = absurd (omega (arith, ap length same))
  first_rows (r ∷ rows) (o ∷ others) row other same = at (first_rows rows others row other (ap (drop 1) same))
    where
      at : (rows ≡ others) × (row ≡ other) → (r ∷ rows ≡ o ∷ others) × (row ≡ other)
      at (e, f) = (ap₂ (λ (a : List ℕ) (l : List (List ℕ)). a ∷ l) (ap (λ l. get_or l 0 []) same) e, f)

  one_list : {rows others kept taken : List (List ℕ)} → AreNewRows K rows kept → AreNewRows K others taken → rows ≡ others → kept ≡ taken
  one_list none none same = refl
  one_list none (new others taken other after outside) same = absurd (omega (arith, ap length same, appended_length K others other))
  one_list none (old others taken other after spanned) same = absurd (omega (arith, ap length same, appended_length K others other))
  one_list (new rows kept row before outside) none same = absurd (omega (arith, ap length same, appended_length K rows row))
  one_list (old rows kept row before spanned) none same = absurd (omega (arith, ap length same, appended_length K rows row))
  one_list (new rows kept row before outside) (new others taken other after outside_too) same =
      let both = first_rows rows others row other same in ap₂ (λ (l : List (List ℕ)) (r : List ℕ). l ++ r ∷ []) (one_list before after both.0) both.1
  one_list (old rows kept row before spanned) (old others taken other after spanned_too) same = one_list before after (first_rows rows others row other same).0
  one_list (new rows kept row before outside) (old others taken other after spanned) same =
      let both = first_rows rows others row other same in absurd (outside (rw (both.0, both.1) spanned))
  one_list (old rows kept row before spanned) (new others taken other after outside) same =
      let both = first_rows rows others row other same in absurd (outside (rw (← both.0, ← both.1) spanned))

  pub new_rows_are_one : (rows kept others : List (List ℕ)) → AreNewRows K rows kept → AreNewRows K rows others → kept ≡ others
  new_rows_are_one rows kept others first second = one_list first second refl

  -- and there is one, for the rows of a matrix
  some_of_first : (n : ℕ) (rows : List (List ℕ)) → IsMatrixOver K n rows → (i : ℕ) → i ≤ length rows →
      (kept : List (List ℕ)) × AreNewRows K (take i rows) kept × IsMatrixOver K n kept
  some_of_first n rows over zero few = ([], none, λ t row below. absurd (omega (arith, below)))
  some_of_first n rows over (suc i) few = from (some_of_first n rows over i (omega (arith, few)))
    where
      row : List ℕ
      row = get_or rows i []

      of_row : IsVectorOver K n row
      of_row = row_over K n rows i over (omega (arith, few))

      next : {kept : List (List ℕ)} → AreNewRows K (take (i + 1) rows) kept → AreNewRows K (take (suc i) rows) kept
      next {kept} are = subst (λ k. AreNewRows K (take k rows) kept) (let same : i + 1 ≡ suc i = omega arith in same) are

      from : (kept : List (List ℕ)) × AreNewRows K (take i rows) kept × IsMatrixOver K n kept →
          (kept : List (List ℕ)) × AreNewRows K (take (suc i) rows) kept × IsMatrixOver K n kept
      from (kept, are, of_kept) = cases (spanned_or_not K n kept row of_kept of_row.length_is)
        where
          cases : Dec (IsSpanned K kept row) → (kept : List (List ℕ)) × AreNewRows K (take (suc i) rows) kept × IsMatrixOver K n kept
          cases (yes spanned) = (kept, next (old_row rows kept i row are (omega (arith, few)) refl spanned), of_kept)
          cases (no outside) =
              (kept ++ row ∷ [], next (new_row rows kept i row are (omega (arith, few)) refl outside), All-push (IsVectorOver K n) kept row of_kept of_row)

  pub some_new_rows : (n : ℕ) (rows : List (List ℕ)) → IsMatrixOver K n rows → (kept : List (List ℕ)) × AreNewRows K rows kept
  some_new_rows n rows over = whole (some_of_first n rows over (length rows) (omega arith))
    where
      whole : (kept : List (List ℕ)) × AreNewRows K (take (length rows) rows) kept × IsMatrixOver K n kept → (kept : List (List ℕ)) × AreNewRows K rows kept
      whole (kept, are, of_kept) = (kept, subst (λ l. AreNewRows K l kept) (take-length rows) are)
