-- The columns that are no pivots, one after another, and the rows that are extended by their unit vectors.
use Rattle.std.specs.Prelude.{◌≡◌, ℕ, zero, suc, ◌+◌, ◌-◌, ◌<◌, ◌≤◌, List, [], ◌∷◌, ◌++◌, length, map, get_or, Bool, true, false, IsTrue, ◌↔◌}
use Rattle.std.proofs.lemmas.List.{length-append, length-map, map-append, append-nil, append_assoc, get_or_append_left, get_or-append-add}
use Rattle.axe_algebra.specs.NumberField.{NumberField}
use Rattle.axe_algebra.specs.Field.{Field}
use Rattle.axe_algebra.specs.Reduced.{IsAscendingListOf}
use Rattle.axe_algebra.specs.Actions.{IsFree}
use Rattle.axe_algebra.specs.Bridge.{field_of, matrix_of}
use Rattle.axe_algebra.specs.Lists.{unit_row, IsMatrixOver}
use Rattle.axe_algebra.specs.SpansOfLists.{IsIndependent, IsPivot}
use Rattle.axe_algebra.proofs.FreeColumns.{pivot_or_not, free_columns_count}
use Rattle.axe_algebra.proofs.ListEntries.{rows_length}
use Rattle.axe_field.specs.NumberFields.{number_field}
use Rattle.axe_matrix.specs.Limits.{most_rows}
use Rattle.axe_matrix.specs.Matrices.{MatrixValue, IsMatrix}
use Rattle.axe_echelon.specs.Echelons.{EchelonValue}
use Rattle.axe_echelon.proofs.InverseLaws.{matrix_over, HasAllRows}
use Rattle.axe_echelon.specs.Echelons.{IsSpanOfRows}
use mathlib.Core.Path.{sym, ◌∙◌, ap, ap₂, subst}
use native.Mathlib.Omega.{arith}
use native.Mathlib.Decide.{ℕ_discrete}

module _ (K : NumberField) (rows : List (List ℕ)) where
  abbrev F : Field
  F = field_of K

  -- the list of the columns before one that are no pivots, ascending
  abbrev pub AreFreeBefore : ℕ → List ℕ → Type 0
  AreFreeBefore column free = IsAscendingListOf (λ j. (j < column) × ¬ (IsPivot K rows j)) (length free) (λ t. get_or free t 0)

  -- before the first column there is none
  pub free_none : AreFreeBefore 0 []
  free_none = record {
    ascending = λ s t order below. absurd (omega arith);
    each = λ t below. absurd (omega arith);
    all = λ j is. absurd (omega (arith, is.0));
  }

  -- a pivot adds none
  pub free_at_pivot : (column : ℕ) (free : List ℕ) → AreFreeBefore column free → IsPivot K rows column → AreFreeBefore (column + 1) free
  free_at_pivot column free are pivot = record {
    ascending = are.ascending;
    each = λ t below. let e = are.each t below in (omega (arith, e.0), e.1);
    all = λ j is. at j is (ℕ_discrete j column);
  }
    where
      at : (j : ℕ) → (j < column + 1) × ¬ (IsPivot K rows j) → Dec (j ≡ column) → (t : ℕ) × (t < length free) × (get_or free t 0 ≡ j)
      at j is (yes same) = absurd (is.1 (subst (IsPivot K rows) (sym same) pivot))
      at j is (no other) = are.all j (omega (arith, is.0), is.1)

  -- another column adds itself
  pub free_more : (column : ℕ) (free : List ℕ) → AreFreeBefore column free → ¬ (IsPivot K rows column) → AreFreeBefore (column + 1) (free ++ column ∷ [])
  free_more column free are no_pivot = record {
    ascending = λ s t order below. rising s t order (ℕ_discrete t (length free)) below;
    each = λ t below. each t (ℕ_discrete t (length free)) below;
    all = λ j is. at j is (ℕ_discrete j column);
  }
    where
      next : List ℕ
      next = free ++ column ∷ []

      many : length next ≡ suc (length free)
      many = omega (arith, length-append free (column ∷ []))

      before : (t : ℕ) → t < length free → get_or next t 0 ≡ get_or free t 0
      before t below = get_or_append_left free (column ∷ []) 0 t below

      last : get_or next (length free) 0 ≡ column
      last =
          ap (λ k. get_or next k 0) (let same : length free ≡ length free + 0 = omega arith in same)
          ∙ get_or-append-add free (column ∷ []) 0 0

      rising : (s t : ℕ) → s < t → Dec (t ≡ length free) → t < length next → get_or next s 0 < get_or next t 0
      rising s t order (yes same) below =
          let small = (are.each s (omega arith)).0 in
          let at_end : get_or next t 0 ≡ column = ap (λ k. get_or next k 0) same ∙ last in
          let at_start : get_or next s 0 ≡ get_or free s 0 = before s (omega arith) in
          omega (arith, small, at_end, at_start)
      rising s t order (no other) below =
          let inside : t < length free = omega (arith, many) in
          let first : s < length free = omega arith in
          let less = are.ascending s t order inside in
          omega (arith, less, before s first, before t inside)

      each : (t : ℕ) → Dec (t ≡ length free) → t < length next → (get_or next t 0 < column + 1) × ¬ (IsPivot K rows (get_or next t 0))
      each t (yes same) below =
          let at_end : get_or next t 0 ≡ column = ap (λ k. get_or next k 0) same ∙ last in
          (omega (arith, at_end), λ pivot. no_pivot (subst (IsPivot K rows) at_end pivot))
      each t (no other) below =
          let inside : t < length free = omega (arith, many) in
          let e = are.each t inside in
          (omega (arith, e.0, before t inside), λ pivot. e.1 (subst (IsPivot K rows) (before t inside) pivot))

      at : (j : ℕ) → (j < column + 1) × ¬ (IsPivot K rows j) → Dec (j ≡ column) → (t : ℕ) × (t < length next) × (get_or next t 0 ≡ j)
      at j is (yes same) = (length free, omega (arith, many), last ∙ sym same)
      at j is (no other) = from (are.all j (omega (arith, is.0), is.1))
        where
          from : (t : ℕ) × (t < length free) × (get_or free t 0 ≡ j) → (t : ℕ) × (t < length next) × (get_or next t 0 ≡ j)
          from (t, below, found) = (t, omega (arith, many), before t below ∙ found)

  -- at the end they are the free columns
  pub free_columns_of : (n : ℕ) (free : List ℕ) → AreFreeBefore n free → IsAscendingListOf (IsFree F n (length rows) (matrix_of K rows)) (length free) (λ t. get_or free t 0)
  free_columns_of n free are = record {
    ascending = are.ascending;
    each = λ t below. record { below = (are.each t below).0; no_pivot = (are.each t below).1 };
    all = λ j is. are.all j (is.below, is.no_pivot);
  }

  -- the list goes on to the end
  free_to_the_end : (n d column : ℕ) (free : List ℕ) → IsMatrixOver K n rows → AreFreeBefore column free → column + d ≡ n →
      (rest : List ℕ) × AreFreeBefore n (free ++ rest)
  free_to_the_end n zero column free over are size =
      ([], subst (AreFreeBefore n) (sym (append-nil free)) (subst (λ k. AreFreeBefore k free) (let e : column ≡ n = omega arith in e) are))
  free_to_the_end n (suc d) column free over are size =
      cases (λ next are_next. free_to_the_end n d (column + 1) next over are_next (omega arith))
      (pivot_or_not F n (length rows) (matrix_of K rows) (rows_length K n rows over) column)
    where
      longer : (rest : List ℕ) × AreFreeBefore n ((free ++ column ∷ []) ++ rest) → (rest : List ℕ) × AreFreeBefore n (free ++ rest)
      longer (rest, whole) = (column ∷ rest, subst (AreFreeBefore n) (append_assoc free (column ∷ []) rest) whole)

      cases : ((next : List ℕ) → AreFreeBefore (column + 1) next → (rest : List ℕ) × AreFreeBefore n (next ++ rest)) → Dec (IsPivot K rows column) →
          (rest : List ℕ) × AreFreeBefore n (free ++ rest)
      cases on (yes pivot) = on free (free_at_pivot column free are pivot)
      cases on (no other) = longer (on (free ++ column ∷ []) (free_more column free are other))

  -- so there are no more of them than rows are missing
  pub free_are_few : (n column : ℕ) (free : List ℕ) → IsMatrixOver K n rows → IsIndependent K rows → AreFreeBefore column free → column ≤ n →
      length rows + length free ≤ n
  free_are_few n column free over independent are within = from (free_to_the_end n (n - column) column free over are (omega arith))
    where
      from : (rest : List ℕ) × AreFreeBefore n (free ++ rest) → length rows + length free ≤ n
      from (rest, whole) = omega (
        arith,
        length-append free rest,
        free_columns_count F n (length rows) (matrix_of K rows) (rows_length K n rows over) (length (free ++ rest)) (λ t. get_or (free ++ rest) t 0)
            (free_columns_of n (free ++ rest) whole) independent,
      )

-- the rows of a matrix, with the unit vectors of the columns before one that are no pivots
pub record IsExtendedBefore (rows : MatrixValue) (column : ℕ) (extended : MatrixValue) : Type 0 where
  pub field : extended.order ≡ rows.order
  pub columns : extended.cols ≡ rows.cols
  pub free : List ℕ
  pub are_free : AreFreeBefore (number_field rows.order) rows.rows column free
  pub equals : extended.rows ≡ rows.rows ++ map (unit_row rows.cols) free
  pub well_formed : IsMatrix extended

-- before the first column: the rows alone
pub extended_none : (rows extended : MatrixValue) → extended ≡ rows → IsMatrix extended → IsExtendedBefore rows 0 extended
extended_none rows extended is well_formed = record {
  field = ap (λ (m : MatrixValue). m.order) is;
  columns = ap (λ (m : MatrixValue). m.cols) is;
  free = [];
  are_free = free_none (number_field rows.order) rows.rows;
  equals = ap (λ (m : MatrixValue). m.rows) is ∙ sym (append-nil rows.rows);
  well_formed = well_formed;
}

-- a pivot
pub extended_at_pivot : (rows : MatrixValue) (column : ℕ) (extended : MatrixValue) → IsExtendedBefore rows column extended →
    IsPivot (number_field rows.order) rows.rows column → IsExtendedBefore rows (column + 1) extended
extended_at_pivot rows column extended so_far pivot = record {
  field = so_far.field;
  columns = so_far.columns;
  free = so_far.free;
  are_free = free_at_pivot (number_field rows.order) rows.rows column so_far.free so_far.are_free pivot;
  equals = so_far.equals;
  well_formed = so_far.well_formed;
}

-- a column that is none
pub extended_more : (rows : MatrixValue) (column : ℕ) (extended next : MatrixValue) (unit : List ℕ) → IsExtendedBefore rows column extended →
    ¬ (IsPivot (number_field rows.order) rows.rows column) → unit ≡ unit_row rows.cols column → next ≡ record extended { rows = extended.rows ++ unit ∷ [] } →
    IsMatrix next → IsExtendedBefore rows (column + 1) next
extended_more rows column extended next unit so_far no_pivot unit_is is well_formed = record {
  field = ap (λ (m : MatrixValue). m.order) is ∙ so_far.field;
  columns = ap (λ (m : MatrixValue). m.cols) is ∙ so_far.columns;
  free = so_far.free ++ column ∷ [];
  are_free = free_more (number_field rows.order) rows.rows column so_far.free so_far.are_free no_pivot;
  equals =
      ap (λ (m : MatrixValue). m.rows) is
      ∙ ap₂ (λ (a : List (List ℕ)) (u : List ℕ). a ++ u ∷ []) so_far.equals unit_is
      ∙ append_assoc rows.rows (map (unit_row rows.cols) so_far.free) (unit_row rows.cols column ∷ [])
      ∙ ap (λ (l : List (List ℕ)). rows.rows ++ l) (sym (map-append (unit_row rows.cols) so_far.free (column ∷ [])));
  well_formed = well_formed;
}

-- there is room for its unit vector
pub extended_has_room : (rows : MatrixValue) (column : ℕ) (extended : MatrixValue) → IsMatrix rows → IsIndependent (number_field rows.order) rows.rows →
    IsExtendedBefore rows column extended → ¬ (IsPivot (number_field rows.order) rows.rows column) → column < rows.cols → length extended.rows < most_rows
extended_has_room rows column extended h independent so_far no_pivot inside =
    let few : length rows.rows + length (so_far.free ++ column ∷ []) ≤ rows.cols =
    free_are_few (number_field rows.order) rows.rows rows.cols (column + 1) (so_far.free ++ column ∷ []) (matrix_over rows h) independent
    (free_more (number_field rows.order) rows.rows column so_far.free so_far.are_free no_pivot) (omega arith) in
    let many : length extended.rows ≡ length rows.rows + length (map (unit_row rows.cols) so_far.free) =
    ap (λ (l : List (List ℕ)). length l) so_far.equals ∙ length-append rows.rows (map (unit_row rows.cols) so_far.free) in
    omega (arith, few, many, length-map so_far.free (unit_row rows.cols), length-append so_far.free (column ∷ []), h.columns_fit)

-- the pivots of the echelon form of all rows are those of the rows
pub pivot_of_span : (rows : MatrixValue) (span : EchelonValue) (column : ℕ) → HasAllRows rows span → IsPivot (number_field span.order) span.rows column →
    IsPivot (number_field rows.order) rows.rows column
pivot_of_span rows span column all pivot =
    subst (λ (l : List (List ℕ)). IsPivot (number_field rows.order) l column) all.rows (subst (λ o. IsPivot (number_field o) span.rows column) all.field pivot)

pub no_pivot_of_span : (rows : MatrixValue) (span : EchelonValue) (column : ℕ) (answer : Bool) → HasAllRows rows span →
    (IsTrue answer ↔ IsPivot (number_field span.order) span.rows column) → answer ≡ false → ¬ (IsPivot (number_field rows.order) rows.rows column)
no_pivot_of_span rows span column answer all exactly is pivot = both (exactly.1 back) is
  where
    back : IsPivot (number_field span.order) span.rows column
    back = subst (λ o. IsPivot (number_field o) span.rows column) (sym all.field)
        (subst (λ (l : List (List ℕ)). IsPivot (number_field rows.order) l column) (sym all.rows) pivot)

    both : answer ≡ true → answer ≡ false → ⊥
    both first second = cc

-- the echelon form of a span has all of the rows where they are independent
pub all_rows : (m : MatrixValue) (e : EchelonValue) → IsIndependent (number_field m.order) m.rows → IsSpanOfRows m e → HasAllRows m e
all_rows m e independent span = record {
  field = span.field;
  columns = span.columns;
  rows = span.all independent;
  well_formed = span.well_formed;
}
