-- Rows extended by the unit vectors of the columns that are no pivots, as lists.
use Rattle.std.specs.Prelude.{◌≡◌, ℕ, ◌<◌, ◌+◌, ◌-◌, List, [], ◌++◌, map, length, get_or}
use Rattle.axe_algebra.specs.NumberField.{NumberField}
use Rattle.axe_algebra.specs.Field.{Field}
use Rattle.axe_algebra.specs.Spans
use Rattle.axe_algebra.specs.Actions.{unit_vectors}
use Rattle.axe_algebra.specs.Bridge.{field_of, vector_of, matrix_of}
use Rattle.axe_algebra.specs.Lists.{unit_row, IsMatrixOver}
use Rattle.axe_algebra.specs.SpansOfLists.{IsIndependent, SpansEverything, IsExtendedBasis}
use Rattle.axe_algebra.proofs.Spaces.{stacked, stacked_first, stacked_second}
use Rattle.axe_algebra.proofs.Exchange.{span_of_same_rows}
use Rattle.axe_algebra.proofs.FreeColumns.{extended_spans_all, free_columns_count}
use Rattle.axe_algebra.proofs.ListEntries.{rows_length}
use Rattle.axe_algebra.proofs.ListVectors.{vector_of_unit_row}
use Rattle.std.proofs.lemmas.List.{length-append, length-map, get_or_append_left, get_or-append-add, get_or-map}
use mathlib.Core.Path.{sym, ◌∙◌, ap, subst}
use native.Mathlib.Omega.{arith}
use native.Mathlib.Decide.{dec_lt}

module _ (K : NumberField) where
  abbrev F : Field
  F = field_of K

  module _ (n : ℕ) (rows extended : List (List ℕ)) (over : IsMatrixOver K n rows) (is : IsExtendedBasis K n rows extended) where
    columns : ℕ → ℕ
    columns t = get_or is.columns t 0

    pub extended_length : length extended ≡ length rows + length is.columns
    extended_length =
        ap length is.equals ∙ length-append rows (map (unit_row n) is.columns)
        ∙ ap (λ m. length rows + m) (length-map is.columns (unit_row n))

    extended_rows : (t : ℕ) → t < length rows + length is.columns →
        matrix_of K extended t ≡ stacked F (length rows) (matrix_of K rows) (unit_vectors F columns) t
    unfolding columns
    extended_rows t below = ap (λ (list : List (List ℕ)). matrix_of K list t) is.equals ∙ at (dec_lt t (length rows))
      where
        units : List (List ℕ)
        units = map (unit_row n) is.columns

        at : Dec (t < length rows) → matrix_of K (rows ++ units) t ≡ stacked F (length rows) (matrix_of K rows) (unit_vectors F columns) t
        at (yes before) =
            ap (vector_of K) (get_or_append_left rows units [] t before) ∙ sym (stacked_first F (length rows) (matrix_of K rows) (unit_vectors F columns) t before)
        at (no past) =
            let place : t ≡ length rows + (t - length rows) = omega arith in
            let small : t - length rows < length is.columns = omega arith in
            ap (matrix_of K (rows ++ units)) place
            ∙ ap (vector_of K) (get_or-append-add rows units (t - length rows) [] ∙ get_or-map (unit_row n) is.columns (t - length rows) 0 [] small)
            ∙ vector_of_unit_row K n (columns (t - length rows)) (is.free.each (t - length rows) small).below
            ∙ sym (stacked_second F (length rows) (matrix_of K rows) (unit_vectors F columns) (t - length rows))
            ∙ ap (stacked F (length rows) (matrix_of K rows) (unit_vectors F columns)) (sym place)

    -- the extended rows span everything
    pub extended_spans_everything : SpansEverything K n extended
    unfolding columns
    extended_spans_everything x long =
        subst (λ k. Spans.InSpan F k (matrix_of K extended) x) (sym extended_length)
        (span_of_same_rows F (length rows + length is.columns) (stacked F (length rows) (matrix_of K rows) (unit_vectors F columns)) (matrix_of K extended) x
        (λ t below. sym (extended_rows t below))
        (extended_spans_all F n (length rows) (matrix_of K rows) (rows_length K n rows over) (length is.columns) columns is.free x long))

    pub extended_is_square : IsIndependent K rows → length extended ≡ n
    unfolding columns
    extended_is_square independent =
        extended_length ∙ free_columns_count F n (length rows) (matrix_of K rows) (rows_length K n rows over) (length is.columns) columns is.free independent
