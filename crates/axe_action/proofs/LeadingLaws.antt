-- Rows that are the identity at the columns where they begin are a reduced basis, and these columns are its pivots.
use Rattle.std.specs.Prelude.{◌≡◌, ◌≢◌, ℕ, ◌+◌, ◌<◌, ◌≤◌, List, [], ◌∷◌, ◌++◌, length, get_or}
use Rattle.std.proofs.lemmas.List.{length-append, get_or_append_left, get_or-append-add}
use Rattle.axe_algebra.specs.NumberField.{NumberField}
use Rattle.axe_algebra.specs.Field.{Field}
use Rattle.axe_algebra.specs.Vectors.{Matrix}
use Rattle.axe_algebra.specs.Spans.{SameSpan}
use Rattle.axe_algebra.specs.Bridge.{matrix_of, element}
use Rattle.axe_algebra.specs.SpansOfLists.{IsPivot, IsReducedBasis}
use Rattle.axe_algebra.proofs.Spanning.{span_row}
use Rattle.axe_algebra.proofs.ElementNumbers.{element_zero}
use Rattle.axe_algebra.proofs.Reducing.{IsReducedList}
use Rattle.axe_algebra.proofs.ReducedBases.{basis_of_list, reduced_independent}
use Rattle.axe_field.specs.NumberFields.{number_field, gf}
use Rattle.axe_matrix.specs.Matrices.{MatrixValue, IsMatrix}
use Rattle.axe_echelon.specs.Echelons.{EchelonValue, IsEchelon, IsReducedMatrix}
use Rattle.axe_echelon.proofs.FormLaws.{below_or_at}
use Rattle.axe_echelon.proofs.InverseLaws.{matrix_over}
use Rattle.axe_action.specs.Coordinates.{ArePivotColumns, IsIdentityAt}
use Rattle.axe_action.specs.LeadingColumns.{AreLeadingColumns, IsOtherColumn, AreOtherColumns}
use Rattle.axe_action.specs.FreeColumns.{AreFreeColumns, AreReducedAt, rows_to_span}
use Rattle.axe_action.proofs.ColumnLaws.{coordinates_of_reduced}
use Rattle.axe_action.proofs.ReducedRows.{one_at_identity, zero_at_identity}
use Rattle.axe_action.proofs.QuotientRows.{free_count}
use mathlib.Core.Path.{refl, sym, ◌∙◌, ap, subst}
use native.Mathlib.Omega.{arith}
use native.Mathlib.Decide.{ℕ_discrete, dec_lt}

-- ---- the columns where rows begin

pub leading_none : (rows : List (List ℕ)) (columns : List ℕ) → columns ≡ [] → AreLeadingColumns 0 rows columns
leading_none rows columns is = subst (AreLeadingColumns 0 rows) (sym is) (record {
  ascending = λ s t order below. absurd (omega arith);
  below = λ t below. absurd (omega arith);
  zeros = λ t i below. absurd (omega arith);
})

-- one more row begins behind the others
pub leading_more : (bound : ℕ) (rows : List (List ℕ)) (columns more : List ℕ) (column : ℕ) → AreLeadingColumns bound rows columns → bound ≤ column →
    ((i : ℕ) → i < column → get_or (get_or rows (length columns) []) i 0 ≡ 0) → more ≡ columns ++ column ∷ [] → AreLeadingColumns (column + 1) rows more
leading_more bound rows columns more column so_far behind zeros is = subst (AreLeadingColumns (column + 1) rows) (sym is) (record {
  ascending = λ s t order below. below_or_at (λ t. s < t → get_or all s 0 < get_or all t 0) (length columns)
      (λ t before ahead. rw (first s (omega (arith, ahead, before)), first t before) (so_far.ascending s t ahead before))
      (λ ahead. rw (first s ahead, last) (let b = so_far.below s ahead in omega (arith, b, behind))) t (omega (arith, below, grown)) order;
  below = λ t below. below_or_at (λ t. get_or all t 0 < column + 1) (length columns)
      (λ t before. rw (first t before) (let b = so_far.below t before in omega (arith, b, behind))) (rw last (omega arith)) t (omega (arith, below, grown));
  zeros = λ t i below. below_or_at (λ t. i < get_or all t 0 → get_or (get_or rows t []) i 0 ≡ 0) (length columns)
      (λ t before. rw (first t before) (so_far.zeros t i before)) (rw last (zeros i)) t (omega (arith, below, grown));
})
  where
    all : List ℕ
    all = columns ++ column ∷ []

    grown : length all ≡ length columns + 1
    grown = length-append columns (column ∷ [])

    first : (t : ℕ) → t < length columns → get_or all t 0 ≡ get_or columns t 0
    first t before = get_or_append_left columns (column ∷ []) 0 t before

    last : get_or all (length columns) 0 ≡ column
    last =
        ap (λ k. get_or all k 0) (let same : length columns ≡ length columns + 0 = omega arith in same)
        ∙ get_or-append-add columns (column ∷ []) 0 0

-- below a greater bound
pub leading_within : (bound greater : ℕ) (rows : List (List ℕ)) (columns : List ℕ) → AreLeadingColumns bound rows columns → bound ≤ greater →
    AreLeadingColumns greater rows columns
leading_within bound greater rows columns so_far less = record {
  ascending = so_far.ascending;
  below = λ t below. let b = so_far.below t below in omega (arith, b, less);
  zeros = so_far.zeros;
}

-- ---- the reduced basis

module _ (rows : MatrixValue) (columns : List ℕ) (rows_h : IsMatrix rows) (count : length columns ≡ length rows.rows)
    (leading : AreLeadingColumns rows.cols rows.rows columns) (identity : IsIdentityAt columns rows.rows) where
  abbrev K : NumberField
  K = number_field rows.order

  abbrev F : Field
  F = gf rows.order

  abbrev w : Matrix F
  w = matrix_of K rows.rows

  abbrev place : ℕ → ℕ
  place t = get_or columns t 0

  list : IsReducedList F (length rows.rows) w place
  list = record {
    ascending = λ s t order below. leading.ascending s t order (omega (arith, below, count));
    one = λ t below. one_at_identity rows.order columns rows.rows count identity t below;
    zero = λ s t inside below other. zero_at_identity rows.order columns rows.rows count identity s t inside below other;
    before = λ t i below ahead. ap (element K) (leading.zeros t i (omega (arith, below, count)) ahead) ∙ element_zero K;
  }

  itself : SameSpan F (length rows.rows) w (length rows.rows) w
  itself = record { forth = span_row F (length rows.rows) w; back = span_row F (length rows.rows) w }

  basis : IsReducedBasis K rows.rows rows.rows
  basis = basis_of_list F (length rows.rows) w (length rows.rows) w place list itself

  -- a row begins at its column
  pivot_at : (t : ℕ) → t < length rows.rows → IsPivot K rows.rows (place t)
  pivot_at t below = record {
    vector = w t;
    in_span = span_row F (length rows.rows) w t below;
    leads = record {
      nonzero = λ e. F.one-not-zero (sym (list.one t below) ∙ e);
      before = λ i ahead. list.before t i below ahead;
    };
  }

  -- which is the pivot with the row's number, since the row is 0 at all others
  pivot_is : (t : ℕ) → t < length rows.rows → basis.pivots t ≡ place t
  pivot_is t below =
      let at = basis.are_pivots.all (place t) (pivot_at t below) in
      cases at.0 at.1 at.2 (ℕ_discrete at.0 t)
    where
      cases : (s : ℕ) → s < length rows.rows → basis.pivots s ≡ place t → Dec (s ≡ t) → basis.pivots t ≡ place t
      cases s inside found (yes same) = subst (λ k. basis.pivots k ≡ place t) same found
      cases s inside found (no other) = absurd (F.one-not-zero
          (sym (list.one t below) ∙ ap (λ j. w t j) (sym found) ∙ basis.zero s t inside below other))

  are_pivots : ArePivotColumns (rows_to_span rows) columns
  are_pivots = record {
    ascending = leading.ascending;
    each = λ t below. pivot_at t (omega (arith, below, count));
    all = λ j pivot. let at = basis.are_pivots.all j pivot in
        (at.0, (let inside = at.1 in omega (arith, inside, count)), sym (pivot_is at.0 at.1) ∙ at.2);
  }

  reduced : IsReducedMatrix (rows_to_span rows) rows
  reduced = record { field = refl; columns = refl; basis = basis }

  echelon : IsEchelon (rows_to_span rows)
  echelon = record {
    some_column = rows_h.some_column;
    columns_fit = rows_h.columns_fit;
    over = matrix_over rows rows_h;
    independent = reduced_independent F (length rows.rows) w (length rows.rows) w basis;
  }

  pub reduced_at_leading : AreReducedAt rows columns
  reduced_at_leading = record {
    pivots = are_pivots;
    reduced = reduced;
    coordinates = coordinates_of_reduced (rows_to_span rows) rows columns echelon reduced rows_h are_pivots;
  }

-- ---- the other columns

-- so many of the columns were passed, those below the next one
pub record ArePassed (columns : List ℕ) (passed next : ℕ) : Type 0 where
  pub fits : passed ≤ length columns
  pub before : (t : ℕ) → t < passed → get_or columns t 0 < next
  pub after : (t : ℕ) → passed ≤ t → t < length columns → next ≤ get_or columns t 0

pub passed_none : (columns : List ℕ) → ArePassed columns 0 0
passed_none columns = record { fits = omega arith; before = λ t below. absurd (omega arith); after = λ t past below. omega arith }

module _ (columns : List ℕ) (passed next : ℕ) (so_far : ArePassed columns passed next)
    (ascending : (s t : ℕ) → s < t → t < length columns → get_or columns s 0 < get_or columns t 0) where
  -- the next one is among the columns
  pub passed_one : (passed < length columns) × (get_or columns passed 0 ≡ next) → ArePassed columns (passed + 1) (next + 1)
  passed_one at = record {
    fits = omega (arith, at.0);
    before = λ t below. below_or_at (λ t. get_or columns t 0 < next + 1) passed (λ t before. let b = so_far.before t before in omega (arith, b))
        (omega (arith, at.1)) t (omega (arith, below));
    after = λ t past below. let rise = ascending passed t (omega (arith, past)) below in omega (arith, rise, at.1);
  }

  pub listed_is_no_other : (bound : ℕ) → (passed < length columns) × (get_or columns passed 0 ≡ next) → ¬ (IsOtherColumn bound columns next)
  listed_is_no_other bound at other = other.other passed at.0 at.1

  -- the next one is not
  none_is_next : ¬ ((passed < length columns) × (get_or columns passed 0 ≡ next)) → (t : ℕ) → t < length columns → get_or columns t 0 ≢ next
  none_is_next other t below same = cases (dec_lt t passed)
    where
      cases : Dec (t < passed) → ⊥
      cases (yes earlier) = let b = so_far.before t earlier in omega (arith, b, same)
      cases (no later) = at (ℕ_discrete t passed)
        where
          at : Dec (t ≡ passed) → ⊥
          at (yes here) = other (subst (λ k. k < length columns) here below, subst (λ k. get_or columns k 0 ≡ next) here same)
          at (no there) =
              let ahead : passed < t = omega (arith, later, there) in
              let rise = ascending passed t ahead below in
              let first = so_far.after passed (omega arith) (omega (arith, ahead, below)) in
              omega (arith, rise, first, same)

  pub passed_other : ¬ ((passed < length columns) × (get_or columns passed 0 ≡ next)) → ArePassed columns passed (next + 1)
  passed_other other = record {
    fits = so_far.fits;
    before = λ t below. let b = so_far.before t below in omega (arith, b);
    after = λ t past below.
        let least = so_far.after t past below in
        let different = none_is_next other t below in
        omega (arith, least, different);
  }

  pub next_is_other : (bound : ℕ) → next < bound → ¬ ((passed < length columns) × (get_or columns passed 0 ≡ next)) → IsOtherColumn bound columns next
  next_is_other bound inside other = record { below = inside; other = none_is_next other }

-- the columns that are no pivots
pub free_of_others : (e : EchelonValue) (bound : ℕ) (pivots others : List ℕ) → bound ≡ e.cols → ArePivotColumns e pivots →
    AreOtherColumns bound pivots others → AreFreeColumns e others
free_of_others e bound pivots others whole are is = record {
  ascending = is.ascending;
  each = λ t below. record {
    below = subst (λ n. get_or others t 0 < n) whole (is.each t below).below;
    no_pivot = λ pivot. let at = are.all (get_or others t 0) pivot in (is.each t below).other at.0 at.1 at.2;
  };
  all = λ j free. is.all j (record {
    below = subst (λ n. j < n) (sym whole) free.below;
    other = λ t below same. free.no_pivot (subst (IsPivot (number_field e.order) e.rows) same (are.each t below));
  });
}

-- there are as many of them as rows are missing
pub free_beside_rows : (rows : MatrixValue) (pivots columns : List ℕ) → IsMatrix rows → AreReducedAt rows pivots → AreFreeColumns (rows_to_span rows) columns →
    length rows.rows + length columns ≡ rows.cols
free_beside_rows rows pivots columns rows_h reduced free = free_count (rows_to_span rows) columns (record {
  some_column = rows_h.some_column;
  columns_fit = rows_h.columns_fit;
  over = matrix_over rows rows_h;
  independent = reduced_independent (gf rows.order) (length rows.rows) (matrix_of (number_field rows.order) rows.rows) (length rows.rows)
      (matrix_of (number_field rows.order) rows.rows) reduced.reduced.basis;
}) free
