-- Rows that are the identity at the pivots of their span: they are its reduced basis.
use Rattle.std.specs.Prelude.{◌≡◌, ◌≢◌, ℕ, ◌<◌, List, [], length, get_or, cond, eqb, All, IsTrue, Bool, true, false, ◌↔◌}
use Rattle.std.proofs.lemmas.List.{get_or-map}
use Rattle.std.proofs.lemmas.List.Elements.{All-from_get_or}
use Rattle.std.proofs.lemmas.Bool.{eq-eqb, ne_eqb}
use Rattle.axe_algebra.specs.NumberField.{NumberField}
use Rattle.axe_algebra.specs.Field.{Field}
use Rattle.axe_algebra.specs.Vectors.{Matrix, HasRowsOfLength}
use Rattle.axe_algebra.specs.Spans
use Rattle.axe_algebra.specs.Reduced
use Rattle.axe_algebra.specs.Bridge.{matrix_of, element}
use Rattle.axe_algebra.specs.Lists.{unit_row}
use Rattle.axe_algebra.specs.SpansOfLists.{IsIndependent, IsPivot, IsReducedBasis}
use Rattle.axe_algebra.proofs.Exchange.{exchange}
use Rattle.axe_algebra.proofs.ElementNumbers.{element_zero, element_one}
use Rattle.axe_algebra.proofs.ReducedBases.{reduced_basis, reduced_spans, reduced_independent, same_size}
use Rattle.axe_algebra.proofs.ListEntries.{rows_length, listed_at}
use Rattle.axe_field.specs.Order.{Order}
use Rattle.axe_field.specs.NumberFields.{number_field, gf}
use Rattle.axe_row.specs.Rows.{RowValue}
use Rattle.axe_matrix.specs.Matrices.{MatrixValue, IsMatrix, entries_at}
use Rattle.axe_echelon.specs.Echelons.{EchelonValue, IsEchelon, IsReducedMatrix, IsSpanOfRows}
use Rattle.axe_echelon.proofs.ReducedLaws.{pivot-below}
use Rattle.axe_action.specs.Coordinates.{ArePivotColumns, AreCoordinateColumns, IsIdentityAt}
use Rattle.axe_action.proofs.ColumnLaws.{coordinates_of_reduced}
use mathlib.Core.Path.{refl, sym, ◌∙◌, ap, subst}
use native.Mathlib.Omega.{arith}

-- a row has other entries at the columns than the unit vector of its number
pub no_identity : (columns : List ℕ) (rows : List (List ℕ)) (t : ℕ) → t < length rows →
    ¬ (entries_at columns (get_or rows t []) ≡ unit_row (length columns) t) → IsTrue false ↔ IsIdentityAt columns rows
no_identity columns rows t below other = (λ is. absurd (different is), λ identity. absurd (other (identity t below)))
  where
    different : false ≡ true → ⊥
    different is = cc

-- whether two rows are equal tells whether the entries at the columns are a unit vector
pub unit_exactly : (columns v : List ℕ) (index : ℕ) (entries unit : RowValue) (test : Bool) → entries.order ≡ unit.order →
    entries.entries ≡ entries_at columns v → unit.entries ≡ unit_row (length columns) index → (IsTrue test ↔ (entries ≡ unit)) →
    IsTrue test ↔ (entries_at columns v ≡ unit_row (length columns) index)
unit_exactly columns v index entries unit test orders entries_are unit_is exactly = (
  λ yes. sym entries_are ∙ ap (λ (r : RowValue). r.entries) (exactly.0 yes) ∙ unit_is,
  λ are. exactly.1 (λ i. record { order = orders i; entries = (entries_are ∙ are ∙ sym unit_is) i }),
)

-- there are as many pivots as rows
pub pivots_count : (e : EchelonValue) (columns : List ℕ) → IsEchelon e → ArePivotColumns e columns →
    length columns ≡ length e.rows
pivots_count e columns h pivots = from (reduced_basis F e.cols (length e.rows) (matrix_of K e.rows) lengths)
  where
    K : NumberField
    K = number_field e.order

    F : Field
    F = gf e.order

    lengths : HasRowsOfLength F e.cols (matrix_of K e.rows)
    lengths = rows_length K e.cols e.rows h.over

    from : (r : ℕ) × (w : Matrix F) × HasRowsOfLength F e.cols w × Reduced.IsReducedBasis F (length e.rows) (matrix_of K e.rows) r w →
        length columns ≡ length e.rows
    from (r, w, long, reduced) =
        let same : Spans.SameSpan F (length e.rows) (matrix_of K e.rows) r w =
        reduced_spans F e.cols (length e.rows) (matrix_of K e.rows) r w lengths reduced in
        let count : length columns ≡ r =
        same_size (IsPivot K e.rows) (length columns) (λ t. get_or columns t 0) r reduced.pivots pivots reduced.are_pivots in
        omega (
          arith,
          count,
          exchange F (length e.rows) (matrix_of K e.rows) r w h.independent same.forth,
          exchange F r w (length e.rows) (matrix_of K e.rows) (reduced_independent F (length e.rows) (matrix_of K e.rows) r w reduced) same.back,
        )

-- the pivots of independent rows are as many as these, and columns of theirs
module _ (rows : MatrixValue) (e : EchelonValue) (columns : List ℕ) where
  pub columns_as_many : IsIndependent (number_field rows.order) rows.rows → IsSpanOfRows rows e → ArePivotColumns e columns →
      length columns ≡ length rows.rows
  columns_as_many independent span pivots =
      pivots_count e columns span.well_formed pivots ∙ ap (λ (l : List (List ℕ)). length l) (span.all independent)

  pub columns_within : IsSpanOfRows rows e → ArePivotColumns e columns → All (λ column. column < rows.cols) columns
  columns_within span pivots =
      subst (λ n. All (λ column. column < n) columns) span.columns
      (All-from_get_or (λ column. column < e.cols) columns 0
      (λ t below. pivot-below e span.well_formed (get_or columns t 0) (pivots.each t below)))

-- the entries of rows that are the identity at some columns
module _ (o : Order) (columns : List ℕ) (rows : List (List ℕ)) (count : length columns ≡ length rows) (identity : IsIdentityAt columns rows) where
  abbrev K : NumberField
  K = number_field o

  entry_is : (s t : ℕ) → s < length rows → t < length rows → get_or (get_or rows t []) (get_or columns s 0) 0 ≡ cond (eqb t s) 1 0
  entry_is s t inside below =
      let small : s < length columns = omega (arith, inside, count) in
      sym (get_or-map (λ column. get_or (get_or rows t []) column 0) columns s 0 0 small)
      ∙ ap (λ (v : List ℕ). get_or v s 0) (identity t below)
      ∙ listed_at (length columns) (λ j. cond (eqb t j) 1 0) s 0 small

  pub one_at_identity : (t : ℕ) → t < length rows → matrix_of K rows t (get_or columns t 0) ≡ (gf o).one
  one_at_identity t below =
      ap (element K) (entry_is t t below below ∙ ap (λ b. cond b 1 0) (eq-eqb t t refl)) ∙ element_one K

  pub zero_at_identity : (s t : ℕ) → s < length rows → t < length rows → s ≢ t → matrix_of K rows t (get_or columns s 0) ≡ (gf o).zero
  zero_at_identity s t inside below other =
      ap (element K) (entry_is s t inside below ∙ ap (λ b. cond b 1 0) (ne_eqb t s (λ same. other (sym same)))) ∙ element_zero K

-- rows that are the identity at the pivots are the reduced basis
reduced_at_identity : (rows : MatrixValue) (e : EchelonValue) (columns : List ℕ) → IsSpanOfRows rows e → ArePivotColumns e columns →
    length columns ≡ length rows.rows → IsIdentityAt columns rows.rows → IsReducedMatrix e rows
reduced_at_identity rows e columns span pivots count identity = record { field = sym span.field; columns = sym span.columns; basis = basis }
  where
    basis : IsReducedBasis (number_field e.order) e.rows rows.rows
    basis = record {
      pivots = λ s. get_or columns s 0;
      are_pivots = subst (λ r. Reduced.IsAscendingListOf (IsPivot (number_field e.order) e.rows) r (λ s. get_or columns s 0)) count pivots;
      in_span = subst (λ o. Spans.SpanWithin (gf o) (length rows.rows) (matrix_of (number_field o) rows.rows) (length e.rows)
          (matrix_of (number_field o) e.rows)) (sym span.field) span.same.forth;
      one = one_at_identity e.order columns rows.rows count identity;
      zero = zero_at_identity e.order columns rows.rows count identity;
    }

-- and their coordinates are the entries there
pub coordinates_at_identity : (rows : MatrixValue) (e : EchelonValue) (columns : List ℕ) → IsMatrix rows → IsSpanOfRows rows e →
    ArePivotColumns e columns → length columns ≡ length rows.rows → IsIdentityAt columns rows.rows →
    AreCoordinateColumns (number_field rows.order) rows.cols rows.rows columns
coordinates_at_identity rows e columns rows_h span pivots count identity =
    coordinates_of_reduced e rows columns span.well_formed (reduced_at_identity rows e columns span pivots count identity) rows_h pivots
