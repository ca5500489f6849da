-- Subspaces, each by the rows of an echelon form of it.
use Rattle.std.specs.Prelude.{◌≡◌, ◌≢◌, ℕ, suc, ◌<◌, ◌≤◌, List, All, ◌++◌, ◌∷◌, [], length, get_or, map}
use Rattle.std.specs.Prelude.{Bool, if◌then◌else◌}
use Rattle.axe_algebra.specs.Vectors.{HasLength, add_vectors, subtract, times}
use Rattle.axe_algebra.specs.Spans.{InSpan}
use Rattle.axe_algebra.specs.Reduced.{IsZeroAtPivots}
use Rattle.axe_algebra.specs.Bridge.{vector_of, matrix_of}
use Rattle.axe_algebra.specs.Lists.{IsVectorOver}
use Rattle.axe_algebra.specs.SpansOfLists.{HaveSameSpan, IsSpanned, IsPivot}
use Rattle.axe_field.specs.Order.{Order, IsElement}
use Rattle.axe_field.specs.Arithmetic.{field_mul}
use Rattle.axe_field.specs.NumberFields.{number_field, gf}
use Rattle.axe_lane.specs.Entries.{IsFirstNonzero}
use Rattle.axe_row.specs.Operations.{multiple_row}
use Rattle.axe_row.specs.Rows.{RowValue, IsRow}
use Rattle.axe_matrix.specs.Limits.{most_columns}
use Rattle.axe_echelon.specs.Echelons.{EchelonValue}
use Rattle.axe_echelon.specs.Forms.{IsEchelonForm}
use Rattle.axe_echelon.specs.PivotTables.{HasPivots, HasBlocks}
use Rattle.axe_echelon.specs.declared.pivot_table.PivotTable.{PivotTable}
use Rattle.axe_echelon.specs.declared.subspace.PivotRow.{PivotRow}
use Rattle.axe_echelon.specs.declared.subspace.ScaledRow.{ScaledRow}

-- the new rows begin with the old ones
abbrev pub BeginWith : List (List ℕ) → List (List ℕ) → Type 0
BeginWith old new = (t : ℕ) → t < length old → get_or new t [] ≡ get_or old t []

-- the rows of e span what those of `old` span, and one more row where that is new; they are as many and one more
-- where it is new, and begin with those of `old`
pub record SpansOneMore (new : Bool) (old : EchelonValue) (row : List ℕ) (e : EchelonValue) : Type 0 where
  pub field : e.order ≡ old.order
  pub columns : e.cols ≡ old.cols
  pub same : HaveSameSpan (number_field old.order) (if new then old.rows ++ row ∷ [] else old.rows) e.rows
  pub count : length e.rows ≡ (if new then suc (length old.rows) else length old.rows)
  pub begins : BeginWith old.rows e.rows

-- the vectors that the rows are
abbrev pub rows_of : List PivotRow → List (List ℕ)
rows_of rows = map (λ (p : PivotRow). p.row.entries) rows

-- the pivots of the rows
abbrev pub pivots_of : List PivotRow → List ℕ
pivots_of rows = map (λ (p : PivotRow). p.pivot) rows

-- the space with these rows, over a field of this order and with so many columns
abbrev pub space_of : Order → ℕ → List PivotRow → EchelonValue
space_of order cols rows = record { order = order; cols = cols; rows = rows_of rows }

-- the row is over the field, and has an entry for each column
pub record IsRowOfForm (order : Order) (cols : ℕ) (p : PivotRow) : Type 0 where
  pub row_field : p.row.order ≡ order
  pub row_over : IsVectorOver (number_field order) cols p.row.entries

-- the rows are an echelon form
pub record AreFormRows (order : Order) (cols : ℕ) (rows : List PivotRow) : Type 0 where
  pub some_column : 1 ≤ cols
  pub columns_fit : cols ≤ most_columns
  pub each : All (IsRowOfForm order cols) rows
  pub form : IsEchelonForm (gf order) cols (length (rows_of rows)) (matrix_of (number_field order) (rows_of rows))
      (λ t. get_or (pivots_of rows) t 0)

-- the table has the pivots of the rows, and at each the block of its row
pub record AreTabledRows (order : Order) (cols : ℕ) (rows : List PivotRow) (table : PivotTable) : Type 0 where
  pub are_rows : AreFormRows order cols rows
  pub tabled : HasPivots cols (pivots_of rows) table
  pub has_blocks : HasBlocks rows table

-- a row that the echelon form of the space can have after its others: 1 at its pivot, 0 before it and at the pivots of the
-- space
pub record IsNextRow (e : EchelonValue) (p : PivotRow) : Type 0 where
  pub each : IsRowOfForm e.order e.cols p
  pub place : p.pivot < e.cols
  pub one : vector_of (number_field e.order) p.row.entries p.pivot ≡ (gf e.order).one
  pub before : (i : ℕ) → i < p.pivot → vector_of (number_field e.order) p.row.entries i ≡ (gf e.order).zero
  pub at_pivots : IsZeroAtPivots (gf e.order) (length e.rows) (matrix_of (number_field e.order) e.rows)
      (vector_of (number_field e.order) p.row.entries)

-- a row that is 0 at the pivots of the space before a column, in the coset of the first row
pub record IsReducedBelow (e : EchelonValue) (column : ℕ) (first row : RowValue) : Type 0 where
  pub field : row.order ≡ e.order
  pub over : IsVectorOver (number_field e.order) e.cols row.entries
  pub in_coset : InSpan (gf e.order) (length e.rows) (matrix_of (number_field e.order) e.rows)
      (subtract (gf e.order) (vector_of (number_field e.order) first.entries)
      (vector_of (number_field e.order) row.entries))
  pub zeros : (j : ℕ) → IsPivot (number_field e.order) e.rows j → j < column →
      vector_of (number_field e.order) row.entries j ≡ (gf e.order).zero

-- a row that is 0 at the pivots of the space before a column: it is the first row plus the combination of the space's
-- rows with these multipliers, which are 0 at each row that is 0 before the column
pub record IsClearedBelow (e : EchelonValue) (column : ℕ) (first row multipliers : RowValue) : Type 0 where
  pub row_field : row.order ≡ e.order
  pub multipliers_field : multipliers.order ≡ e.order
  pub row_over : IsVectorOver (number_field e.order) e.cols row.entries
  pub multipliers_over : IsVectorOver (number_field e.order) e.cols multipliers.entries
  pub offset : vector_of (number_field e.order) row.entries ≡
      add_vectors (gf e.order) (vector_of (number_field e.order) first.entries)
      (times (gf e.order) (length e.rows) (vector_of (number_field e.order) multipliers.entries) (matrix_of (number_field e.order) e.rows))
  pub zeros : (j : ℕ) → IsPivot (number_field e.order) e.rows j → j < column →
      vector_of (number_field e.order) row.entries j ≡ (gf e.order).zero
  pub no_others : (t : ℕ) → t < length e.rows →
      ((i : ℕ) → i < column → matrix_of (number_field e.order) e.rows t i ≡ (gf e.order).zero) →
      vector_of (number_field e.order) multipliers.entries t ≡ (gf e.order).zero
  pub few : HasLength (gf e.order) (length e.rows) (vector_of (number_field e.order) multipliers.entries)

-- a row from which all pivots were cleared: it is the first row plus the combination of the space's rows with these
-- multipliers
pub record IsCleared (e : EchelonValue) (first row multipliers : RowValue) : Type 0 where
  pub row_field : row.order ≡ e.order
  pub multipliers_field : multipliers.order ≡ e.order
  pub row_over : IsVectorOver (number_field e.order) e.cols row.entries
  pub multipliers_over : IsVectorOver (number_field e.order) e.cols multipliers.entries
  pub offset : vector_of (number_field e.order) row.entries ≡
      add_vectors (gf e.order) (vector_of (number_field e.order) first.entries)
      (times (gf e.order) (length e.rows) (vector_of (number_field e.order) multipliers.entries) (matrix_of (number_field e.order) e.rows))
  pub at_pivots : IsZeroAtPivots (gf e.order) (length e.rows) (matrix_of (number_field e.order) e.rows)
      (vector_of (number_field e.order) row.entries)
  pub few : HasLength (gf e.order) (length e.rows) (vector_of (number_field e.order) multipliers.entries)

-- what is left of a vector, times the scalar that makes its first entry other than 0, at the pivot, 1
pub record IsScaledRest (rest : RowValue) (scaled : ScaledRow) : Type 0 where
  pub leads : IsFirstNonzero rest.entries scaled.row.pivot
  pub element : IsElement rest.order scaled.scalar
  pub inverse : field_mul rest.order (get_or rest.entries scaled.row.pivot 0) scaled.scalar ≡ 1
  pub row : scaled.row.row ≡ multiple_row scaled.scalar rest
  pub row_well_formed : IsRow scaled.row.row

-- the vector of the span that is 1 at a pivot and 0 at all other pivots
pub record IsPivotRow (e : EchelonValue) (pivot : ℕ) (row : RowValue) : Type 0 where
  pub field : row.order ≡ e.order
  pub over : IsVectorOver (number_field e.order) e.cols row.entries
  pub in_span : IsSpanned (number_field e.order) e.rows row.entries
  pub one : vector_of (number_field e.order) row.entries pivot ≡ (gf e.order).one
  pub zeros : (j : ℕ) → IsPivot (number_field e.order) e.rows j → j ≢ pivot →
      vector_of (number_field e.order) row.entries j ≡ (gf e.order).zero
