-- Rows of an echelon form that move one by one into the reduced basis.
use Rattle.std.specs.Prelude.{◌≡◌, ◌≢◌, ℕ, ◌+◌, ◌<◌, ◌≤◌, List, All, length, slice_index, slice_index_or, slice_set}
use Rattle.axe_algebra.specs.Bridge.{vector_of}
use Rattle.axe_algebra.specs.Lists.{IsVectorOver}
use Rattle.axe_algebra.specs.SpansOfLists.{IsSpanned}
use Rattle.axe_field.specs.Order.{Order}
use Rattle.axe_field.specs.NumberFields.{number_field, gf}
use Rattle.axe_row.specs.Rows.{RowValue}
use Rattle.axe_matrix.specs.Limits.{most_columns}
use Rattle.axe_echelon.specs.PivotTables.{marks_of, HasRoom}
use Rattle.axe_echelon.specs.declared.pivot_table.PivotTable.{PivotTable}
use Rattle.axe_echelon.specs.declared.subspace.PivotRow.{PivotRow}

-- a row over the field, of so many columns, that is 1 at its pivot and 0 before it
pub record IsLeadingRow (order : Order) (cols : ℕ) (p : PivotRow) : Type 0 where
  pub field : p.row.order ≡ order
  pub over : IsVectorOver (number_field order) cols p.row.entries
  pub place : p.pivot < cols
  pub one : vector_of (number_field order) p.row.entries p.pivot ≡ (gf order).one
  pub before : (i : ℕ) → i < p.pivot → vector_of (number_field order) p.row.entries i ≡ (gf order).zero

-- the row at an index has its pivot at this column
pub record HasPivotAt (rows : List PivotRow) (column index : ℕ) : Type 0 where
  pub within : index < length rows
  pub pivot : (p : PivotRow) → p ≡ slice_index_or rows index p → p.pivot ≡ column

-- rows that lead, in any order, and no more than a matrix may have columns; the table has the index of one for each
-- column that it marks, from a column on
pub record HasRowsFrom (order : Order) (cols column : ℕ) (rows : List PivotRow) (table : PivotTable) : Type 0 where
  pub each : All (IsLeadingRow order cols) rows
  pub few : length rows ≤ most_columns
  pub room : (j : ℕ) → slice_index (marks_of table) j ≢ 0 → HasRoom cols table
  pub found : (j : ℕ) → column ≤ j → slice_index (marks_of table) j ≢ 0 →
      HasPivotAt rows j (slice_index table.rows.items j)

-- the row at the index that the table has for a column was taken out, and the last one put into its place; the table
-- then has that index for the pivot of the latter, and its marks and blocks stay
pub record IsTakenOut (rows : List PivotRow) (table : PivotTable) (column : ℕ)
    (after : List PivotRow) (told : PivotTable) (row : RowValue) : Type 0 where
  pub taken : (p : PivotRow) → p ≡ slice_index_or rows (slice_index table.rows.items column) p → row ≡ p.row
  pub count : length after + 1 ≡ length rows
  pub others : (k : ℕ) (p : PivotRow) → k ≢ slice_index table.rows.items column → k < length after →
      slice_index_or after k p ≡ slice_index_or rows k p
  pub moved : (p : PivotRow) → slice_index table.rows.items column < length after →
      slice_index_or after (slice_index table.rows.items column) p ≡ slice_index_or rows (length after) p
  pub marks : marks_of told ≡ marks_of table
  pub blocks : told.blocks.items ≡ table.blocks.items
  pub noted : (p : PivotRow) → slice_index table.rows.items column < length after →
      p ≡ slice_index_or after (slice_index table.rows.items column) p →
      told.rows.items ≡ slice_set table.rows.items p.pivot (slice_index table.rows.items column)
  pub kept : length after ≤ slice_index table.rows.items column → told.rows.items ≡ table.rows.items

-- a row that is 0 at the marked columns after one, at which rows lead, and otherwise the first row plus a combination
-- of rows that are 0 up to this column
pub record IsClearedAfter (order : Order) (cols column : ℕ) (rows : List PivotRow) (table : PivotTable)
    (first row : RowValue) : Type 0 where
  pub field : row.order ≡ order
  pub over : IsVectorOver (number_field order) cols row.entries
  pub before : (i : ℕ) → i ≤ column →
      vector_of (number_field order) row.entries i ≡ vector_of (number_field order) first.entries i
  pub zeros : (j : ℕ) → column < j → slice_index (marks_of table) j ≢ 0 →
      vector_of (number_field order) row.entries j ≡ (gf order).zero
  pub spanned : (vectors : List (List ℕ)) →
      All (λ (p : PivotRow). IsSpanned (number_field order) vectors p.row.entries) rows →
      IsSpanned (number_field order) vectors first.entries → IsSpanned (number_field order) vectors row.entries
