-- The terms of the product of a row vector and a matrix that belong to the entries of one value.
use Rattle.std.specs.Prelude.{◌<◌, ◌≤◌, ℕ, zero, suc, List, length, map, cond, eqb, slice_index}
use Rattle.axe_row.specs.Operations.{row_with_multiple}
use Rattle.axe_row.specs.Rows.{RowValue}
use Rattle.axe_matrix.specs.Matrices.{MatrixValue, row_of}
use Rattle.axe_matrix.specs.declared.by_values.Waiting.{Waiting}

-- 1 where an entry is a value, and 0 at all others
unfoldable pub places_of_value : ℕ → List ℕ → List ℕ
places_of_value value entries = map (λ entry. cond (eqb entry value) 1 0) entries

-- the row vector with 1 where an entry of another is a value, and 0 at all others
abbrev pub vector_of_places : ℕ → RowValue → RowValue
vector_of_places value v = record { order = v.order; entries = places_of_value value v.entries }

-- a row plus the rows of a matrix at the first n of some indices
unfoldable pub row_with_rows_at : MatrixValue → RowValue → List ℕ → ℕ → RowValue
row_with_rows_at b row indices zero = row
row_with_rows_at b row indices (suc n) =
    row_with_multiple (row_with_rows_at b row indices n) 1 (row_of b (slice_index indices n))

-- a row plus the rows of a matrix that wait
abbrev pub row_with_waiting : MatrixValue → RowValue → Waiting → RowValue
row_with_waiting b row waiting = row_with_rows_at b row waiting.indices waiting.count

-- up to three rows of the matrix wait
pub record AreWaiting (b : MatrixValue) (waiting : Waiting) : Type 0 where
  pub few : waiting.count ≤ 3
  pub within : (i : ℕ) → i < waiting.count → slice_index waiting.indices i < length b.rows
