-- Tables of the combinations of a few rows, by which products of matrices go.
use Rattle.std.specs.Prelude.{◌≡◌, ℕ, ◌+◌, ◌*◌, ◌^◌, ◌<◌, ◌≤◌, List, [], ◌∷◌, length, replicate, slice_index_or, All}
use Rattle.std.specs.Simd.Lanes.{chunk}
use Rattle.axe_algebra.specs.Digits.{digits, number_with_digits}
use Rattle.axe_algebra.specs.ListArithmetic.{combination}
use Rattle.axe_field.specs.Order.{Order, order_number, IsElement}
use Rattle.axe_field.specs.NumberFields.{number_field}
use Rattle.axe_row.specs.ByteDigits.{digits_per_byte}
use Rattle.axe_row.specs.Operations.{multiple, row_with_multiple}
use Rattle.axe_row.specs.Rows.{RowValue}

-- a table of rows: the order of their field, how many rows it combines at most, how many entries each of its rows has,
-- and its rows
pub record CombosValue : Type 0 where
  pub order : Order
  pub size : ℕ
  pub len : ℕ
  pub rows : List (List ℕ)

-- how many rows a table combines at most: so many that a byte has room for the numbers of the combinations
abbrev pub most_combined : Order → ℕ
most_combined o = digits_per_byte o

-- the table of q^size rows of so many zeros
abbrev pub zero_table : Order → ℕ → ℕ → CombosValue
zero_table o size len =
    record { order = o; size = size; len = len; rows = replicate (order_number o ^ size) (replicate len 0) }

-- there are q^size rows, each a row vector over the field with `len` entries, and the first is zero
pub record IsTableOfRows (table : CombosValue) : Type 0 where
  pub size_fits : table.size ≤ most_combined table.order
  pub counted : length table.rows ≡ order_number table.order ^ table.size
  pub row_lengths : All (λ row. length row ≡ table.len) table.rows
  pub elements : All (All (IsElement table.order)) table.rows
  pub zero_first : slice_index_or table.rows 0 [] ≡ replicate table.len 0

-- row x of a table, counted from 0, as a row vector
abbrev pub combination_at : CombosValue → ℕ → RowValue
combination_at table x = record { order = table.order; entries = slice_index_or table.rows x [] }

-- the table combines these rows: for each i below q^s, where s is how many they are, its row i is the combination whose
-- coefficients are the digits of i in base q, most significant first (the "greasing" of Parker 1984, also known as the
-- method of the four Russians)
pub record Combines (rows : List (List ℕ)) (table : CombosValue) : Type 0 where
  pub combined : (i : ℕ) → i < order_number table.order ^ length rows →
      slice_index_or table.rows i []
      ≡ combination (number_field table.order) table.len (digits (order_number table.order) (length rows) i) rows

-- two tables are of one kind: over one field, of rows of one length, and for as many rows to be combined
pub record AreOfOneKind (a b : CombosValue) : Type 0 where
  pub order : a.order ≡ b.order
  pub size : a.size ≡ b.size
  pub len : a.len ≡ b.len

-- row x of the table may be added to this row
pub record IsRowFor (row : RowValue) (table : CombosValue) (x : ℕ) : Type 0 where
  pub within : x < length table.rows
  pub field : table.order ≡ row.order
  pub fits : table.len ≡ length row.entries

-- a row plus four others
abbrev pub row_with_four : RowValue → RowValue → RowValue → RowValue → RowValue → RowValue
row_with_four row a b c d =
    row_with_multiple (row_with_multiple (row_with_multiple (row_with_multiple row 1 a) 1 b) 1 c) 1 d

-- the number of the combination that a piece of a row names: the entries from an index on, `size` of them or those that
-- there are, each times c, are its digits in base q, most significant first
abbrev pub piece_number : RowValue → ℕ → ℕ → ℕ → ℕ
piece_number row c size at =
    number_with_digits (order_number row.order) (multiple (number_field row.order) c (chunk at size row.entries))

-- the numbers of four pieces of a row of one size, one after another from an index on
abbrev pub piece_numbers : RowValue → ℕ → ℕ → ℕ → List ℕ
piece_numbers row c size at =
    piece_number row c size at ∷ piece_number row c size (at + size) ∷ piece_number row c size (at + 2 * size)
    ∷ piece_number row c size (at + 3 * size) ∷ []
