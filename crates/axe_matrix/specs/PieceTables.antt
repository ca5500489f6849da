-- Four tables of combinations of pieces of a matrix's rows, by which products are added, and the numbers of pieces of
-- another's rows, which name these combinations.
use Rattle.std.specs.Prelude.{◌≡◌, ℕ, ◌+◌, ◌*◌, ◌<◌, ◌≤◌, List, [], length, slice_index_or}
use Rattle.std.specs.Simd.Lanes.{chunk}
use Rattle.axe_field.specs.Order.{Order}
use Rattle.axe_row.specs.Combinations.{CombosValue, Combines, IsTableOfRows, piece_numbers}
use Rattle.axe_matrix.specs.Matrices.{MatrixValue, row_of}
use Rattle.axe_matrix.specs.declared.products.FourTables.{FourTables}

-- a table for the combinations of up to so many rows of so many entries over a field
pub record IsTableFor (order : Order) (len size : ℕ) (table : CombosValue) : Type 0 where
  pub field : table.order ≡ order
  pub long : table.len ≡ len
  pub combined : table.size ≡ size
  pub well_formed : IsTableOfRows table

-- four such tables, each for as many rows as is noted beside them
pub record AreTablesFor (order : Order) (len : ℕ) (tables : FourTables) : Type 0 where
  pub some : 1 ≤ tables.size
  pub first : IsTableFor order len tables.size tables.first
  pub second : IsTableFor order len tables.size tables.second
  pub third : IsTableFor order len tables.size tables.third
  pub fourth : IsTableFor order len tables.size tables.fourth

-- the tables combine four pieces of these rows, one after another from an index on; a piece may be short, or empty
pub record CombineFrom (at : ℕ) (rows : List (List ℕ)) (tables : FourTables) : Type 0 where
  pub first : Combines (chunk at tables.size rows) tables.first
  pub second : Combines (chunk (at + tables.size) tables.size rows) tables.second
  pub third : Combines (chunk (at + 2 * tables.size) tables.size rows) tables.third
  pub fourth : Combines (chunk (at + 3 * tables.size) tables.size rows) tables.fourth

-- for each row of a matrix, the numbers of its four pieces of so many entries from a column on
pub record ArePieceNumbers (m : MatrixValue) (size at : ℕ) (numbers : List (List ℕ)) : Type 0 where
  pub count : length numbers ≡ length m.rows
  pub each : (i : ℕ) → i < length m.rows → slice_index_or numbers i [] ≡ piece_numbers (row_of m i) 1 size at

-- those of a matrix's columns in blocks of four times so many, one block after another until all columns are in one
pub record AreBlockNumbers (m : MatrixValue) (size : ℕ) (blocks : List (List (List ℕ))) : Type 0 where
  pub all : m.cols ≤ length blocks * (4 * size)
  pub each : (k : ℕ) → k < length blocks →
      ArePieceNumbers m size (k * (4 * size)) (slice_index_or blocks k [])
