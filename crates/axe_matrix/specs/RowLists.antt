-- A matrix as a list of rows, each of which knows its field.
use Rattle.std.specs.Prelude.{◌≡◌, ℕ, List, All, length, map}
use Rattle.axe_field.specs.Order.{Order}
use Rattle.axe_row.specs.Rows.{RowValue, IsRow}
use Rattle.axe_matrix.specs.Matrices.{MatrixValue, IsMatrix}

-- the matrix with these rows
abbrev pub matrix_from_rows : Order → ℕ → List RowValue → MatrixValue
matrix_from_rows order cols rows = record { order = order; cols = cols; rows = map (λ row. row.entries) rows }

-- the rows are over the field, and make a matrix
pub record MakeMatrix (order : Order) (cols : ℕ) (rows : List RowValue) : Type 0 where
  pub one_field : All (λ row. row.order ≡ order) rows
  pub matrix : IsMatrix (matrix_from_rows order cols rows)

-- these are the rows of a matrix in their order, each over its field and with an entry in each column
pub record AreRowsOf (m : MatrixValue) (rows : List RowValue) : Type 0 where
  pub entries : map (λ row. row.entries) rows ≡ m.rows
  pub one_field : All (λ row. row.order ≡ m.order) rows
  pub as_long : All (λ row. length row.entries ≡ m.cols) rows
  pub well_formed : All IsRow rows
