-- Strips of columns of a matrix, whose entries stand in lines of bytes or in a matrix of their own, and its first
-- columns as the rows of another.
use Rattle.std.specs.Prelude.{◌≡◌, ℕ, ◌+◌, ◌<◌, List, length}
use Rattle.axe_algebra.specs.Lists.{entry, listed}
use Rattle.axe_algebra.specs.ListArithmetic.{transpose}
use Rattle.axe_row.specs.Sums.{placed_row}
use Rattle.axe_matrix.specs.Matrices.{MatrixValue, row_of}

-- so many lines, of the first rows of a matrix: the first `width` numbers of each are the row's entries from column
-- `start` on, and what stands after them does not matter
pub record IsStrip (m : MatrixValue) (start width rows : ℕ) (lines : List (List ℕ)) : Type 0 where
  pub count : length lines ≡ rows
  pub entries : (i j : ℕ) → i < rows → j < width → entry lines i j ≡ entry m.rows i (start + j)

-- the first columns of a matrix as the rows of another: its entry i, j is the matrix's entry j, i
abbrev pub first_columns : MatrixValue → ℕ → MatrixValue
first_columns m count = record { order = m.order; cols = length m.rows; rows = transpose count m.rows }

-- the matrix of so many columns that has zeros before a column, a matrix's columns from there on, and zeros after them
abbrev pub placed_columns : ℕ → ℕ → MatrixValue → MatrixValue
placed_columns columns start m = record {
  order = m.order;
  cols = columns;
  rows = listed (length m.rows) (λ i. (placed_row columns start (row_of m i)).entries);
}
