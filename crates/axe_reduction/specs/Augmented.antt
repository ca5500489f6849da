-- Augmented matrices: each row of a matrix goes on, beyond a bar, with a row of a second one.
use Rattle.std.specs.Prelude.{◌≡◌, ℕ, ◌+◌, ◌<◌, ◌≤◌, List, [], ◌++◌, length, get_or}
use Rattle.axe_algebra.specs.Lists.{entry, listed, table, IsMatrixOver}
use Rattle.axe_field.specs.Order.{Order}
use Rattle.axe_field.specs.NumberFields.{number_field}
use Rattle.axe_matrix.specs.Limits.{most_rows, most_columns}
use Rattle.axe_matrix.specs.Matrices.{MatrixValue, IsMatrix, columns_at}
use Rattle.axe_matrix.specs.Products.{rows_with_product}

-- an augmented matrix: the order of its field, how many of its columns stand left of the bar, how many there are in
-- all, and the list of its rows (any linear algebra text)
pub record AugmentedValue : Type 0 where
  pub order : Order
  pub left : ℕ
  pub cols : ℕ
  pub rows : List (List ℕ)

-- on each side of the bar there are columns, no more than a matrix may have; nor are there more rows, and each of them
-- is a vector over the field with an entry in each column
pub record IsAugmented (a : AugmentedValue) : Type 0 where
  pub some_left : 1 ≤ a.left
  pub some_right : a.left < a.cols
  pub left_fits : a.left ≤ most_columns
  pub right_fits : a.cols ≤ a.left + most_columns
  pub rows_fit : length a.rows ≤ most_rows
  pub over : IsMatrixOver (number_field a.order) a.cols a.rows

-- the rows of a, each followed by the row of b at its index
unfoldable pub rows_beside : List (List ℕ) → List (List ℕ) → List (List ℕ)
rows_beside a b = listed (length a) (λ i. get_or a i [] ++ get_or b i [])

-- the matrix b beside the matrix a, with the bar between them
abbrev pub augmented : MatrixValue → MatrixValue → AugmentedValue
augmented a b = record { order = a.order; left = a.cols; cols = a.cols + b.cols; rows = rows_beside a.rows b.rows }

-- two matrices that stand beside one another: over one field, and with as many rows
pub record AreBeside (a b : MatrixValue) : Type 0 where
  pub field : b.order ≡ a.order
  pub as_many : length b.rows ≡ length a.rows
  pub left : IsMatrix a
  pub right : IsMatrix b

-- what stands right of the bar: its entry i, j is the entry i, left + j
abbrev pub right_part : AugmentedValue → ℕ → MatrixValue
right_part a cols = record {
  order = a.order;
  cols = cols;
  rows = table (length a.rows) cols (λ i j. entry a.rows i (a.left + j));
}

-- `count` of the rows, from row `start` on
abbrev pub some_rows : AugmentedValue → ℕ → ℕ → AugmentedValue
some_rows a start count = record a { rows = listed count (λ i. get_or a.rows (start + i) []) }

-- the matrix of these columns
abbrev pub entries_at_columns : AugmentedValue → List ℕ → MatrixValue
entries_at_columns a columns = columns_at columns (record { order = a.order; cols = a.cols; rows = a.rows })

-- the rows of a and then those of b
abbrev pub with_rows : AugmentedValue → AugmentedValue → AugmentedValue
with_rows a b = record a { rows = a.rows ++ b.rows }

-- a plus c times the product of the matrix `factors` and b
abbrev pub with_product : AugmentedValue → ℕ → MatrixValue → AugmentedValue → AugmentedValue
with_product a c factors b =
    record a { rows = rows_with_product (number_field a.order) a.cols a.rows c factors.rows b.rows }

-- two augmented matrices over one field, with the same columns and the bar at one place
pub record AreAlike (a b : AugmentedValue) : Type 0 where
  pub field : b.order ≡ a.order
  pub left : b.left ≡ a.left
  pub columns : b.cols ≡ a.cols
