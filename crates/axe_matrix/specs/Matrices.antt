-- Matrices over one of the seven fields.
use Rattle.std.specs.Prelude.{◌≡◌, ℕ, ◌+◌, ◌<◌, ◌≤◌, ◌==◌, ◌&&◌, not, List, [], ◌++◌, length, take, drop, reverse}
use Rattle.std.specs.Prelude.{slice_index_or, get_or, map, All, Bool}
use Rattle.std.specs.Prelude.{Option, Some, None, if◌then◌else◌}
use Rattle.std.specs.List.{list_all}
use Rattle.axe_algebra.specs.Lists.{entry, listed, table}
use Rattle.axe_algebra.specs.ListArithmetic.{combination, product, matrix_sum, transpose, identity}
use Rattle.axe_field.specs.Order.{Order, order_number, IsElement}
use Rattle.axe_field.specs.NumberFields.{number_field}
use Rattle.axe_row.specs.Rows.{RowValue}
use Rattle.axe_row.specs.declared.refusals.Refusal.{Refusal}
use Rattle.axe_row.specs.declared.refusals.Refusal.TheVariants.{FieldsDiffer, ShapesDiffer, NoRows}
use Rattle.axe_matrix.specs.Limits.{most_rows, most_columns}

-- a matrix: the order of its field, how many columns it has, and the list of its rows, each the list of its entries'
-- numbers (any linear algebra text)
pub record MatrixValue : Type 0 where
  pub order : Order
  pub cols : ℕ
  pub rows : List (List ℕ)

-- there is a column, no more rows and columns than the limits allow, each row has an entry in each column, and each
-- entry is an element of the field
pub record IsMatrix (m : MatrixValue) : Type 0 where
  pub some_column : 1 ≤ m.cols
  pub columns_fit : m.cols ≤ most_columns
  pub rows_fit : length m.rows ≤ most_rows
  pub row_lengths : All (λ row. length row ≡ m.cols) m.rows
  pub elements : All (All (IsElement m.order)) m.rows

-- the matrix after is the one before with some first rows of another after its own, and not all
pub record HasFirstRows (before other after : MatrixValue) : Type 0 where
  pub count : ℕ
  pub not_all : count < length other.rows
  pub rows : after ≡ record before { rows = before.rows ++ take count other.rows }

-- the first `count` rows of a matrix, or all where there are no more, and those after them
pub record AreSplit (m : MatrixValue) (count : ℕ) (first after : MatrixValue) : Type 0 where
  pub first_rows : first ≡ record m { rows = take count m.rows }
  pub rows_after : after ≡ record m { rows = drop count m.rows }

-- row i of a matrix, counted from 0, as a row vector
abbrev pub row_of : MatrixValue → ℕ → RowValue
row_of m i = record { order = m.order; entries = slice_index_or m.rows i [] }

-- column j of a matrix, counted from 0, as a row vector
abbrev pub column_of : MatrixValue → ℕ → RowValue
column_of m j = record { order = m.order; entries = listed (length m.rows) (λ i. entry m.rows i j) }

-- why two matrices have no product: they are over different fields, or else the first has not as many columns as the
-- second has rows
abbrev pub product_refusal : MatrixValue → MatrixValue → Option Refusal
product_refusal a b =
    if not (order_number a.order == order_number b.order) then Some FieldsDiffer
    else (if not (a.cols == length b.rows) then Some ShapesDiffer else None)

-- the product of two matrices: entry i, j is the sum over t of entry i, t of the first times entry t, j of the second
-- (any linear algebra text)
abbrev pub matrix_product : MatrixValue → MatrixValue → MatrixValue
matrix_product a b =
    record { order = a.order; cols = b.cols; rows = product (number_field a.order) b.cols a.rows b.rows }

-- a row vector times a matrix: entry j is the sum over t of entry t of the vector times entry t, j of the matrix (any
-- linear algebra text)
abbrev pub vector_product : RowValue → MatrixValue → RowValue
vector_product v m = record { order = m.order; entries = combination (number_field m.order) m.cols v.entries m.rows }

-- the matrix of so many rows and columns of zeros
abbrev pub zero_matrix : Order → ℕ → ℕ → MatrixValue
zero_matrix order rows cols = record { order = order; cols = cols; rows = table rows cols (λ i j. 0) }

-- the identity matrix of n rows: 1 where row and column agree, 0 elsewhere (any linear algebra text)
abbrev pub identity_matrix : Order → ℕ → MatrixValue
identity_matrix order n = record { order = order; cols = n; rows = identity n }

-- a matrix with its rows in the opposite order
abbrev pub reversed_matrix : MatrixValue → MatrixValue
reversed_matrix m = record { order = m.order; cols = m.cols; rows = reverse m.rows }

-- a matrix, with its rows in the opposite order where that is asked
abbrev pub lines_of : Bool → MatrixValue → MatrixValue
lines_of from_last m = if from_last then reversed_matrix m else m

-- the block of a matrix that has so many rows from a row on, and so many columns from a column on: its entry i, j is
-- the matrix's entry row + i, column + j
abbrev pub matrix_block : MatrixValue → ℕ → ℕ → ℕ → ℕ → MatrixValue
matrix_block m row rows column cols =
    record { order = m.order; cols = cols; rows = table rows cols (λ i j. entry m.rows (row + i) (column + j)) }

-- the matrix of the rows of a matrix at these places, in their order
abbrev pub rows_at : List ℕ → MatrixValue → MatrixValue
rows_at places m = record { order = m.order; cols = m.cols; rows = map (λ place. get_or m.rows place []) places }

-- the entries of a vector at these columns, in their order
abbrev pub entries_at : List ℕ → List ℕ → List ℕ
entries_at columns v = map (λ column. get_or v column 0) columns

-- the matrix of these columns of a matrix, in their order: each row has the entries of the matrix's row there
abbrev pub columns_at : List ℕ → MatrixValue → MatrixValue
columns_at columns m = record {
  order = m.order;
  cols = length columns;
  rows = listed (length m.rows) (λ i. entries_at columns (get_or m.rows i []));
}

-- each entry of each row is 0
abbrev pub has_only_zeros : List (List ℕ) → Bool
has_only_zeros rows = list_all (list_all (λ number. number == 0)) rows

-- why two matrices have no sum: they are over different fields, or else of different shapes
abbrev pub sum_refusal : MatrixValue → MatrixValue → Option Refusal
sum_refusal a b =
    if not (order_number a.order == order_number b.order) then Some FieldsDiffer
    else (if not (length a.rows == length b.rows && a.cols == b.cols) then Some ShapesDiffer else None)

-- the sum of two matrices, entry by entry (any linear algebra text)
abbrev pub sum_of_matrices : MatrixValue → MatrixValue → MatrixValue
sum_of_matrices a b =
    record { order = a.order; cols = a.cols; rows = matrix_sum (number_field a.order) a.cols a.rows b.rows }

-- why a matrix has no transpose: without rows the transpose had no columns
abbrev pub transpose_refusal : MatrixValue → Option Refusal
transpose_refusal m = if length m.rows == 0 then Some NoRows else None

-- the transpose of a matrix: its entry i, j is the matrix's entry j, i (any linear algebra text)
abbrev pub transposed_matrix : MatrixValue → MatrixValue
transposed_matrix m = record { order = m.order; cols = length m.rows; rows = transpose m.cols m.rows }
