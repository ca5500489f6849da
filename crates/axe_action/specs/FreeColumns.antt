-- The columns that are no pivots of a span, and rows modulo that span (Parker 1984).
use Rattle.std.specs.Prelude.{◌≡◌, ◌≢◌, ℕ, ◌+◌, ◌<◌, ◌⊎◌, List, [], length, get_or}
use Rattle.axe_algebra.specs.Bridge.{matrix_of}
use Rattle.axe_algebra.specs.Reduced.{IsAscendingListOf}
use Rattle.axe_algebra.specs.Actions.{IsFree}
use Rattle.axe_algebra.specs.Lists.{IsVectorOver, unit_row}
use Rattle.axe_algebra.specs.SpansOfLists.{IsRepresentative}
use Rattle.axe_field.specs.Arithmetic.{field_neg}
use Rattle.axe_field.specs.NumberFields.{number_field, gf}
use Rattle.axe_matrix.specs.Matrices.{MatrixValue, IsMatrix, columns_at, rows_at}
use Rattle.axe_matrix.specs.Products.{matrix_with_product}
use Rattle.axe_echelon.specs.Echelons.{EchelonValue, IsReducedMatrix}
use Rattle.axe_action.specs.Coordinates.{ArePivotColumns, AreCoordinateColumns}

-- the column is no pivot of the rows' span
abbrev pub IsFreeColumn : EchelonValue → ℕ → Type 0
IsFreeColumn e j = IsFree (gf e.order) e.cols (length e.rows) (matrix_of (number_field e.order) e.rows) j

-- these are the columns that are no pivots of the rows' span, ascending
abbrev pub AreFreeColumns : EchelonValue → List ℕ → Type 0
AreFreeColumns e columns = IsAscendingListOf (IsFreeColumn e) (length columns) (λ t. get_or columns t 0)

-- the row has the entries at these columns of the representative of v modulo the rows' span
pub record IsRowModulo (e : EchelonValue) (columns v row : List ℕ) : Type 0 where
  pub fits : length row ≡ length columns
  pub representative : List ℕ
  pub over : IsVectorOver (number_field e.order) e.cols representative
  pub represents : IsRepresentative (number_field e.order) e.rows v representative
  pub entries : (s : ℕ) → s < length columns → get_or row s 0 ≡ get_or representative (get_or columns s 0) 0

-- the matrix has as its rows the first i of these vectors modulo the rows' span
pub record HasRowsModulo (e : EchelonValue) (columns : List ℕ) (vectors : ℕ → List ℕ) (i : ℕ) (matrix : MatrixValue) :
    Type 0 where
  pub field : matrix.order ≡ e.order
  pub width : matrix.cols ≡ length columns
  pub count : length matrix.rows ≡ i
  pub well_formed : IsMatrix matrix
  pub each : (t : ℕ) → t < i → IsRowModulo e columns (vectors t) (get_or matrix.rows t [])

-- the matrix has as its rows all unit vectors modulo the rows' span, in order
abbrev pub HasUnitsModulo : EchelonValue → List ℕ → MatrixValue → Type 0
HasUnitsModulo e columns matrix = HasRowsModulo e columns (unit_row e.cols) e.cols matrix

-- the rows of a matrix, as the rows of a span
abbrev pub rows_to_span : MatrixValue → EchelonValue
rows_to_span rows = record { order = rows.order; cols = rows.cols; rows = rows.rows }

-- the row of g with the index that is number t of the list
abbrev pub row_at : List (List ℕ) → List ℕ → ℕ → List ℕ
row_at g indices t = get_or g (get_or indices t 0) []

-- the rows of g at these columns, modulo a span with these pivots and no others than them, by the entries of its
-- reduced basis at the columns: the rows' entries at the columns, minus their entries at the pivots times those (the
-- reduced row echelon form of any linear algebra text)
abbrev pub matrix_modulo : List ℕ → List ℕ → MatrixValue → MatrixValue → MatrixValue
matrix_modulo pivots columns entries g =
    matrix_with_product (columns_at columns (rows_at columns g)) (field_neg g.order 1)
    (columns_at pivots (rows_at columns g)) entries

-- the rows are the reduced basis of their span, with its pivots at these columns, so that there the entries of a vector
-- of the span are its coordinates (the reduced row echelon form of any linear algebra text)
pub record AreReducedAt (rows : MatrixValue) (columns : List ℕ) : Type 0 where
  pub pivots : ArePivotColumns (rows_to_span rows) columns
  pub reduced : IsReducedMatrix (rows_to_span rows) rows
  pub coordinates : AreCoordinateColumns (number_field rows.order) rows.cols rows.rows columns

-- the column is one of a list
abbrev pub IsListedColumn : List ℕ → ℕ → Type 0
IsListedColumn columns j = (t : ℕ) × (t < length columns) × (get_or columns t 0 ≡ j)

-- the pivots and the other columns of vectors of length n, both ascending: each column is one of them
pub record AreComplementary (n : ℕ) (pivots columns : List ℕ) : Type 0 where
  pub pivots_ascend : (s t : ℕ) → s < t → t < length pivots → get_or pivots s 0 < get_or pivots t 0
  pub columns_ascend : (s t : ℕ) → s < t → t < length columns → get_or columns s 0 < get_or columns t 0
  pub pivots_below : (t : ℕ) → t < length pivots → get_or pivots t 0 < n
  pub columns_below : (t : ℕ) → t < length columns → get_or columns t 0 < n
  pub apart : (s t : ℕ) → s < length pivots → t < length columns → get_or pivots s 0 ≢ get_or columns t 0
  pub every : (j : ℕ) → j < n → IsListedColumn pivots j ⊎ IsListedColumn columns j

-- the next pivot that was not taken, after so many that were and so many other columns, is the next column
abbrev pub IsNextPivot : List ℕ → ℕ → ℕ → Type 0
IsNextPivot pivots taken passed = (taken < length pivots) × (get_or pivots taken 0 ≡ taken + passed)

-- a reduced basis with these pivots times g, at the pivots, by the basis's entries at the other columns: the rows of g
-- at the pivots, plus the entries times the rows of g at the other columns (the reduced row echelon form of any linear
-- algebra text)
abbrev pub matrix_within : List ℕ → List ℕ → MatrixValue → MatrixValue → MatrixValue
matrix_within pivots columns entries g =
    matrix_with_product (columns_at pivots (rows_at pivots g)) 1 entries (columns_at pivots (rows_at columns g))
