-- Inverses of matrices.
use Rattle.std.specs.List.{Contains}
use Rattle.std.specs.Prelude.{◌≡◌, ℕ, ◌<◌, List, [], length, get_or, slice_index}
use Rattle.axe_algebra.specs.Lists.{IsSquareOver}
use Rattle.axe_algebra.specs.ListArithmetic.{IsInverse}
use Rattle.axe_field.specs.NumberFields.{number_field}
use Rattle.axe_matrix.specs.Matrices.{MatrixValue}

-- the matrix is the inverse of the square matrix m
pub record IsInverseMatrix (m inverse : MatrixValue) : Type 0 where
  pub field : inverse.order ≡ m.order
  pub columns : inverse.cols ≡ m.cols
  pub square : IsSquareOver (number_field m.order) m.cols inverse.rows
  pub inverts : IsInverse (number_field m.order) m.cols m.rows inverse.rows

-- the square matrix m has an inverse
abbrev pub IsInvertibleMatrix : MatrixValue → Type 0
IsInvertibleMatrix m = (inverse : MatrixValue) × IsInverseMatrix m inverse

-- `row` is the one of the rows whose pivot is j, where row t has pivot t of the list
pub record IsRowAtPivot (pivots : List ℕ) (rows : List (List ℕ)) (j : ℕ) (row : List ℕ) : Type 0 where
  pub place : ℕ
  pub within : place < length pivots
  pub pivot : get_or pivots place 0 ≡ j
  pub same : row ≡ get_or rows place []

-- a list of numbers below its length, and one as long, which has at each index that is one of them a place of it
pub record ArePlacesOf (numbers places : List ℕ) : Type 0 where
  pub count : length places ≡ length numbers
  pub within : (number : ℕ) → Contains numbers number → slice_index places number < length numbers
  pub found : (number : ℕ) → Contains numbers number → slice_index numbers (slice_index places number) ≡ number

-- `sorted` has n rows, and row j of them is the row of m whose pivot is j
pub record AreRowsByPivot (pivots : List ℕ) (m : MatrixValue) (n : ℕ) (sorted : MatrixValue) : Type 0 where
  pub field : sorted.order ≡ m.order
  pub columns : sorted.cols ≡ m.cols
  pub count : length sorted.rows ≡ n
  pub rows : (j : ℕ) → j < n → IsRowAtPivot pivots m.rows j (get_or sorted.rows j [])
