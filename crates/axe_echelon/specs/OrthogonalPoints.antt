-- The first point of the space of all vectors that are orthogonal to given rows: of the null space of a transpose.
use Rattle.std.specs.Prelude.{◌≡◌, ℕ, ◌-◌, ◌<◌, length, Option, Some, None}
use Rattle.axe_algebra.specs.SpansOfLists.{IsPivot}
use Rattle.axe_field.specs.NumberFields.{number_field}
use Rattle.axe_row.specs.Rows.{RowValue}
use Rattle.axe_matrix.specs.Matrices.{MatrixValue, IsMatrix, row_of, transposed_matrix}
use Rattle.axe_echelon.specs.Echelons.{EchelonValue, IsNullSpaceMatrix}

-- the first point of a space with this reduced basis: the basis's last row, or none where it has no rows. A point is a
-- vector other than zero, one of each subspace of dimension 1 (Parker 1984)
abbrev pub IsFirstPointOf : MatrixValue → Option RowValue → Type 0
IsFirstPointOf basis None = length basis.rows ≡ 0
IsFirstPointOf basis (Some point) = (0 < length basis.rows) × (point ≡ row_of basis (length basis.rows - 1))

-- the first point of the space of all vectors that are orthogonal to the rows, by the reduced basis of that space, of
-- which there is exactly one
pub record IsOrthogonalPoint (rows : MatrixValue) (point : Option RowValue) : Type 0 where
  pub basis : MatrixValue
  pub is_basis : IsNullSpaceMatrix (transposed_matrix rows) basis
  pub well_formed : IsMatrix basis
  pub first : IsFirstPointOf basis point

-- a column that is no pivot of the space, where all before it are
pub record IsFirstFreeColumn (e : EchelonValue) (column : ℕ) : Type 0 where
  pub within : column < e.cols
  pub no_pivot : ¬ (IsPivot (number_field e.order) e.rows column)
  pub before : (j : ℕ) → j < column → IsPivot (number_field e.order) e.rows j

-- the first column that is no pivot of the space, or none where all columns are
abbrev pub IsFirstFreeOrNone : EchelonValue → Option ℕ → Type 0
IsFirstFreeOrNone e None = (j : ℕ) → j < e.cols → IsPivot (number_field e.order) e.rows j
IsFirstFreeOrNone e (Some column) = IsFirstFreeColumn e column
