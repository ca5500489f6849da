-- Null spaces of matrices without their basis where they are large: what is asked of these is their first point.
use Rattle.std.specs.Prelude.{◌≡◌, ℕ, ◌-◌, ◌<◌, ◌≤◌, length}
use Rattle.axe_row.specs.Rows.{RowValue, IsRow}
use Rattle.axe_matrix.specs.Matrices.{MatrixValue, IsMatrix, row_of}
use Rattle.axe_echelon.specs.Echelons.{EchelonValue, IsNullSpaceMatrix}
use Rattle.axe_echelon.specs.Orthogonal.{IsOrthogonalToSpace, IsMirroredVector}
use Rattle.axe_echelon.specs.OrthogonalPoints.{IsFirstFreeColumn}
use Rattle.axe_echelon.specs.declared.first_points.NullPoints.{NullPoints}
use Rattle.axe_echelon.specs.declared.first_points.NullPoints.TheVariants.{Basis, First}

-- the matrix has as rows the reduced basis of the null space, which has no more than so many dimensions
pub record IsSmallNullSpace (m : MatrixValue) (most : ℕ) (basis : MatrixValue) : Type 0 where
  pub is_basis : IsNullSpaceMatrix m basis
  pub well_formed : IsMatrix basis
  pub small : length basis.rows ≤ most

-- the null space has more dimensions than so many, and the row is its first point, the last row of its reduced basis, of
-- which there is exactly one. A point is a vector other than zero, one of each subspace of dimension 1 (Parker 1984)
pub record IsFirstNullPoint (m : MatrixValue) (most : ℕ) (point : RowValue) : Type 0 where
  pub basis : MatrixValue
  pub is_basis : IsNullSpaceMatrix m basis
  pub well_formed : IsMatrix basis
  pub large : most < length basis.rows
  pub first : point ≡ row_of basis (length basis.rows - 1)
  pub row_well_formed : IsRow point

-- the null space of a matrix by its basis where it has no more than so many dimensions, and else by its first point
abbrev pub IsNullPoints : MatrixValue → ℕ → NullPoints → Type 0
IsNullPoints m most (Basis basis) = IsSmallNullSpace m most basis
IsNullPoints m most (First point) = IsFirstNullPoint m most point

-- ---- by a space of vectors, to which others are orthogonal when they are read from the last entry to the first

-- the space has no more than so many dimensions fewer than columns, and the matrix has as rows the reduced basis of all
-- vectors that are so orthogonal to it
pub record IsSmallOrthogonal (e : EchelonValue) (most : ℕ) (basis : MatrixValue) : Type 0 where
  pub orthogonal : IsOrthogonalToSpace e basis
  pub well_formed : IsMatrix basis
  pub small : e.cols - length e.rows ≤ most

-- the space has more, and the vector is so orthogonal to it, 1 at the first column that is no pivot of the space, and 0
-- at all others of them
pub record IsLargeOrthogonal (e : EchelonValue) (most : ℕ) (point : RowValue) : Type 0 where
  pub large : most < e.cols - length e.rows
  pub column : ℕ
  pub first_free : IsFirstFreeColumn e column
  pub vector : IsMirroredVector e column point

-- the one or the other
abbrev pub ArePointsOrthogonal : EchelonValue → ℕ → NullPoints → Type 0
ArePointsOrthogonal e most (Basis basis) = IsSmallOrthogonal e most basis
ArePointsOrthogonal e most (First point) = IsLargeOrthogonal e most point
