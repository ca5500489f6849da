-- Vectors that are orthogonal to the rows of an echelon form.
use Rattle.std.specs.Prelude.{◌≡◌, ◌≢◌, ℕ, ◌<◌, [], length, get_or, Option, Some, None, ⊤}
use Rattle.axe_algebra.specs.Reduced
use Rattle.axe_algebra.specs.Bridge.{vector_of, matrix_of}
use Rattle.axe_algebra.specs.Lists.{entry, IsVectorOver}
use Rattle.axe_algebra.specs.SpansOfLists.{IsPivot, IsInAnnihilator}
use Rattle.axe_field.specs.NumberFields.{number_field, gf}
use Rattle.axe_lane.specs.Entries.{IsFirstNonzero}
use Rattle.axe_row.specs.Rows.{RowValue}
use Rattle.axe_matrix.specs.Matrices.{MatrixValue}
use Rattle.axe_echelon.specs.Echelons.{EchelonValue, IsReducedMatrix}
use Rattle.axe_echelon.specs.Mirrored.{mirrored_row, IsOrthogonalMirrored}

-- the row of the echelon form at an index has its pivot at this column: its first entry other than 0, which is 1; the
-- rows after it are 0 there, and the column is a pivot of the span
pub record IsPivotOfRow (e : EchelonValue) (index column : ℕ) : Type 0 where
  pub first : IsFirstNonzero (get_or e.rows index []) column
  pub one : entry e.rows index column ≡ 1
  pub cleared : (t : ℕ) → index < t → t < length e.rows → entry e.rows t column ≡ 0
  pub is_pivot : IsPivot (number_field e.order) e.rows column

-- the matrix has as its rows the reduced basis of all vectors that are orthogonal to the space when they are read from
-- the last entry to the first
pub record IsOrthogonalToSpace (e : EchelonValue) (m : MatrixValue) : Type 0 where
  pub field : m.order ≡ e.order
  pub columns : m.cols ≡ e.cols
  pub basis : Reduced.IsReducedBasisOf (gf e.order)
      (IsOrthogonalMirrored (gf e.order) e.cols (length e.rows) (matrix_of (number_field e.order) e.rows))
      (length m.rows) (matrix_of (number_field e.order) m.rows)

-- the vector is orthogonal to the space, 1 at one column that is no pivot of it and 0 at all others of them
pub record IsOrthogonalVector (e : EchelonValue) (column : ℕ) (v : RowValue) : Type 0 where
  pub field : v.order ≡ e.order
  pub over : IsVectorOver (number_field e.order) e.cols v.entries
  pub orthogonal : IsInAnnihilator (number_field e.order) e.cols e.rows v.entries
  pub one : vector_of (number_field e.order) v.entries column ≡ (gf e.order).one
  pub zeros : (j : ℕ) → ¬ (IsPivot (number_field e.order) e.rows j) → j ≢ column →
      vector_of (number_field e.order) v.entries j ≡ (gf e.order).zero

-- it is so when it is read from the last entry to the first
abbrev pub IsMirroredVector : EchelonValue → ℕ → RowValue → Type 0
IsMirroredVector e column v = IsOrthogonalVector e column (mirrored_row v)

-- the reduced basis of the space, where it was made
abbrev pub IsReducedBasisOrNone : EchelonValue → Option MatrixValue → Type 0
IsReducedBasisOrNone e None = ⊤
IsReducedBasisOrNone e (Some basis) = IsReducedMatrix e basis
