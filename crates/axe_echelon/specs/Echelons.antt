-- Echelon forms as callers see them: independent rows in the order in which they came.
use Rattle.std.specs.Prelude.{◌≡◌, ℕ, ◌≤◌, ◌==◌, List, [], ◌∷◌, ◌++◌, length, Bool, Option, Some, None, if◌then◌else◌}
use Rattle.axe_algebra.specs.Lists.{IsMatrixOver, IsVectorOver}
use Rattle.axe_algebra.specs.ListArithmetic.{combination}
use Rattle.axe_algebra.specs.NumberField.{NumberField}
use Rattle.axe_algebra.specs.SpansOfLists.{IsIndependent, IsNullSpaceBasis, IsReducedBasis, IsSpanned, HaveSameSpan}
use Rattle.axe_field.specs.Order.{Order}
use Rattle.axe_field.specs.NumberFields.{number_field}
use Rattle.axe_row.specs.Rows.{RowValue}
use Rattle.axe_row.specs.declared.refusals.Refusal.{Refusal}
use Rattle.axe_row.specs.declared.refusals.Refusal.TheVariants.{NotSquare, NoRows}
use Rattle.axe_matrix.specs.Limits.{most_columns}
use Rattle.axe_matrix.specs.Matrices.{MatrixValue}

-- the order of the field, the length of the rows, and independent rows: of an `Echelon` those for which insertion
-- answered true, in their order; of a `Subspace` those of its echelon form
pub record EchelonValue : Type 0 where
  pub order : Order
  pub cols : ℕ
  pub rows : List (List ℕ)

-- there is a column, no more columns than a matrix may have, and the rows are independent vectors of that length
pub record IsEchelon (e : EchelonValue) : Type 0 where
  pub some_column : 1 ≤ e.cols
  pub columns_fit : e.cols ≤ most_columns
  pub over : IsMatrixOver (number_field e.order) e.cols e.rows
  pub independent : IsIndependent (number_field e.order) e.rows

-- one more row, where it is new
abbrev pub with_row_where : Bool → EchelonValue → List ℕ → EchelonValue
with_row_where new e row = if new then record { order = e.order; cols = e.cols; rows = e.rows ++ row ∷ [] } else e

-- these are, of the rows, those that are not in the span of the rows before them, in their order
pub data AreNewRows (K : NumberField) : List (List ℕ) → List (List ℕ) → Type 0 where
  none : AreNewRows K [] []
  new : (rows kept : List (List ℕ)) (row : List ℕ) → AreNewRows K rows kept → ¬ (IsSpanned K rows row) →
      AreNewRows K (rows ++ row ∷ []) (kept ++ row ∷ [])
  old : (rows kept : List (List ℕ)) (row : List ℕ) → AreNewRows K rows kept → IsSpanned K rows row →
      AreNewRows K (rows ++ row ∷ []) kept

-- the echelon form has the new ones of the matrix's rows: so it has their span, and all of them where they are
-- independent, or as many
pub record IsSpanOfRows (m : MatrixValue) (e : EchelonValue) : Type 0 where
  pub field : e.order ≡ m.order
  pub columns : e.cols ≡ m.cols
  pub new : AreNewRows (number_field m.order) m.rows e.rows
  pub same : HaveSameSpan (number_field m.order) m.rows e.rows
  pub all : IsIndependent (number_field m.order) m.rows → e.rows ≡ m.rows
  pub as_many : length e.rows ≡ length m.rows → e.rows ≡ m.rows
  pub well_formed : IsEchelon e

-- the rows of e are a basis of the row space of the matrix: of the span of its rows
pub record IsRowSpace (m : MatrixValue) (e : EchelonValue) : Type 0 where
  pub field : e.order ≡ m.order
  pub columns : e.cols ≡ m.cols
  pub same : HaveSameSpan (number_field m.order) m.rows e.rows
  pub well_formed : IsEchelon e

-- these are the coefficients with which the rows combine to v, one for each row in their order
pub record AreCoordinates (e : EchelonValue) (v : List ℕ) (coordinates : RowValue) : Type 0 where
  pub field : coordinates.order ≡ e.order
  pub over : IsVectorOver (number_field e.order) (length e.rows) coordinates.entries
  pub combine : v ≡ combination (number_field e.order) e.cols coordinates.entries e.rows

-- the matrix has as its rows the reduced basis of the rows' span
pub record IsReducedMatrix (e : EchelonValue) (m : MatrixValue) : Type 0 where
  pub field : m.order ≡ e.order
  pub columns : m.cols ≡ e.cols
  pub basis : IsReducedBasis (number_field e.order) e.rows m.rows

-- a matrix without rows has no null space here
abbrev pub null_space_refusal : MatrixValue → Option Refusal
null_space_refusal m = if (length m.rows == 0) then Some NoRows else None

-- the matrix has as its rows the reduced basis of the null space of m: of all v with v m = 0 (Parker 1984)
pub record IsNullSpaceMatrix (m basis : MatrixValue) : Type 0 where
  pub field : basis.order ≡ m.order
  pub columns : basis.cols ≡ length m.rows
  pub basis_of_null_space : IsNullSpaceBasis (number_field m.order) m.rows basis.rows

-- a matrix that is not square has no inverse
abbrev pub inverse_refusal : MatrixValue → Option Refusal
inverse_refusal m = if (length m.rows == m.cols) then None else Some NotSquare
