-- The rows of the actions on a span: the coefficients, over independent rows, of these rows times the generators.
use Rattle.std.specs.Prelude.{◌≡◌, ℕ, ◌<◌, List, [], ◌∷◌, ◌++◌, length, get_or, All}
use Rattle.axe_algebra.specs.NumberField.{NumberField}
use Rattle.axe_algebra.specs.Lists.{IsVectorOver, unit_row}
use Rattle.axe_algebra.specs.Reduced.{IsAscendingListOf}
use Rattle.axe_algebra.specs.ListArithmetic.{combination}
use Rattle.axe_algebra.specs.SpansOfLists.{IsSpanned, IsPivot}
use Rattle.axe_field.specs.NumberFields.{number_field}
use Rattle.axe_row.specs.Rows.{RowValue}
use Rattle.axe_matrix.specs.Matrices.{MatrixValue, IsMatrix, entries_at}
use Rattle.axe_echelon.specs.Echelons.{EchelonValue, AreCoordinates}

-- row t times the matrix g: its image
abbrev pub row_times : MatrixValue → List (List ℕ) → ℕ → List ℕ
row_times g rows t = combination (number_field g.order) g.cols (get_or rows t []) g.rows

-- the images of the rows are in the span of `spanning`
abbrev pub HasImagesIn : MatrixValue → List (List ℕ) → List (List ℕ) → Type 0
HasImagesIn g rows spanning = (t : ℕ) → t < length rows → IsSpanned (number_field g.order) spanning (row_times g rows t)

-- the image of row t is the combination of the rows with these coefficients (Parker 1984)
pub record IsActionRow (g : MatrixValue) (rows : List (List ℕ)) (t : ℕ) (coefficients : List ℕ) : Type 0 where
  pub over : IsVectorOver (number_field g.order) (length rows) coefficients
  pub combine : row_times g rows t ≡ combination (number_field g.order) g.cols coefficients rows

-- the matrix has as its rows the coefficients of the images of the first i rows
pub record HasActionRows (g : MatrixValue) (rows : List (List ℕ)) (i : ℕ) (action : MatrixValue) : Type 0 where
  pub field : action.order ≡ g.order
  pub columns : action.cols ≡ length rows
  pub count : length action.rows ≡ i
  pub well_formed : IsMatrix action
  pub each : (t : ℕ) → t < i → IsActionRow g rows t (get_or action.rows t [])

-- the matrix has one row more: the coefficients of the vector v over the rows of a span (Parker 1984)
pub record HasCoefficientsToo (e : EchelonValue) (v : List ℕ) (m next : MatrixValue) : Type 0 where
  pub coefficients : RowValue
  pub are : AreCoordinates e v coefficients
  pub appended : next ≡ record m { rows = m.rows ++ coefficients.entries ∷ [] }
  pub well_formed : IsMatrix next

-- each row has the unit vector of its number at these columns: there the rows are the identity
abbrev pub IsIdentityAt : List ℕ → List (List ℕ) → Type 0
IsIdentityAt columns rows =
    (t : ℕ) → t < length rows → entries_at columns (get_or rows t []) ≡ unit_row (length columns) t

-- these are the pivots of the rows' span, ascending
abbrev pub ArePivotColumns : EchelonValue → List ℕ → Type 0
ArePivotColumns e columns =
    IsAscendingListOf (IsPivot (number_field e.order) e.rows) (length columns) (λ t. get_or columns t 0)

-- a vector of the span of the rows of n entries is their combination with its entries at these columns (the reduced
-- row echelon form of any linear algebra text)
pub record AreCoordinateColumns (K : NumberField) (n : ℕ) (rows : List (List ℕ)) (columns : List ℕ) : Type 0 where
  pub count : length columns ≡ length rows
  pub within : All (λ column. column < n) columns
  pub combine : (v : List ℕ) → IsVectorOver K n v → IsSpanned K rows v → v ≡ combination K n (entries_at columns v) rows
