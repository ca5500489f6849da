-- What the one-vector rule asks of the value p(x) of a polynomial p at a square matrix x: the null space of p(x), and the
-- span of its rows (Holt and Rees 1994).
use Rattle.std.specs.Prelude.{◌≡◌, ℕ, ◌+◌, ◌<◌, length}
use Rattle.axe_algebra.specs.Vectors.{Vector, times}
use Rattle.axe_algebra.specs.Bridge.{vector_of, matrix_of}
use Rattle.axe_algebra.specs.Lists.{IsVectorOver}
use Rattle.axe_algebra.specs.SpansOfLists.{HaveSameSpan}
use Rattle.axe_polynomial_algebra.specs.PolynomialsOfLists.{Fits}
use Rattle.axe_field.specs.NumberFields.{number_field, gf}
use Rattle.axe_row.specs.Rows.{RowValue}
use Rattle.axe_matrix.specs.Matrices.{MatrixValue, IsMatrix}
use Rattle.axe_echelon.specs.Echelons.{IsNullSpaceMatrix}
use Rattle.axe_poly.specs.Polys.{PolyValue, IsValueAt}
use Rattle.axe_word.specs.declared.tested.Tested.{Tested}
use Rattle.axe_word.specs.Tested.{IsTestedAt}
use Rattle.axe_norton.specs.declared.value_spaces.ValueSpaces.{ValueSpaces}

-- the spaces of a tested matrix: its null space; and rows over its field, as wide, that span what its rows span
pub record AreSpacesOf (t : Tested) (spaces : ValueSpaces) : Type 0 where
  pub null_space : spaces.null_space ≡ t.null_space
  pub field : spaces.rows.order ≡ t.matrix.order
  pub columns : spaces.rows.cols ≡ t.matrix.cols
  pub span : HaveSameSpan (number_field t.matrix.order) spaces.rows.rows t.matrix.rows

-- those of p(x), at the square matrix x
pub record AreSpacesAt (x : MatrixValue) (p : PolyValue) (spaces : ValueSpaces) : Type 0 where
  pub tested : Tested
  pub is_tested : IsTestedAt p x tested
  pub of_tested : AreSpacesOf tested spaces

-- p fits the square matrix x, and these are the spaces of p(x)
abbrev pub FitsWithSpaces : MatrixValue → PolyValue → ValueSpaces → Type 0
FitsWithSpaces x p spaces = Fits (number_field x.order) x.rows p.coefficients × AreSpacesAt x p spaces

-- ---- where the first unit vector is cyclic

-- the matrix has as its rows the reduced basis of the null space of p(x)
pub record IsNullSpaceAt (x : MatrixValue) (p : PolyValue) (basis : MatrixValue) : Type 0 where
  pub each : (value : MatrixValue) → IsValueAt p.coefficients x value → IsNullSpaceMatrix value basis
  pub well_formed : IsMatrix basis

-- the rows of the basis from a row on, each times the coefficient of p of its place: v x^start p(x), where the rows are
-- v, v x, v x^2 and so on
abbrev pub polynomial_row : (basis : MatrixValue) → PolyValue → ℕ → Vector (gf basis.order)
polynomial_row basis p start =
    times (gf basis.order) (length p.coefficients) (vector_of (number_field basis.order) p.coefficients)
    (λ j. matrix_of (number_field basis.order) basis.rows (start + j))

-- the row is that
pub record IsPolynomialRow (basis : MatrixValue) (p : PolyValue) (start : ℕ) (row : RowValue) : Type 0 where
  pub field : row.order ≡ basis.order
  pub over : IsVectorOver (number_field basis.order) basis.cols row.entries
  pub sum : vector_of (number_field basis.order) row.entries ≡ polynomial_row basis p start

-- the matrix has the first of these rows, so many
pub record ArePolynomialRows (basis : MatrixValue) (p : PolyValue) (count : ℕ) (rows : MatrixValue) : Type 0 where
  pub field : rows.order ≡ basis.order
  pub columns : rows.cols ≡ basis.cols
  pub counted : length rows.rows ≡ count
  pub each : (t : ℕ) → t < count → matrix_of (number_field basis.order) rows.rows t ≡ polynomial_row basis p t
