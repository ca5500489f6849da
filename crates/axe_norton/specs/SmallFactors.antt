-- Which polynomial decides by a square matrix: the first that fits among the small factors of the minimal polynomial of
-- the first unit vector (Holt and Rees 1994).
use Rattle.std.specs.Prelude.{◌≡◌, ◌≤◌}
use Rattle.axe_algebra.specs.Lists.{unit_row}
use Rattle.axe_polynomial_algebra.specs.PolynomialsOfLists.{IsFactorUpTo, polynomial_number, Fits}
use Rattle.axe_field.specs.Order.{order_number}
use Rattle.axe_field.specs.NumberFields.{number_field}
use Rattle.axe_row.specs.Rows.{RowValue}
use Rattle.axe_matrix.specs.Matrices.{MatrixValue}
use Rattle.axe_poly.specs.Limits.{greatest_degree}
use Rattle.axe_poly.specs.Polys.{PolyValue, IsMinimalPolynomialOf}

-- the first unit vector, as a row that fits a matrix
abbrev pub first_unit_row : MatrixValue → RowValue
first_unit_row x = record { order = x.order; entries = unit_row x.cols 0 }

-- p is a small factor of the square matrix x: an irreducible divisor, of no more than the greatest degree, of the minimal
-- polynomial of the first unit vector under x
pub record IsSmallFactor (x : MatrixValue) (p : PolyValue) : Type 0 where
  pub minimal : PolyValue
  pub is_minimal : IsMinimalPolynomialOf x (first_unit_row x) minimal
  pub field : p.order ≡ x.order
  pub factor : IsFactorUpTo (number_field x.order) minimal.coefficients (greatest_degree x.order) p.coefficients

-- p is a small factor of x that fits it: its degree is the dimension of the null space of p(x)
pub record IsFittingFactor (x : MatrixValue) (p : PolyValue) : Type 0 where
  pub factor : IsSmallFactor x p
  pub fits : Fits (number_field x.order) x.rows p.coefficients

-- p is the first of these, by degree and then by the coefficients read as a number, the highest most significant
pub record IsFirstFitting (x : MatrixValue) (p : PolyValue) : Type 0 where
  pub fitting : IsFittingFactor x p
  pub first : (other : PolyValue) → IsFittingFactor x other →
      polynomial_number (order_number x.order) p.coefficients
      ≤ polynomial_number (order_number x.order) other.coefficients

-- there is none
abbrev pub NoneFits : MatrixValue → Type 0
NoneFits x = (p : PolyValue) → ¬ (IsFittingFactor x p)
