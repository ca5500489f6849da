-- By what a polynomial is seen not to fit a square matrix: null vectors of its value there.
use Rattle.std.specs.Prelude.{◌≡◌, ℕ, length, All}
use Rattle.axe_polynomial_algebra.specs.PolynomialsOfLists.{Annihilates, degree_of}
use Rattle.axe_field.specs.Order.{Order}
use Rattle.axe_field.specs.NumberFields.{number_field}
use Rattle.axe_row.specs.Rows.{RowValue}
use Rattle.axe_matrix.specs.Matrices.{MatrixValue}
use Rattle.axe_echelon.specs.Echelons.{EchelonValue}
use Rattle.axe_poly.specs.declared.minimal.CyclicBasis.{CyclicBasis}
use Rattle.axe_poly.specs.Polys.{PolyValue}

-- the row is over the field of this order, and has so many entries
pub record IsRowLike (order : Order) (len : ℕ) (row : RowValue) : Type 0 where
  pub field : row.order ≡ order
  pub long : length row.entries ≡ len

-- the basis is like a cyclic basis under the matrix x: over its field, as wide, and as many rows as its polynomial has
-- degrees
pub record IsBasisLike (x : MatrixValue) (basis : CyclicBasis) : Type 0 where
  pub minimal_field : basis.minimal.order ≡ x.order
  pub field : basis.rows.order ≡ x.order
  pub columns : basis.rows.cols ≡ x.cols
  pub count : length basis.rows.rows ≡ degree_of basis.minimal.coefficients

-- the rows of the echelon form are null vectors of p(x), for a square matrix x
pub record AreNullRows (x : MatrixValue) (p : PolyValue) (found : EchelonValue) : Type 0 where
  pub field : found.order ≡ x.order
  pub columns : found.cols ≡ x.cols
  pub null : All (λ row. Annihilates (number_field x.order) x.rows row p.coefficients) found.rows
