-- Null vectors u, u x, u x^2 and so on of the value p(x) of a polynomial p at a square matrix x.
use Rattle.std.specs.Prelude.{◌≡◌, ℕ, ◌+◌, List, [], length, get_or, All}
use Rattle.axe_polynomial_algebra.specs.PolynomialsOfLists.{Annihilates, degree_of}
use Rattle.axe_field.specs.NumberFields.{number_field}
use Rattle.axe_row.specs.Operations.{IsZeroVector}
use Rattle.axe_matrix.specs.Matrices.{MatrixValue, IsMatrix}
use Rattle.axe_poly.specs.Polys.{PolyValue}
use Rattle.axe_poly.specs.Powers.{ArePowers}

-- the matrix has the first of the rows v, v x, v x^2 and so on, so many
pub record AreFirstPowers (x : MatrixValue) (v : List ℕ) (count : ℕ) (rows : MatrixValue) : Type 0 where
  pub field : rows.order ≡ x.order
  pub columns : rows.cols ≡ x.cols
  pub counted : length rows.rows ≡ count
  pub powers : ArePowers x v rows.rows
  pub well_formed : IsMatrix rows

-- the rows are u, u x, u x^2 and so on, one more than p has degrees, for a null vector u of p(x) other than zero: so each
-- of them is a null vector
pub record AreNullPowers (x : MatrixValue) (p : PolyValue) (rows : MatrixValue) : Type 0 where
  pub powers : AreFirstPowers x (get_or rows.rows 0 []) (degree_of p.coefficients + 1) rows
  pub nonzero : ¬ (IsZeroVector (get_or rows.rows 0 []))
  pub null : All (λ row. Annihilates (number_field x.order) x.rows row p.coefficients) rows.rows
