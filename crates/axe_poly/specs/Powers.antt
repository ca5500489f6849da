-- The rows v, v x, v x^2 and so on, up to the first that is in the span of those before it.
use Rattle.std.specs.Prelude.{◌≡◌, ℕ, suc, ◌<◌, List, [], ◌∷◌, ◌++◌, length, get_or, map}
use Rattle.axe_algebra.specs.ListArithmetic.{combination}
use Rattle.axe_algebra.specs.SpansOfLists.{IsSpanned}
use Rattle.axe_field.specs.Arithmetic.{field_neg}
use Rattle.axe_field.specs.NumberFields.{number_field}
use Rattle.axe_row.specs.Rows.{RowValue}
use Rattle.axe_matrix.specs.Matrices.{MatrixValue, IsMatrix}
use Rattle.axe_echelon.specs.Echelons.{EchelonValue, IsEchelon}
use Rattle.axe_polynomial_algebra.specs.PolynomialsOfLists.{degree_of}
use Rattle.axe_poly.specs.declared.minimal.CyclicBasis.{CyclicBasis}
use Rattle.axe_poly.specs.Polys.{PolyValue, IsMinimalPolynomialOf, poly_with}

-- the rows are v, v x, v x^2 and so on: the first is v, and each further one is the one before it times the matrix
pub record ArePowers (m : MatrixValue) (v : List ℕ) (rows : List (List ℕ)) : Type 0 where
  pub first : 0 < length rows → get_or rows 0 [] ≡ v
  pub next : (t : ℕ) → suc t < length rows →
      get_or rows (suc t) [] ≡ combination (number_field m.order) m.cols (get_or rows t []) m.rows

-- the echelon form has the first of these rows, and the next of them is in their span
pub record IsNextPower (m : MatrixValue) (v : List ℕ) (e : EchelonValue) (next : RowValue) : Type 0 where
  pub field : e.order ≡ m.order
  pub columns : e.cols ≡ m.cols
  pub some : 0 < length e.rows
  pub next_field : next.order ≡ m.order
  pub long : length next.entries ≡ m.cols
  pub powers : ArePowers m v (e.rows ++ next.entries ∷ [])
  pub spanned : IsSpanned (number_field m.order) e.rows next.entries
  pub well_formed : IsEchelon e

-- the power of x with as many coefficients before it as are given, less the polynomial with these coefficients
abbrev pub power_less : RowValue → PolyValue
power_less c = poly_with c.order (map (field_neg c.order) c.entries ++ 1 ∷ [])

-- the matrix of the rows of an echelon form
abbrev pub matrix_of_rows : EchelonValue → MatrixValue
matrix_of_rows e = record { order = e.order; cols = e.cols; rows = e.rows }

-- v, v x, v x^2 and so on, as many rows as the minimal polynomial of v under the square matrix x has degrees, and it
pub record IsCyclicBasis (x : MatrixValue) (v : RowValue) (basis : CyclicBasis) : Type 0 where
  pub minimal : IsMinimalPolynomialOf x v basis.minimal
  pub field : basis.rows.order ≡ x.order
  pub columns : basis.rows.cols ≡ x.cols
  pub count : length basis.rows.rows ≡ degree_of basis.minimal.coefficients
  pub powers : ArePowers x v.entries basis.rows.rows
  pub well_formed : IsMatrix basis.rows
