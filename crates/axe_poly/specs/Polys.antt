-- Monic polynomials over one of the seven fields; their values at matrices, minimal polynomials of row vectors.
use Rattle.std.specs.Prelude.{◌≡◌, ℕ, List, All, map}
use Rattle.axe_field.specs.NumberFields.{number_field}
use Rattle.axe_field.specs.Order.{Order}
use Rattle.axe_row.specs.Rows.{RowValue}
use Rattle.axe_matrix.specs.Matrices.{MatrixValue}
use Rattle.axe_polynomial_algebra.specs.PolynomialsOfLists.{IsMonicOver, IsPolynomialValue, IsMinimalPolynomial}
use Rattle.axe_polynomial_algebra.specs.PolynomialsOfLists.{AreFactorsUpTo, AreFactorsOfDegree}

-- a polynomial: the order of its field, and the numbers of its coefficients, the constant one first (any algebra text)
pub record PolyValue : Type 0 where
  pub order : Order
  pub coefficients : List ℕ

-- it is monic of degree at least 1, and its coefficients are elements of its field
abbrev pub IsPoly : PolyValue → Type 0
IsPoly f = IsMonicOver (number_field f.order) f.coefficients

-- the polynomial with these coefficients over the field of this order
abbrev pub poly_with : Order → List ℕ → PolyValue
poly_with order coefficients = record { order = order; coefficients = coefficients }

-- the coefficients of each of these polynomials
abbrev pub coefficients_of : List PolyValue → List (List ℕ)
coefficients_of polynomials = map (λ f. f.coefficients) polynomials

-- the matrix is the value of the polynomial with these coefficients at the square matrix m (any linear algebra text)
pub record IsValueAt (coefficients : List ℕ) (m value : MatrixValue) : Type 0 where
  pub field : value.order ≡ m.order
  pub columns : value.cols ≡ m.cols
  pub value_is : IsPolynomialValue (number_field m.order) coefficients m.rows value.rows

-- f is the minimal polynomial of the row vector v under the square matrix m: the monic one of least degree with
-- v f(m) = 0 (Holt and Rees 1994)
pub record IsMinimalPolynomialOf (m : MatrixValue) (v : RowValue) (f : PolyValue) : Type 0 where
  pub field : f.order ≡ m.order
  pub minimal : IsMinimalPolynomial (number_field m.order) m.rows v.entries f.coefficients

-- these are the irreducible divisors of f of degree 1 to s, each once, by degree, and then by their coefficients read
-- as a number, the highest most significant
pub record AreFactors (f : PolyValue) (s : ℕ) (factors : List PolyValue) : Type 0 where
  pub fields : All (λ p. p.order ≡ f.order) factors
  pub listed : AreFactorsUpTo (number_field f.order) f.coefficients s (coefficients_of factors)

-- these are the irreducible divisors of f of degree d, each once, by their coefficients read as a number, the highest
-- most significant
pub record AreFactorsOf (f : PolyValue) (d : ℕ) (factors : List PolyValue) : Type 0 where
  pub fields : All (λ p. p.order ≡ f.order) factors
  pub listed : AreFactorsOfDegree (number_field f.order) f.coefficients d (coefficients_of factors)
