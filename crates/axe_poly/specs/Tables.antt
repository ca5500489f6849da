-- Irreducible polynomials in a table, degree by degree.
use Rattle.std.specs.Prelude.{◌≡◌, ℕ, ◌+◌, ◌≤◌, List, All, take}
use Rattle.std.specs.List.{Contains}
use Rattle.axe_algebra.specs.NumberField.{NumberField}
use Rattle.axe_field.specs.NumberFields.{number_field}
use Rattle.axe_field.specs.Order.{Order}
use Rattle.axe_polynomial_algebra.specs.PolynomialsOfLists.{IsFactorOfDegree, ListsByNumber}
use Rattle.axe_poly.specs.Limits.{greatest_degree}
use Rattle.axe_poly.specs.Numbering.{AreIrreduciblesBelow, AreIrreduciblesUpTo}
use Rattle.axe_poly.specs.Polys.{PolyValue, coefficients_of}

-- the order of a field, a degree, and polynomials over the field, each the list of its coefficients
pub record IrreduciblesValue : Type 0 where
  pub order : Order
  pub degree : ℕ
  pub polynomials : List (List ℕ)

-- the polynomials are the irreducible ones of degree 1 up to the degree, by their numbers
abbrev pub AreIrreducibles : IrreduciblesValue → Type 0
AreIrreducibles t = AreIrreduciblesUpTo (number_field t.order) t.degree t.polynomials

-- the table with these polynomials
abbrev pub table_of : Order → ℕ → List PolyValue → IrreduciblesValue
table_of order degree polynomials =
    record { order = order; degree = degree; polynomials = coefficients_of polynomials }

-- the polynomials are over the field, and the irreducible ones of degree 1 up to the degree, which is no greater than the
-- greatest degree
pub record AreTabled (order : Order) (degree : ℕ) (polynomials : List PolyValue) : Type 0 where
  pub fields : All (λ p. p.order ≡ order) polynomials
  pub irreducibles : AreIrreducibles (table_of order degree polynomials)
  pub bounded : degree ≤ greatest_degree order

-- the polynomials are the irreducible ones of the next degree whose number is below a bound
pub record AreFoundBelow (t : IrreduciblesValue) (bound : ℕ) (found : List PolyValue) : Type 0 where
  pub fields : All (λ p. p.order ≡ t.order) found
  pub irreducibles : AreIrreduciblesBelow (number_field t.order) (t.degree + 1) bound (coefficients_of found)

-- p is an irreducible divisor of f, of degree d, among the first so many polynomials of a table
abbrev pub IsFactorAmong : NumberField → List ℕ → ℕ → List (List ℕ) → ℕ → List ℕ → Type 0
IsFactorAmong K f d table count p = IsFactorOfDegree K f d p × Contains (take count table) p

-- these are the irreducible divisors of f of degree d among the first so many polynomials of a table, by their numbers
pub record AreFactorsAmong (t : IrreduciblesValue) (f : PolyValue) (d count : ℕ)
    (factors : List PolyValue) : Type 0 where
  pub fields : All (λ p. p.order ≡ f.order) factors
  pub listed : let K = number_field f.order in
      ListsByNumber K.order (IsFactorAmong K f.coefficients d t.polynomials count) (coefficients_of factors)
