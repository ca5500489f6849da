-- The monic polynomials of a degree, by their numbers.
use Rattle.std.specs.Prelude.{ℕ, suc, ◌<◌, ◌≤◌, List, reverse}
use Rattle.axe_algebra.specs.NumberField.{NumberField}
use Rattle.axe_algebra.specs.Digits.{digits}
use Rattle.axe_polynomial_algebra.specs.PolynomialsOfLists.{polynomial_number, ListsByNumber}
use Rattle.axe_polynomial_algebra.specs.PolynomialsOfLists.{IsIrreduciblePolynomial, IsIrreducibleOfDegree}
use Rattle.axe_polynomial_algebra.specs.PolynomialsOfLists.{degree_of}

-- the polynomial over q elements of degree n that has a number: its coefficients are the digits of the number in base q
unfoldable pub polynomial_with_number : ℕ → ℕ → ℕ → List ℕ
polynomial_with_number q n number = reverse (digits q (suc n) number)

-- p is irreducible of degree n, and its number is below a bound
pub record IsIrreducibleBelow (K : NumberField) (n bound : ℕ) (p : List ℕ) : Type 0 where
  pub irreducible : IsIrreducibleOfDegree K n p
  pub small : polynomial_number K.order p < bound

-- p is irreducible, and its degree is at most s
pub record IsIrreducibleUpTo (K : NumberField) (s : ℕ) (p : List ℕ) : Type 0 where
  pub irreducible : IsIrreduciblePolynomial K p
  pub bound : degree_of p ≤ s

-- the polynomials are the irreducible ones of degree n whose number is below a bound
abbrev pub AreIrreduciblesBelow : NumberField → ℕ → ℕ → List (List ℕ) → Type 0
AreIrreduciblesBelow K n bound polynomials = ListsByNumber K.order (IsIrreducibleBelow K n bound) polynomials

-- the polynomials are the irreducible ones of degree 1 to s
abbrev pub AreIrreduciblesUpTo : NumberField → ℕ → List (List ℕ) → Type 0
AreIrreduciblesUpTo K s polynomials = ListsByNumber K.order (IsIrreducibleUpTo K s) polynomials
