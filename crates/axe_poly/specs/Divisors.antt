-- Polynomials that others are divided by, with the words of their multiples.
use Rattle.std.specs.Prelude.{ℕ, ◌≤◌, List}
use Rattle.axe_polynomial_algebra.specs.PolynomialsOfLists.{degree_of}
use Rattle.axe_poly.specs.Lanes.{AreMultiples}
use Rattle.axe_poly.specs.Limits.{greatest_degree}
use Rattle.axe_poly.specs.Polys.{PolyValue}

-- the list has the words of the polynomial's multiples, and its degree is no greater than the greatest one
pub record HasMultiples (p : PolyValue) (multiples : List ℕ) : Type 0 where
  pub multiples_are : AreMultiples p.order p.coefficients multiples
  pub bounded : degree_of p.coefficients ≤ greatest_degree p.order
