-- What the law functions promise of lists of coefficients: they are the monic polynomials of the theory, and what
-- divides or is irreducible is told by lists alone.
use Rattle.std.specs.Prelude.{◌≡◌, ◌↔◌, ℕ, ◌+◌, ◌<◌, ◌≤◌, List, length}
use Rattle.axe_algebra.specs.NumberField.{NumberField}
use Rattle.axe_algebra.specs.Vectors.{Vector, zero_vector}
use Rattle.axe_algebra.specs.Bridge.{field_of, vector_of}
use Rattle.axe_polynomial_algebra.specs.Polynomials.{IsMonic}
use Rattle.axe_polynomial_algebra.specs.PolynomialsOfLists.{degree_of, IsMonicOver, Divides, IsCongruent}
use Rattle.axe_polynomial_algebra.specs.PolynomialsOfLists.{IsIrreduciblePolynomial}

module _ (K : NumberField) where
  -- the vector of a monic list is monic of the list's degree
  abbrev pub MonicListIsMonic : Type 0
  MonicListIsMonic = (f : List ℕ) → IsMonicOver K f → IsMonic (field_of K) (degree_of f) (vector_of K f)

  -- each monic polynomial of positive degree has a list
  abbrev pub MonicPolynomialHasList : Type 0
  MonicPolynomialHasList = (d : ℕ) (a : Vector (field_of K)) → 0 < d → IsMonic (field_of K) d a →
      (f : List ℕ) × IsMonicOver K f × (vector_of K f ≡ a)

  -- and only one
  abbrev pub MonicListIsUnique : Type 0
  MonicListIsUnique =
      (f g : List ℕ) → IsMonicOver K f → IsMonicOver K g → vector_of K f ≡ vector_of K g → f ≡ g

  -- what is congruent to f and has fewer coefficients than p tells whether p divides f
  abbrev pub ShortRestTellsWhatDivides : Type 0
  ShortRestTellsWhatDivides = (p f r : List ℕ) → IsMonicOver K p → IsCongruent K p f r → length r ≤ degree_of p →
      Divides K p f ↔ (vector_of K r ≡ zero_vector (field_of K))

  -- a monic list is irreducible exactly when no monic list of smaller degree divides it
  abbrev pub ListIsIrreducibleWithoutDivisors : Type 0
  ListIsIrreducibleWithoutDivisors = (p : List ℕ) → IsMonicOver K p →
      IsIrreduciblePolynomial K p ↔
      ((g : List ℕ) → IsMonicOver K g → degree_of g < degree_of p → ¬ (Divides K g p))

  -- for that it is enough to try the irreducible ones of at most half its degree
  abbrev pub HalfTheDegreeIsEnough : Type 0
  HalfTheDegreeIsEnough = (p : List ℕ) → IsMonicOver K p →
      IsIrreduciblePolynomial K p ↔
      ((r : List ℕ) → IsIrreduciblePolynomial K r → degree_of r + degree_of r ≤ degree_of p → ¬ (Divides K r p))
