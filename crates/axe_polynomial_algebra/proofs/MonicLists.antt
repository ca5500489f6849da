-- Lists of coefficients are the monic polynomials of the theory, and tell what divides and what is irreducible.
use Rattle.std.specs.Prelude.{◌≡◌, ℕ, ◌+◌, ◌<◌, ◌≤◌, List, length}
use Rattle.axe_algebra.specs.NumberField.{NumberField}
use Rattle.axe_algebra.specs.Field.{Field}
use Rattle.axe_algebra.specs.Bridge.{field_of, vector_of}
use Rattle.axe_algebra.proofs.ListEntries.{vector_past, same_vector}
use Rattle.axe_polynomial_algebra.specs.Polynomials
use Rattle.axe_polynomial_algebra.specs.PolynomialsOfLists.{degree_of, IsMonicOver, Divides}
use Rattle.axe_polynomial_algebra.specs.PolynomialsOfLists.{IsIrreduciblePolynomial}
use Rattle.axe_polynomial_algebra.specs.MonicListTheorems.{MonicPolynomialHasList, MonicListIsUnique}
use Rattle.axe_polynomial_algebra.specs.MonicListTheorems.{ShortRestTellsWhatDivides}
use Rattle.axe_polynomial_algebra.specs.MonicListTheorems.{ListIsIrreducibleWithoutDivisors, HalfTheDegreeIsEnough}
use Rattle.axe_polynomial_algebra.proofs.Cofactors.{monic_degree}
use Rattle.axe_polynomial_algebra.proofs.Congruences.{divides_by_rest}
use Rattle.axe_polynomial_algebra.proofs.ListCongruences.{monic_of_list}
use Rattle.axe_polynomial_algebra.proofs.ProperDivisors.{list_of_monic, irreducible_without_proper}
use Rattle.axe_polynomial_algebra.proofs.TrialDivision.{irreducible_by_trial, reducible_by_divisor}
use mathlib.Core.Path.{refl, subst}
use native.Mathlib.Omega.{arith}

module _ (K : NumberField) where
  abbrev F : Field
  F = field_of K

  pub monic_has_list : MonicPolynomialHasList K
  monic_has_list d a positive monic =
      let l = list_of_monic K d a positive monic in
      (l.list, l.over, l.vector_is)

  pub monic_list_is_unique : MonicListIsUnique K
  monic_list_is_unique f g of_f of_g same =
      same_vector K (length f) f g (record { length_is = refl; elements = of_f.elements })
      (record { length_is = omega (arith, degrees, of_f.positive, of_g.positive); elements = of_g.elements }) same
    where
      degrees : degree_of f ≡ degree_of g
      degrees = monic_degree F (degree_of f) (degree_of g) (vector_of K g)
          (subst (Polynomials.IsMonic F (degree_of f)) same (monic_of_list K f of_f)) (monic_of_list K g of_g)

  pub short_rest_tells : ShortRestTellsWhatDivides K
  short_rest_tells p f r over congruent short =
      divides_by_rest F (degree_of p) (vector_of K p) (vector_of K f) (vector_of K r) (monic_of_list K p over) congruent
      (λ j past. vector_past K r j (omega arith))

  pub list_is_irreducible_without_divisors : ListIsIrreducibleWithoutDivisors K
  list_is_irreducible_without_divisors p over = (forth, back)
    where
      forth : IsIrreduciblePolynomial K p → (g : List ℕ) → IsMonicOver K g → degree_of g < degree_of p →
          ¬ (Divides K g p)
      forth irreducible g of_g below divides = reducible_by_divisor K p g of_g below divides irreducible

      back : ((g : List ℕ) → IsMonicOver K g → degree_of g < degree_of p → ¬ (Divides K g p)) →
          IsIrreduciblePolynomial K p
      back none =
          irreducible_without_proper K p over (λ proper. none proper.divisor proper.over proper.below proper.divides)

  pub half_the_degree_is_enough : HalfTheDegreeIsEnough K
  half_the_degree_is_enough p over = (forth, irreducible_by_trial K p over)
    where
      forth : IsIrreduciblePolynomial K p → (r : List ℕ) → IsIrreduciblePolynomial K r →
          degree_of r + degree_of r ≤ degree_of p → ¬ (Divides K r p)
      forth irreducible r of_r half divides =
          reducible_by_divisor K p r of_r.over (omega (arith, of_r.over.positive)) divides irreducible
