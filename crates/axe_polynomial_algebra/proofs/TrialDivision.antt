-- Trial division by irreducible polynomials of ascending degree, without dividing out, finds what is irreducible.
use Rattle.std.specs.Prelude.{ℕ, zero, suc, ◌+◌, ◌<◌, ◌≤◌, ◌⊎◌, List}
use Rattle.axe_algebra.specs.NumberField.{NumberField}
use Rattle.axe_algebra.specs.Field.{Field}
use Rattle.axe_algebra.specs.Vectors.{Vector}
use Rattle.axe_algebra.specs.Bridge.{field_of, vector_of}
use Rattle.axe_polynomial_algebra.specs.Polynomials
use Rattle.axe_polynomial_algebra.specs.PolynomialTheorems.{MonicCofactor}
use Rattle.axe_polynomial_algebra.specs.PolynomialsOfLists.{degree_of, IsMonicOver, Divides, IsIrreduciblePolynomial}
use Rattle.axe_polynomial_algebra.specs.PolynomialListTheorems.{TrialDivisionIsSound}
use Rattle.axe_polynomial_algebra.proofs.Cofactors.{cofactor_is_monic, divides_trans, right_divides}
use Rattle.axe_polynomial_algebra.proofs.ListCongruences.{monic_of_list}
use Rattle.axe_polynomial_algebra.proofs.ProperDivisors.{ProperDivisor, ListOfMonic, list_of_monic}
use Rattle.axe_polynomial_algebra.proofs.ProperDivisors.{proper_divisor_or_none, irreducible_without_proper}
use Rattle.axe_polynomial_algebra.proofs.ProperDivisors.{irreducible_has_no_proper}
use mathlib.Core.Logic.{inl, inr}
use mathlib.Core.Path.{sym, subst}
use native.Mathlib.Omega.{arith}
use native.Mathlib.Decide.{dec_lt}

-- an irreducible divisor of p of at most half its degree
pub record SmallDivisor (K : NumberField) (p : List ℕ) : Type 0 where
  pub divisor : List ℕ
  pub irreducible : IsIrreduciblePolynomial K divisor
  pub half : degree_of divisor + degree_of divisor ≤ degree_of p
  pub divides : Divides K divisor p

module _ (K : NumberField) where
  abbrev F : Field
  F = field_of K

  pub divides_list_trans : (p q f : List ℕ) → Divides K p q → Divides K q f → Divides K p f
  divides_list_trans p q f = divides_trans F (vector_of K p) (vector_of K q) (vector_of K f)

  -- a polynomial with a proper divisor has one of at most half its degree
  pub record HalfDivisor (p : List ℕ) : Type 0 where
    pub divisor : List ℕ
    pub over : IsMonicOver K divisor
    pub half : degree_of divisor + degree_of divisor ≤ degree_of p
    pub divides : Divides K divisor p

  half_divisor : (p : List ℕ) → IsMonicOver K p → ProperDivisor K p → HalfDivisor p
  half_divisor p over proper = choose (dec_lt (degree_of other.list) (degree_of g))
    where
      g : List ℕ
      g = proper.divisor

      cofactor : MonicCofactor F (degree_of g) (degree_of p) (vector_of K g) (vector_of K p)
      cofactor = cofactor_is_monic F (degree_of g) (degree_of p) (vector_of K g) (vector_of K p)
          (monic_of_list K g proper.over)
          (monic_of_list K p over) proper.divides

      other : ListOfMonic K cofactor.degree cofactor.quotient
      other = list_of_monic K cofactor.degree cofactor.quotient
          (omega (arith, cofactor.sum, proper.below)) cofactor.monic

      other_divides : Divides K other.list p
      other_divides =
          subst (λ (f : Vector F). Polynomials.Divides F (vector_of K other.list) f) (sym cofactor.equals)
          (subst (λ (h : Vector F). Polynomials.Divides F h
          (Polynomials.convolution F (vector_of K g) cofactor.quotient)) (sym other.vector_is)
          (right_divides F (degree_of g) (vector_of K g) cofactor.quotient (monic_of_list K g proper.over)))

      choose : Dec (degree_of other.list < degree_of g) → HalfDivisor p
      choose (yes smaller) = record {
        divisor = other.list;
        over = other.over;
        half = omega (arith, other.degree_is, cofactor.sum);
        divides = other_divides;
      }
      choose (no larger) = record {
        divisor = g;
        over = proper.over;
        half = omega (arith, other.degree_is, cofactor.sum);
        divides = proper.divides;
      }

  -- each monic polynomial is irreducible or has an irreducible divisor of at most half its degree
  small_divisor_below : (bound : ℕ) (p : List ℕ) → degree_of p < bound → IsMonicOver K p →
      IsIrreduciblePolynomial K p ⊎ SmallDivisor K p
  small_divisor_below zero p below over = absurd (omega arith)
  small_divisor_below (suc bound) p below over = cases (small_divisor_below bound) (proper_divisor_or_none K p)
    where
      Found : List ℕ → Type 0
      Found f = IsIrreduciblePolynomial K f ⊎ SmallDivisor K f

      cases : ((f : List ℕ) → degree_of f < bound → IsMonicOver K f → Found f) → Dec (ProperDivisor K p) → Found p
      cases before (no none) = inl (irreducible_without_proper K p over none)
      cases before (yes proper) = inr (from (before h.divisor (omega (arith, h.half, h.over.positive)) h.over))
        where
          h : HalfDivisor p
          h = half_divisor p over proper

          from : Found h.divisor → SmallDivisor K p
          from (inl irreducible) = record {
            divisor = h.divisor;
            irreducible = irreducible;
            half = h.half;
            divides =
                h.divides;
          }
          from (inr small) = record {
            divisor = small.divisor;
            irreducible = small.irreducible;
            half = omega (arith, small.half, h.half);
            divides = divides_list_trans small.divisor h.divisor p small.divides h.divides;
          }

  pub small_divisor : (p : List ℕ) → IsMonicOver K p → IsIrreduciblePolynomial K p ⊎ SmallDivisor K p
  small_divisor p = small_divisor_below (suc (degree_of p)) p (omega arith)

  -- a monic polynomial that no irreducible one of at most half its degree divides is irreducible
  pub irreducible_by_trial : (p : List ℕ) → IsMonicOver K p →
      ((r : List ℕ) → IsIrreduciblePolynomial K r → degree_of r + degree_of r ≤ degree_of p → ¬ (Divides K r p)) →
      IsIrreduciblePolynomial K p
  irreducible_by_trial p over none = from (small_divisor p over)
    where
      from : IsIrreduciblePolynomial K p ⊎ SmallDivisor K p → IsIrreduciblePolynomial K p
      from (inl irreducible) = irreducible
      from (inr small) = absurd (none small.divisor small.irreducible small.half small.divides)

  -- and one that a monic polynomial of smaller degree divides is not
  pub reducible_by_divisor : (p g : List ℕ) → IsMonicOver K g → degree_of g < degree_of p → Divides K g p →
      ¬ (IsIrreduciblePolynomial K p)
  reducible_by_divisor p g over below divides is =
      irreducible_has_no_proper K p is (record { divisor = g; over = over; below = below; divides = divides })

  pub trial_division_is_sound : TrialDivisionIsSound K
  trial_division_is_sound f p over divides none =
      irreducible_by_trial p over (λ r irreducible half of_p.
      none r irreducible (omega (arith, irreducible.over.positive)) (divides_list_trans r p f of_p divides) of_p)
