-- The irreducible divisors of a polynomial, up to a degree and of one degree, and the irreducible polynomials of a
-- degree: each make one list that ascends by number.
use Rattle.std.specs.Prelude.{◌≡◌, ℕ, zero, suc, ◌+◌, ◌-◌, ◌^◌, ◌<◌, ◌≤◌, ◌⊎◌, List, [], ◌++◌, length}
use Rattle.axe_algebra.specs.NumberField.{NumberField}
use Rattle.axe_algebra.proofs.ElementNumbers.{zero-below}
use Rattle.axe_polynomial_algebra.specs.PolynomialsOfLists.{degree_of, IsMonicOver, polynomial_number, Divides}
use Rattle.axe_polynomial_algebra.specs.PolynomialsOfLists.{IsIrreduciblePolynomial, IsIrreducibleOfDegree}
use Rattle.axe_polynomial_algebra.specs.PolynomialsOfLists.{IsFactorOfDegree, IsFactorUpTo, ListsByNumber}
use Rattle.axe_polynomial_algebra.specs.PolynomialsOfLists.{AreFactorsOfDegree, AreFactorsUpTo}
use Rattle.axe_polynomial_algebra.specs.PolynomialListTheorems.{FactorsExist, FactorsAreUnique}
use Rattle.axe_polynomial_algebra.specs.PolynomialListTheorems.{FactorsOfDegreeExist, FactorsOfDegreeAreUnique}
use Rattle.axe_polynomial_algebra.specs.PolynomialListTheorems.{IrreduciblesExist, IrreduciblesAreUnique}
use Rattle.axe_polynomial_algebra.proofs.PolynomialNumbers.{monic_by_number, monic_by_number-number, is_by_number}
use Rattle.axe_polynomial_algebra.proofs.PolynomialNumbers.{number-below, numbers_by_degree}
use Rattle.axe_polynomial_algebra.proofs.ProperDivisors.{divides_list_or_not, irreducible_or_not}
use Rattle.axe_polynomial_algebra.proofs.ListByNumber.{list_by_number_is_unique, list_by_number_exists}
use Rattle.axe_polynomial_algebra.proofs.ListByNumber.{lists_none, lists_together}
use mathlib.Core.Logic.{inl, inr}
use mathlib.Core.Path.{refl, sym, ◌∙◌, ap, ap₂}
use native.Mathlib.Nat.{pow-le-pow_right}
use native.Mathlib.Omega.{arith}
use native.Mathlib.Decide.{dec_le, ℕ_discrete}

module _ (K : NumberField) where
  -- ---- the monic polynomial with a number

  pub number_below_power : (p : List ℕ) (s : ℕ) → IsMonicOver K p → degree_of p < s →
      polynomial_number K.order p < K.order ^ s
  number_below_power p s over below =
      let powers : K.order ^ length p ≤ K.order ^ s =
      pow-le-pow_right {n = K.order} (zero-below K) (omega (arith, over.positive)) in
      omega (arith, number-below K p over.elements, powers)

  -- the monic polynomial of degree s with the number x where x is no less than the order to the s, else what is given
  unfoldable with_top_degree : (s x : ℕ) → Dec (K.order ^ s ≤ x) → List ℕ → List ℕ
  with_top_degree s x (yes large) lower = monic_by_number K.order s (x - K.order ^ s)
  with_top_degree s x (no small) lower = lower

  -- the monic polynomial of degree 1 to s with the number x
  unfoldable monic_of_number : ℕ → ℕ → List ℕ
  monic_of_number zero x = []
  monic_of_number (suc s) x = with_top_degree (suc s) x (dec_le (K.order ^ suc s) x) (monic_of_number s x)

  at_top : (s x : ℕ) (d : Dec (K.order ^ s ≤ x)) (lower : List ℕ) → K.order ^ s ≤ x →
      with_top_degree s x d lower ≡ monic_by_number K.order s (x - K.order ^ s)
  unfolding with_top_degree
  at_top s x (yes large) lower is_large = refl
  at_top s x (no small) lower is_large = absurd (small is_large)

  below_top : (s x : ℕ) (d : Dec (K.order ^ s ≤ x)) (lower : List ℕ) → x < K.order ^ s →
      with_top_degree s x d lower ≡ lower
  unfolding with_top_degree
  below_top s x (yes large) lower is_small = absurd (omega (arith, large))
  below_top s x (no small) lower is_small = refl

  of_its_number : (s : ℕ) (p : List ℕ) → IsMonicOver K p → degree_of p ≤ s →
      monic_of_number s (polynomial_number K.order p) ≡ p
  unfolding monic_of_number
  of_its_number zero p over within = absurd (omega (arith, over.positive))
  of_its_number (suc s) p over within =
      cases (ℕ_discrete (degree_of p) (suc s)) (is_by_number K p over) (of_its_number s p over)
    where
      q : ℕ
      q = K.order

      x : ℕ
      x = polynomial_number q p

      cases : Dec (degree_of p ≡ suc s) →
          (low : ℕ) × (low < q ^ degree_of p) × (p ≡ monic_by_number q (degree_of p) low) →
          (degree_of p ≤ s → monic_of_number s x ≡ p) →
          with_top_degree (suc s) x (dec_le (q ^ suc s) x) (monic_of_number s x) ≡ p
      cases (yes top) (low, small, is) lower =
          at_top (suc s) x (dec_le (q ^ suc s) x) (monic_of_number s x) (omega (arith, number_is))
          ∙ ap₂ (monic_by_number q) (sym top) (let e : x - q ^ suc s ≡ low = omega (arith, number_is) in e) ∙ sym is
        where
          number_is : x ≡ q ^ suc s + low
          number_is =
              ap (polynomial_number q) is ∙ monic_by_number-number K (degree_of p) low small ∙ ap (λ d. q ^ d + low) top
      cases (no other) _ lower =
          below_top (suc s) x (dec_le (q ^ suc s) x) (monic_of_number s x)
          (number_below_power p (suc s) over (omega (arith, other, within)))
          ∙ lower (omega (arith, other, within))

  -- so the monic polynomials up to a degree with a decidable property make a list
  listed_up_to : (s : ℕ) (P : List ℕ → Type 0) → ((p : List ℕ) → Dec (P p)) → ((p : List ℕ) → P p → IsMonicOver K p) →
      ((p : List ℕ) → P p → degree_of p ≤ s) → (polynomials : List (List ℕ)) × ListsByNumber K.order P polynomials
  listed_up_to s P decide monic within =
      list_by_number_exists K.order P decide (monic_of_number s)
      (λ p has. of_its_number s p (monic p has) (within p has))
      (K.order ^ suc s) (λ p has. number_below_power p (suc s) (monic p has) (omega (arith, within p has)))

  -- ---- irreducible polynomials and irreducible divisors are decidable

  irreducible_of_degree_or_not : (d : ℕ) (p : List ℕ) → Dec (IsIrreducibleOfDegree K d p)
  irreducible_of_degree_or_not d p = cases (irreducible_or_not K p) (ℕ_discrete (degree_of p) d)
    where
      cases : Dec (IsIrreduciblePolynomial K p) → Dec (degree_of p ≡ d) → Dec (IsIrreducibleOfDegree K d p)
      cases (yes is) (yes degree_is) = yes (record { irreducible = is; degree_is = degree_is })
      cases (no other) _ = no λ of_degree. other of_degree.irreducible
      cases (yes _) (no other) = no λ of_degree. other of_degree.degree_is

  divisor_or_not : (f p : List ℕ) → Dec (IsIrreduciblePolynomial K p × Divides K p f)
  divisor_or_not f p = cases (irreducible_or_not K p)
    where
      cases : Dec (IsIrreduciblePolynomial K p) → Dec (IsIrreduciblePolynomial K p × Divides K p f)
      cases (no other) = no λ divisor. other divisor.0
      cases (yes is) = decided (divides_list_or_not K p f is.over)
        where
          decided : Dec (Divides K p f) → Dec (IsIrreduciblePolynomial K p × Divides K p f)
          decided (yes divides) = yes (is, divides)
          decided (no other) = no λ divisor. other divisor.1

  factor_of_degree_or_not : (f : List ℕ) (d : ℕ) (p : List ℕ) → Dec (IsFactorOfDegree K f d p)
  factor_of_degree_or_not f d p = cases (divisor_or_not f p) (ℕ_discrete (degree_of p) d)
    where
      cases : Dec (IsIrreduciblePolynomial K p × Divides K p f) → Dec (degree_of p ≡ d) → Dec (IsFactorOfDegree K f d p)
      cases (yes (is, divides)) (yes degree_is) =
          yes (record { irreducible = is; divides = divides; degree_is = degree_is })
      cases (no other) _ = no λ factor. other (factor.irreducible, factor.divides)
      cases (yes _) (no other) = no λ factor. other factor.degree_is

  factor_up_to_or_not : (f : List ℕ) (s : ℕ) (p : List ℕ) → Dec (IsFactorUpTo K f s p)
  factor_up_to_or_not f s p = cases (divisor_or_not f p) (dec_le (degree_of p) s)
    where
      cases : Dec (IsIrreduciblePolynomial K p × Divides K p f) → Dec (degree_of p ≤ s) → Dec (IsFactorUpTo K f s p)
      cases (yes (is, divides)) (yes bound) = yes (record { irreducible = is; divides = divides; bound = bound })
      cases (no other) _ = no λ factor. other (factor.irreducible, factor.divides)
      cases (yes _) (no other) = no λ factor. other factor.bound

  -- ---- the lists

  pub factors_exist : FactorsExist K
  factors_exist f s =
      listed_up_to s (IsFactorUpTo K f s) (factor_up_to_or_not f s) (λ p factor. factor.irreducible.over)
      (λ p factor. factor.bound)

  pub factors_are_unique : FactorsAreUnique K
  factors_are_unique f s = list_by_number_is_unique K.order (IsFactorUpTo K f s)

  pub factors_of_degree_exist : FactorsOfDegreeExist K
  factors_of_degree_exist f d =
      listed_up_to d (IsFactorOfDegree K f d) (factor_of_degree_or_not f d) (λ p factor. factor.irreducible.over)
      (λ p factor. omega (arith, factor.degree_is))

  pub factors_of_degree_are_unique : FactorsOfDegreeAreUnique K
  factors_of_degree_are_unique f d = list_by_number_is_unique K.order (IsFactorOfDegree K f d)

  pub irreducibles_exist : IrreduciblesExist K
  irreducibles_exist d =
      listed_up_to d (IsIrreducibleOfDegree K d) (irreducible_of_degree_or_not d) (λ p is. is.irreducible.over)
      (λ p is. omega (arith, is.degree_is))

  pub irreducibles_are_unique : IrreduciblesAreUnique K
  irreducibles_are_unique d = list_by_number_is_unique K.order (IsIrreducibleOfDegree K d)

  -- ---- degree by degree

  pub no_factor_of_degree_0 : (f : List ℕ) → AreFactorsUpTo K f 0 []
  no_factor_of_degree_0 f =
      lists_none K.order (IsFactorUpTo K f 0) (λ p is. omega (arith, is.bound, is.irreducible.over.positive))

  -- those up to a degree, and then those of the next degree
  pub factors_of_next_degree : (f : List ℕ) (s : ℕ) (low high : List (List ℕ)) → AreFactorsUpTo K f s low →
      AreFactorsOfDegree K f (s + 1) high → AreFactorsUpTo K f (s + 1) (low ++ high)
  factors_of_next_degree f s low high =
      lists_together K.order (IsFactorUpTo K f s) (IsFactorOfDegree K f (s + 1)) (IsFactorUpTo K f (s + 1)) low high
      (λ p is. record { irreducible = is.irreducible; divides = is.divides; bound = omega (arith, is.bound) })
      (λ p is. record { irreducible = is.irreducible; divides = is.divides; bound = omega (arith, is.degree_is) })
      (λ p is. either p is (ℕ_discrete (degree_of p) (s + 1)))
      (λ p r of_p of_r.
      numbers_by_degree K p r of_p.irreducible.over of_r.irreducible.over (omega (arith, of_p.bound, of_r.degree_is)))
    where
      either : (p : List ℕ) → IsFactorUpTo K f (s + 1) p → Dec (degree_of p ≡ s + 1) →
          IsFactorUpTo K f s p ⊎ IsFactorOfDegree K f (s + 1) p
      either p is (yes top) = inr (record { irreducible = is.irreducible; divides = is.divides; degree_is = top })
      either p is (no other) =
          inl (record { irreducible = is.irreducible; divides = is.divides; bound = omega (arith, is.bound, other) })
