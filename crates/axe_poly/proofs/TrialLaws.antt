-- What the irreducible polynomials of a table tell of a polynomial of the next degree.
use Rattle.std.specs.Prelude.{◌≡◌, ℕ, ◌+◌, ◌<◌, ◌≤◌, List, [], length, get_or}
use Rattle.std.specs.List.{Contains}
use Rattle.std.proofs.lemmas.List.{get_or_default}
use Rattle.axe_algebra.specs.NumberField.{NumberField}
use Rattle.axe_polynomial_algebra.specs.PolynomialsOfLists.{degree_of, IsMonicOver, Divides, IsIrreduciblePolynomial}
use Rattle.axe_polynomial_algebra.proofs.PolynomialNumbers.{numbers_by_degree}
use Rattle.axe_polynomial_algebra.proofs.TrialDivision.{irreducible_by_trial, reducible_by_divisor}
use Rattle.axe_poly.specs.Numbering.{IsIrreducibleUpTo, AreIrreduciblesUpTo}
use mathlib.Core.Path.{sym, ◌∙◌, ap, subst}
use native.Mathlib.Omega.{arith}
use native.Mathlib.Decide.{dec_lt}

module _ (K : NumberField) (s : ℕ) (table : List (List ℕ)) (found : AreIrreduciblesUpTo K s table) where
  pub irreducible_at : (i : ℕ) → i < length table → IsIrreducibleUpTo K s (get_or table i [])
  irreducible_at i inside = found.each i [] inside

  -- degrees ascend
  pub degrees_ascend : (i j : ℕ) → i ≤ j → j < length table →
      degree_of (get_or table i []) ≤ degree_of (get_or table j [])
  degrees_ascend i j order inside = cases (dec_lt (degree_of (get_or table j [])) (degree_of (get_or table i [])))
      (dec_lt i j)
    where
      before : i < length table
      before = omega (arith, order, inside)

      cases : Dec (degree_of (get_or table j []) < degree_of (get_or table i [])) → Dec (i < j) →
          degree_of (get_or table i []) ≤ degree_of (get_or table j [])
      cases (no not_below) _ = omega arith
      cases (yes below) (yes ahead) = absurd (omega (
        arith,
        numbers_by_degree K (get_or table j []) (get_or table i []) (irreducible_at j inside).irreducible.over
            (irreducible_at i before).irreducible.over below,
        found.ascending i j [] ahead inside,
      ))
      cases (yes below) (no same) =
          let e : i ≡ j = omega (arith, order, same) in
          absurd (omega (arith, below, ap (λ k. degree_of (get_or table k [])) e))

  -- one that no polynomial of the table with at most half its degree divides is irreducible
  pub irreducible_of_table : (f : List ℕ) → IsMonicOver K f → degree_of f ≡ s + 1 →
      ((i : ℕ) → i < length table → degree_of (get_or table i []) + degree_of (get_or table i []) ≤ degree_of f →
      ¬ (Divides K (get_or table i []) f)) →
      IsIrreduciblePolynomial K f
  irreducible_of_table f over degree none = irreducible_by_trial K f over λ r irreducible half divides.
      at r half divides
      (found.all r
      (record { irreducible = irreducible; bound = omega (arith, half, degree, irreducible.over.positive) }))
    where
      at : (r : List ℕ) → degree_of r + degree_of r ≤ degree_of f → Divides K r f → Contains table r → ⊥
      at r half divides (k, within, is) =
          let same : get_or table k [] ≡ r = get_or_default table k [] r within ∙ is in
          none k within (omega (arith, half, ap degree_of same))
          (subst (λ (p : List ℕ). Divides K p f) (sym same) divides)

  -- by the first ones, where the next has more than half its degree
  pub irreducible_of_half : (f : List ℕ) (count : ℕ) → IsMonicOver K f → degree_of f ≡ s + 1 → count < length table →
      degree_of f < degree_of (get_or table count []) + degree_of (get_or table count []) →
      ((i : ℕ) → i < count → ¬ (Divides K (get_or table i []) f)) → IsIrreduciblePolynomial K f
  irreducible_of_half f count over degree inside more none = irreducible_of_table f over degree
      (λ i within half. at i within half (dec_lt i count))
    where
      at : (i : ℕ) → i < length table → degree_of (get_or table i []) + degree_of (get_or table i []) ≤ degree_of f →
          Dec (i < count) →
          ¬ (Divides K (get_or table i []) f)
      at i within half (yes before) = none i before
      at i within half (no past) = absurd (omega (arith, half, more, degrees_ascend count i (omega arith) within))

  -- by the first so many: by all, or by those before one that has more than half its degree
  pub irreducible_by_first : (f : List ℕ) (count : ℕ) → IsMonicOver K f → degree_of f ≡ s + 1 → count ≤ length table →
      (count < length table → let p = get_or table count [] in s + 1 < degree_of p + degree_of p) →
      ((i : ℕ) → i < count → ¬ (Divides K (get_or table i []) f)) → IsIrreduciblePolynomial K f
  irreducible_by_first f count over degree few ends none = cases (dec_lt count (length table))
    where
      cases : Dec (count < length table) → IsIrreduciblePolynomial K f
      cases (yes more) = irreducible_of_half f count over degree more (omega (arith, degree, ends more)) none
      cases (no all) = irreducible_of_table f over degree (λ i within _. none i (omega (arith, few, within, all)))

  -- one that a polynomial of the table divides is not irreducible
  pub reducible_of_table : (f : List ℕ) (i : ℕ) → degree_of f ≡ s + 1 → i < length table →
      Divides K (get_or table i []) f → ¬ (IsIrreduciblePolynomial K f)
  reducible_of_table f i degree inside divides =
      reducible_by_divisor K f (get_or table i []) (irreducible_at i inside).irreducible.over
      (omega (arith, degree, (irreducible_at i inside).bound)) divides
