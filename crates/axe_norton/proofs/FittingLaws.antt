-- Which polynomials are irreducible, and which of them fit the value of a word.
use Rattle.std.specs.Prelude.{◌≡◌, ◌↔◌, ℕ, ◌+◌, ◌<◌, List, [], ◌∷◌, length, Option, Some, None, IsTrue, Bool, true, false, eqb}
use Rattle.std.specs.Option.{is_some}
use Rattle.std.specs.List.{Contains}
use Rattle.std.proofs.lemmas.Bool.{false≢true, eqb-true, eqb-false}
use Rattle.std.proofs.lemmas.List.{length-map}
use Rattle.std.proofs.lemmas.List.Elements.{All-head}
use Rattle.axe_algebra.specs.NumberField.{NumberField}
use Rattle.axe_algebra.specs.Lists.{IsMatrixOver}
use Rattle.axe_polynomial_algebra.specs.PolynomialsOfLists.{degree_of, IsIrreduciblePolynomial, IsFactorUpTo, Fits}
use Rattle.axe_polynomial_algebra.proofs.TrialDivision.{irreducible_by_trial, reducible_by_divisor}
use Rattle.axe_polynomial_algebra.proofs.VectorFits.{fits_exactly}
use Rattle.axe_field.specs.NumberFields.{number_field}
use Rattle.axe_matrix.specs.Matrices.{MatrixValue}
use Rattle.axe_poly.specs.Polys.{PolyValue, IsPoly, coefficients_of, AreFactors}
use Rattle.axe_spin.specs.Modules.{ModuleValue}
use Rattle.axe_word.specs.Words.{WordValue}
use Rattle.axe_word.specs.declared.tested.Tested.{Tested}
use Rattle.axe_word.specs.Tested.{IsTestedByPoly}
use Rattle.axe_word.proofs.ValueLaws.{value-is_unique}
use Rattle.axe_word.proofs.TestedLaws.{poly_value}
use Rattle.axe_norton.specs.OneVector.{FitsWord}
use Rattle.axe_norton.specs.Searches.{FindsFitsWord, IsSquareIn}
use Rattle.axe_norton.proofs.TestedLaws.{IsNullSpaceOver, poly_value_square, tested_over}
use mathlib.Core.Path.{refl, sym, ◌∙◌, subst}
use native.Mathlib.Omega.{arith}

-- ---- irreducible polynomials

module _ (p : PolyValue) (over : IsPoly p) where
  abbrev K : NumberField
  K = number_field p.order

  -- a polynomial of degree 1 is irreducible
  pub linear_is_irreducible : degree_of p.coefficients < 2 → IsIrreduciblePolynomial K p.coefficients
  linear_is_irreducible linear =
      irreducible_by_trial K p.coefficients over (λ r irreducible small divides. absurd (omega (arith, irreducible.over.positive, small, linear)))

  module _ (half : ℕ) where
    -- one with no irreducible divisor of at most half its degree is irreducible
    without_factors : (factors : List PolyValue) → AreFactors p half factors → length factors ≡ 0 → degree_of p.coefficients < half + half + 2 →
        IsIrreduciblePolynomial K p.coefficients
    without_factors factors are none below =
        irreducible_by_trial K p.coefficients over (λ r irreducible small divides.
        unlisted r (are.listed.all r (record { irreducible = irreducible; divides = divides; bound = omega (arith, small, below) })))
      where
        unlisted : (r : List ℕ) → ¬ (Contains (coefficients_of factors) r)
        unlisted r (k, within, is) = absurd (omega (arith, within, none, length-map factors (λ (f : PolyValue). f.coefficients)))

    -- and one with such a divisor is not
    with_factors : (factors : List PolyValue) → AreFactors p half factors → ¬ (length factors ≡ 0) → half < degree_of p.coefficients →
        ¬ (IsIrreduciblePolynomial K p.coefficients)
    with_factors [] are some below = absurd (some refl)
    with_factors (first ∷ others) are some below =
        let factor : IsFactorUpTo K p.coefficients half first.coefficients =
        All-head (IsFactorUpTo K p.coefficients half) first.coefficients (coefficients_of others) are.listed.each in
        reducible_by_divisor K p.coefficients first.coefficients factor.irreducible.over (omega (arith, factor.bound, below)) factor.divides

    pub irreducible_without_factors : (factors : List PolyValue) → AreFactors p half factors → half < degree_of p.coefficients →
        degree_of p.coefficients < half + half + 2 → (count : ℕ) → count ≡ length factors → (is : Bool) → is ≡ eqb count 0 →
        IsTrue is ↔ IsIrreduciblePolynomial K p.coefficients
    irreducible_without_factors factors are above below count counted true tells = (
      λ _. without_factors factors are (sym counted ∙ eqb-true count 0 (sym tells)) below,
      λ _. refl,
    )
    irreducible_without_factors factors are above below count counted false tells = (
      λ e. absurd (false≢true e),
      λ irreducible. absurd (with_factors factors are (λ none. eqb-false count 0 (sym tells) (counted ∙ none)) above irreducible),
    )

-- ---- those that fit

module _ (m : ModuleValue) (word : WordValue) (p : PolyValue) (field : p.order ≡ m.order) where
  -- one that is not irreducible doesn't
  pub unfit_where_reducible : ¬ (IsIrreduciblePolynomial (number_field p.order) p.coefficients) → ¬ (FitsWord m word p)
  unfit_where_reducible reducible fits =
      reducible (subst (λ o. IsIrreduciblePolynomial (number_field o) p.coefficients) (sym field) fits.irreducible)

  module _ (irreducible : IsIrreduciblePolynomial (number_field p.order) p.coefficients) (t : Tested) (is : IsTestedByPoly m word p t) where
    abbrev L : NumberField
    L = number_field m.order

    over : IsIrreduciblePolynomial L p.coefficients
    over = subst (λ o. IsIrreduciblePolynomial (number_field o) p.coefficients) field irreducible

    square : IsSquareIn m t.matrix
    square = poly_value_square m word p is.argument t.matrix is.is_value is.tested_at.value

    null : IsNullSpaceOver m.order m.dim t.matrix.rows t.null_space
    null = tested_over m t square is.tested_at.tested

    -- one that is fits exactly where its degree is the dimension of the null space of its value at the word's
    at_value : Fits L is.argument.rows p.coefficients ↔ (length t.null_space.rows ≡ degree_of p.coefficients)
    at_value = fits_exactly L is.argument.rows p.coefficients t.matrix.rows t.null_space.rows over.over
        (poly_value m word p is.argument t.matrix is.is_value is.tested_at.value)
        (subst (λ n. IsMatrixOver L n t.null_space.rows) (sym is.is_value.value.square.length_is) null.over) null.basis

    pub fits_by_nullity : length t.null_space.rows ≡ degree_of p.coefficients → FindsFitsWord m word p (Some t)
    fits_by_nullity nullity = (
      record {
        field = field;
        irreducible = over;
        fits = λ y is_y. subst (λ (z : MatrixValue). Fits L z.rows p.coefficients) (value-is_unique m word is.argument y is.is_value is_y)
            (at_value.1 nullity);
      },
      is,
    )

    pub unfit_by_nullity : ¬ (length t.null_space.rows ≡ degree_of p.coefficients) → FindsFitsWord m word p None
    unfit_by_nullity other fits = other (at_value.0 (fits.fits is.argument is.is_value))

  -- whether it fits is whether there is a tested value
  pub fits_where_tested : (found : Option Tested) → FindsFitsWord m word p found → (is : Bool) → is ≡ is_some found → IsTrue is ↔ FitsWord m word p
  fits_where_tested (Some t) finds is tells = (λ _. finds.0, λ _. tells)
  fits_where_tested None finds is tells = (λ e. absurd (false≢true (sym tells ∙ e)), λ fits. absurd (finds fits))
