-- The word and the polynomial of a form do not leave its matrices open.
use Rattle.std.proofs.Common.{◌≡◌, ℕ, ◌<◌, ◌⊎◌, length, Option, Some, None, option_map, inl, inr, sym, subst, ◌∙◌, arith}
use Rattle.axe_algebra.specs.Field.{Field}
use Rattle.axe_algebra.specs.Vectors.{Matrix, unit_vector, zero_vector}
use Rattle.axe_algebra.specs.Spans.{InSpan, IsNullVector}
use Rattle.axe_algebra.specs.Bridge.{matrix_of, vector_of}
use Rattle.axe_algebra.proofs.ProductLaws.{times_none}
use Rattle.axe_polynomial_algebra.specs.PolynomialValues
use Rattle.axe_polynomial_algebra.specs.PolynomialsOfLists.{degree_of}
use Rattle.axe_polynomial_algebra.proofs.VectorFits.{nullity_is_unique}
use Rattle.axe_field.specs.Order.{order_number}
use Rattle.axe_field.specs.NumberFields.{number_field, gf}
use Rattle.axe_reduction.specs.Solutions.{IsInvertibleMatrix}
use Rattle.axe_poly.specs.Polys.{PolyValue, poly_with}
use Rattle.axe_spin.specs.Modules.{ModuleValue}
use Rattle.axe_word.specs.PointsOfMatrix.{point_count, most_points}
use Rattle.axe_word.specs.Words.{WordValue}
use Rattle.axe_norton.specs.declared.verdicts.At.TheVariants.{Left}
use Rattle.axe_norton.specs.OneVector.{FitsWord}
use Rattle.axe_norton.specs.Verdicts.{Says, IsLeftWithMany, word_of_seed}
use Rattle.axe_norton.proofs.OpenLaws.{own_square, no_rows_of_invertible}
use Rattle.axe_norton.proofs.TestedLaws.{value_square}
use Rattle.axe_iso.specs.Forms.{FormValue, IsForm, HasNullity, FitsMatrix, HasFewNullPoints, IsNullSpaceOf, HasSmallNullSpaceOf, deciding_matrix, drawn_value}
use Rattle.axe_iso.proofs.FormLaws.{nullity_of_space, deciding_space}
use Rattle.axe_check.specs.Certificates.{SaysWith, WitnessLeavesOpen}

-- the first unit vector is not zero
unit_is_some : (F : Field) → ¬ (unit_vector F 0 ≡ zero_vector F)
unfolding unit_vector
unit_is_some F e = F.one-not-zero (λ i. e i 0)

module _ (m : ModuleValue) (seed number : ℕ) where
  abbrev F : Field
  F = gf m.order

  abbrev word : WordValue
  word = word_of_seed m seed number

  abbrev x : Matrix (gf m.order)
  x = drawn_value m.order m.dim m.generators seed number

  -- no vector but zero is in the span of no rows
  none_spanned : (k : ℕ) (b : Matrix (gf m.order)) → k ≡ 0 → ¬ (InSpan F k b (unit_vector F 0))
  none_spanned k b none spanned =
      let of_none : InSpan F 0 b (unit_vector F 0) = subst (λ n. InSpan F n b (unit_vector F 0)) none spanned in
      unit_is_some F (of_none.combines ∙ times_none F of_none.coefficients b)

  -- a word whose value has a null space with some vectors, and few points, does not leave the module open
  pub few_decide : IsNullVector F m.dim x (unit_vector F 0) → HasFewNullPoints m.order m.dim x → ¬ (Says m word Left)
  few_decide null few says = cases says.tells.0
    where
      space : IsNullSpaceOf m seed number None says.tested.null_space
      space = record { matrix = says.tested.matrix; is_tested = says.is_tested }

      rows : ℕ
      rows = length says.tested.null_space.rows

      nullity : HasNullity m.order m.dim x rows
      nullity = nullity_of_space m seed number None says.tested.null_space space

      as_many : rows ≡ few.nullity
      as_many = nullity_is_unique F m.dim x rows nullity.basis few.nullity few.is_nullity.basis nullity.spans nullity.independent few.is_nullity.spans few.is_nullity.independent

      field : says.tested.null_space.order ≡ m.order
      field = (deciding_space m seed number None says.tested.null_space space).field

      cases : IsInvertibleMatrix says.tested.matrix ⊎ IsLeftWithMany m says.tested.matrix says.tested.null_space → ⊥
      cases (inl invertible) =
          none_spanned rows nullity.basis
          (no_rows_of_invertible says.tested.matrix says.tested.null_space (own_square m says.tested.matrix (value_square m word says.tested.matrix says.is_tested.value))
          says.is_tested.tested.null_space invertible) (nullity.spans.back (unit_vector F 0) null)
      cases (inr many) =
          let counted : most_points < point_count (order_number m.order) few.nullity =
          subst (λ n. most_points < point_count (order_number m.order) n) as_many
          (subst (λ o. most_points < point_count (order_number o) (length says.tested.null_space.rows)) field many.many) in
          absurd (omega (arith, counted, few.few))

  -- a polynomial that fits the matrix fits the word
  fits_word : (p : PolyValue) → FitsMatrix m.order m.dim x p → FitsWord m word p
  fits_word p fits = record {
    field = fits.field;
    irreducible = fits.irreducible;
    fits = λ y is_value.
        subst (λ n. PolynomialValues.Fits F n (matrix_of (number_field m.order) y.rows) (degree_of p.coefficients) (vector_of (number_field m.order) p.coefficients))
        (sym is_value.value.square.length_is)
        (subst (λ (a : Matrix (gf m.order)). PolynomialValues.Fits F m.dim a (degree_of p.coefficients) (vector_of (number_field m.order) p.coefficients))
        (sym is_value.value.value) fits.fits);
  }

  -- so with the polynomial it does not leave the module open, either
  fitting_decides : (p q : PolyValue) → FitsMatrix m.order m.dim x p → q ≡ p → ¬ (SaysWith m word (Some q) Left)
  fitting_decides p q fits same (inl (fit, says)) = says.tells
  fitting_decides p q fits same (inr (not_so, says)) = not_so (subst (FitsWord m word) (sym same) (fits_word p fits))

-- what a form keeps: its word, with its polynomial, does not leave its matrices open
pub form_decides : (form : FormValue) → IsForm form →
    ¬ (WitnessLeavesOpen form.matrices form.seed (record { word = form.word; poly = option_map (λ (p : PolyValue). p.coefficients) form.poly }))
form_decides form is = cases form.poly is.over.null is.over.small
  where
    cases : (poly : Option PolyValue) →
        IsNullVector (gf form.matrices.order) form.matrices.dim
        (deciding_matrix form.matrices.order form.matrices.dim form.matrices.generators form.seed form.word poly) (unit_vector (gf form.matrices.order) 0) →
        HasSmallNullSpaceOf form.matrices form.seed form.word poly →
        ¬ (WitnessLeavesOpen form.matrices form.seed (record { word = form.word; poly = option_map (λ (p : PolyValue). p.coefficients) poly }))
    cases None null small = few_decide form.matrices form.seed form.word null small
    cases (Some p) null small =
        fitting_decides form.matrices form.seed form.word p (poly_with form.matrices.order p.coefficients) small
        (sym (λ i. record { order = small.field i; coefficients = p.coefficients }))
