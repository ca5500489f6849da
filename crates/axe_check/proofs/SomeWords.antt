-- The words that a report names say something of the constituents.
use Rattle.std.proofs.Common.{◌≡◌, ℕ, inl, inr, length, Option, Some, None, refl, sym, subst, arith}
use Rattle.std.proofs.Math.Decide.{map_dec}
use Rattle.axe_algebra.specs.Lists.{IsMatrixOver}
use Rattle.axe_polynomial_algebra.specs.PolynomialsOfLists.{degree_of, Fits}
use Rattle.axe_polynomial_algebra.proofs.ProperDivisors.{irreducible_or_not}
use Rattle.axe_polynomial_algebra.proofs.VectorFits.{fits_is_decidable, fits_exactly}
use Rattle.axe_field.specs.NumberFields.{number_field}
use Rattle.axe_matrix.specs.Matrices.{MatrixValue, IsMatrix}
use Rattle.axe_poly.specs.Polys.{PolyValue}
use Rattle.axe_spin.specs.Modules.{ModuleValue, IsModule}
use Rattle.axe_word.specs.Tested.{IsTestedByPoly}
use Rattle.axe_word.specs.Words.{WordValue, IsWordIn, IsValueOf}
use Rattle.axe_word.proofs.DrawingLaws.{drawn_word-over}
use Rattle.axe_word.proofs.TestedLaws.{poly_value}
use Rattle.axe_word.proofs.ValueLaws.{value-is_unique}
use Rattle.axe_field.specs.Order.{order_number}
use Rattle.axe_norton.specs.declared.verdicts.At.{At}
use Rattle.axe_norton.specs.OneVector.{FitsWord, SaysByPoly}
use Rattle.axe_norton.specs.Searches.{IsSquareIn}
use Rattle.axe_norton.specs.Verdicts.{Says, IsTrueOf, word_of_seed}
use Rattle.axe_norton.proofs.OneVectorLaws.{told_is_true, tested_at_value}
use Rattle.axe_norton.proofs.SaidLaws.{said_is_true}
use Rattle.axe_norton.proofs.TestedLaws.{IsNullSpaceOver, poly_value_square, tested_over}
use Rattle.axe_norton.proofs.OpenLaws.{own_square}
use Rattle.axe_norton.proofs.TestedLaws.{value_square}
use Rattle.axe_iso.specs.Forms.{FormValue}
use Rattle.axe_iso.proofs.SomeForm.{some_value, some_form}
use Rattle.axe_iso.proofs.Forming.{form_is_kept}
use Rattle.axe_series.proofs.SomeFactor.{SomeTested, some_tested}
use Rattle.axe_series.proofs.SomeForm.{IsShownBy}
use Rattle.axe_series.proofs.SomeVerdict.{some_said, some_told_by_one}
use Rattle.axe_report.proofs.Searching.{dec_both}
use Rattle.axe_report.specs.Reports.{WitnessValue}
use Rattle.axe_check.specs.Certificates.{SaysWith, named_poly, WitnessSays}
use Rattle.axe_check.specs.Steps.{IsFormOf}
use Rattle.axe_check.proofs.Deciding.{same_order}
use Rattle.axe_check.proofs.WordLaws.{form_of_itself}

-- what is said of a module, which is true
abbrev pub SaidWith : ModuleValue → WordValue → Option PolyValue → Type 0
SaidWith m word poly = (answer : At) × SaysWith m word poly answer × IsTrueOf m answer

module _ (m : ModuleValue) (is : IsModule m) (word : WordValue) (is_word : IsWordIn m word) where
  said_alone : (answer : At) × (Says m word answer × IsTrueOf m answer)
  said_alone = let said = some_said m word is is_word in (said.0, (said.1, said_is_true m is word said.0 is_word said.1))

  module _ (p : PolyValue) (x : MatrixValue) (value : IsValueOf m word x) (formed : IsMatrix x) where
    -- whether a polynomial fits the word
    fits_or_not : Dec (FitsWord m word p)
    fits_or_not =
        map_dec
        (λ s. record {
          field = s.0;
          irreducible = s.1.0;
          fits = λ y is_y. subst (λ (z : MatrixValue). Fits (number_field m.order) z.rows p.coefficients) (value-is_unique m word x y value is_y) s.1.1;
        })
        (λ fits. (fits.field, (fits.irreducible, fits.fits x value)))
        (dec_both (same_order p.order m.order) (dec_both (irreducible_or_not (number_field m.order) p.coefficients)
        (fits_is_decidable (number_field m.order) m.dim x.rows p.coefficients value.value.square)))

    -- one that does says something
    module _ (fits : FitsWord m word p) where
      from_tested : SomeTested p x → (answer : At) × (SaysByPoly m word p answer × IsTrueOf m answer)
      from_tested (t, (is_tested, well)) =
          let by : IsTestedByPoly m word p t = tested_at_value m word x value p t is_tested in
          let square : IsSquareIn m t.matrix = poly_value_square m word p x t.matrix value is_tested.value in
          let null : IsNullSpaceOver m.order m.dim t.matrix.rows t.null_space = tested_over m t square is_tested.tested in
          let rows : length t.null_space.rows ≡ degree_of p.coefficients =
          (fits_exactly (number_field m.order) x.rows p.coefficients t.matrix.rows t.null_space.rows fits.irreducible.over
          (poly_value m word p x t.matrix value is_tested.value)
          (subst (λ n. IsMatrixOver (number_field m.order) n t.null_space.rows) (sym value.value.square.length_is) null.over) null.basis).0 (fits.fits x value) in
          let told =
          some_told_by_one m is t.matrix square well t.null_space is_tested.tested.null_space is_tested.tested.well_formed
          (omega (arith, rows, fits.irreducible.over.positive)) p in (
            told.0,
            (
              record { tested = t; is_tested = by; tells = told.1 },
              told_is_true m word p fits t by is is_word told.0 told.1,
            ),
          )

      said_by_poly : (answer : At) × (SaysByPoly m word p answer × IsTrueOf m answer)
      said_by_poly = from_tested (some_tested x (own_square m x (value_square m word x value)) formed p)

    said_with : Dec (FitsWord m word p) → SaidWith m word (Some p)
    said_with (yes fits) = let said = said_by_poly fits in (said.0, inl (fits, said.1.0), said.1.1)
    said_with (no not_so) = (said_alone.0, inr (not_so, said_alone.1.0), said_alone.1.1)

  -- a word, with a polynomial or none, says something
  pub some_said_with : (poly : Option PolyValue) → SaidWith m word poly
  some_said_with None = (said_alone.0, said_alone.1.0, said_alone.1.1)
  some_said_with (Some p) =
      let (x, found) = some_value m word is is_word in
      said_with p x found.0 found.1 (fits_or_not p x found.0 found.1)

-- so does a witness
pub some_witness_says : (m : ModuleValue) (is : IsModule m) (seed : ℕ) (witness : WitnessValue) → (answer : At) × WitnessSays m seed witness answer × IsTrueOf m answer
some_witness_says m is seed witness =
    some_said_with m is (word_of_seed m seed witness.word)
    (record { over = drawn_word-over seed witness.word (order_number m.order) (length m.generators) m.order refl is.some_generator })
    (named_poly m.order witness.poly)

-- a module that is shown to be irreducible has a form
pub form_of_shown : (m : ModuleValue) (seed number : ℕ) (poly : Option PolyValue) (v : _) → IsModule m → IsShownBy m seed number poly v → (form : FormValue) × IsFormOf m form
form_of_shown m seed number poly v is shown =
    let (form, from) = some_form m seed number poly v is shown.of_module shown.generates in (
      form,
      form_of_itself m seed number poly v form
          (form_is_kept m seed number poly v form is shown.of_module shown.generates shown.null shown.small from) from,
    )
