-- One more place: the rows of an irreducible section, lifted by the isomorphism to a known factor or by a new form's basis.
use Rattle.std.proofs.Common.{◌≡◌, ℕ, List, [], ◌∷◌, ◌<◌, ◌++◌, length, Option, None, Result, sym, ap, subst, ◌∙◌, arith, length-append}
use Rattle.axe_row.specs.Rows.{RowValue}
use Rattle.axe_row.specs.Refusals.{Answers}
use Rattle.axe_row.specs.declared.refusals.Refusal.{Refusal}
use Rattle.axe_matrix.specs.Matrices.{MatrixValue}
use Rattle.axe_poly.specs.Polys.{PolyValue}
use Rattle.axe_spin.specs.Modules.{ModuleValue}
use Rattle.axe_iso.specs.Forms.{FormValue, IsFormFrom}
use Rattle.axe_series.specs.Sections.{SectionValue, lifted_rows}
use Rattle.axe_series.specs.Runs.{FoundValue, with_place, with_factor, AreOfOthers, IsKnownAs, IsNewForm}
use Rattle.axe_series.proofs.SomeForm.{IsShownBy, irreducible_is_shown}
use Rattle.axe_norton.specs.Verdicts.{Decides}
use Rattle.axe_norton.specs.declared.verdicts.Verdict.TheVariants.{Irreducible}
use Rattle.axe_chop.specs.Searches.{IsPlacedIn}
use Rattle.axe_chop.proofs.Lifting.{IsLift}

-- the isomorphism to a known factor is a square matrix of the module's vectors
pub known_lift : {forms : _} (m : ModuleValue) (number : ℕ) (t : MatrixValue) → IsKnownAs forms m number t → IsLift m t
known_lift m number t known =
    let is = known.matches.isomorphism in
    record {
      field = is.field ∙ sym is.one_field;
      columns = is.columns ∙ sym is.one_dimension;
      count = is.isomorphism.square.length_is ∙ sym is.one_dimension;
    }

-- the basis of a form is one
pub form_lift : (m : ModuleValue) (seed word : ℕ) (poly : Option PolyValue) (v : RowValue) (form : FormValue) →
    IsFormFrom m seed word poly v form → IsLift m form.basis
form_lift m seed word poly v form from = record { field = from.standard.field; columns = from.standard.columns; count = from.square }

-- what a verdict shows of the section's action, and of a polynomial that is lent
pub shown_in : (m other : ModuleValue) (seed word : ℕ) (poly lent : Option PolyValue) (v : RowValue) → other ≡ m → lent ≡ poly →
    (words : ℕ) × Decides m seed words (Irreducible word poly v) → IsShownBy other seed word lent v
shown_in m other seed word poly lent v same same_poly (words, decides) =
    subst (λ p. IsShownBy other seed word p v) (sym same_poly)
    (subst (λ n. IsShownBy n seed word poly v) (sym same) (irreducible_is_shown m seed words word poly v decides))

-- the form of that action
pub form_in : (m other : ModuleValue) (seed word : ℕ) (poly lent : Option PolyValue) (v : RowValue) (result : Result FormValue Refusal) →
    other ≡ m → lent ≡ poly → Answers None (IsFormFrom other seed word lent v) result → Answers None (IsFormFrom m seed word poly v) result
form_in m other seed word poly lent v result same same_poly form =
    subst (λ (n : ModuleValue). Answers None (IsFormFrom n seed word poly v) result) same
    (subst (λ (p : Option PolyValue). Answers None (IsFormFrom other seed word p v) result) same_poly form)

-- a factor that is known of the same forms and the same module
pub known_in : (forms others : List FormValue) (m n : ModuleValue) (number : ℕ) (t : MatrixValue) → others ≡ forms → n ≡ m →
    IsKnownAs others n number t → IsKnownAs forms m number t
known_in forms others m n number t same_forms same known =
    subst (λ (fs : List FormValue). IsKnownAs fs m number t) same_forms (subst (λ (x : ModuleValue). IsKnownAs others x number t) same known)

-- the place of a known factor
pub placed_as_known : (old next : FoundValue) (section : SectionValue) (seed word : ℕ) (poly : Option PolyValue) (v : RowValue) (number : ℕ)
    (t : MatrixValue) →
    IsKnownAs old.forms section.action number t → next ≡ with_place old (lifted_rows section t).rows number →
    IsPlacedIn old section seed word poly v next
placed_as_known old next section seed word poly v number t known next_is =
    subst (λ (found : FoundValue). IsPlacedIn old section seed word poly v found) (sym next_is) (IsPlacedIn.as_known number t known)

-- the place of a new factor, and its form
abbrev placed_with_form : FoundValue → FormValue → FoundValue
placed_with_form found form = record { rows = found.rows; forms = found.forms ++ form ∷ []; places = found.places }

placed_as_new : (old next : FoundValue) (section : SectionValue) (seed word : ℕ) (poly : Option PolyValue) (v : RowValue) (form : FormValue)
    (forms : List FormValue) (t : MatrixValue) (number : ℕ) → AreOfOthers old.forms section.action → IsNewForm section.action seed word poly v form →
    t ≡ form.basis → number ≡ length old.forms →
    next ≡ with_place old (lifted_rows section t).rows number → forms ≡ next.forms ++ form ∷ [] →
    IsPlacedIn old section seed word poly v (record { rows = next.rows; forms = forms; places = next.places })
placed_as_new old next section seed word poly v form forms t number others new t_is number_is next_is forms_is =
    subst (λ (found : FoundValue). IsPlacedIn old section seed word poly v found) (sym same) (IsPlacedIn.as_new form others new)
  where
    here : next ≡ with_place old (lifted_rows section form.basis).rows (length old.forms)
    here = next_is ∙ (λ i. with_place old (lifted_rows section (t_is i)).rows (number_is i))

    same : record next { forms = forms } ≡ with_factor old (lifted_rows section form.basis).rows form
    same =
        (λ i. record { rows = next.rows; forms = forms_is i; places = next.places })
        ∙ ap (λ (found : FoundValue). placed_with_form found form) here

-- forms that are none of the same module
pub others_in : (forms others : List FormValue) (m n : ModuleValue) → others ≡ forms → n ≡ m → AreOfOthers others n → AreOfOthers forms m
others_in forms others m n same_forms same h =
    subst (λ (fs : List FormValue). AreOfOthers fs m) same_forms (subst (λ (x : ModuleValue). AreOfOthers others x) same h)

-- a known factor's number is one of a form
pub known_number : (forms : List FormValue) (m : ModuleValue) (number : ℕ) (t : MatrixValue) → IsKnownAs forms m number t →
    number < length forms
known_number forms m number t known =
    omega (
      arith,
      ap (λ (fs : List FormValue). length fs) known.among,
      length-append known.earlier (known.form ∷ known.later),
      known.number_is,
    )

-- ---- rows that are lifted

module _ (old next : FoundValue) (section : SectionValue) (t rows : MatrixValue) (number : ℕ)
    (rows_are : rows ≡ lifted_rows section t) (next_is : next ≡ with_place old rows.rows number) where
  next_by_lift : next ≡ with_place old (lifted_rows section t).rows number
  next_by_lift = next_is ∙ ap (λ (r : MatrixValue). with_place old r.rows number) rows_are

  -- by the basis of a new form
  pub lifted_as_new : (seed word : ℕ) (poly : Option PolyValue) (v : RowValue) (form : FormValue) (forms : List FormValue) →
      AreOfOthers old.forms section.action → IsNewForm section.action seed word poly v form → t ≡ form.basis → number ≡ length old.forms →
      forms ≡ next.forms ++ form ∷ [] →
      IsPlacedIn old section seed word poly v (record { rows = next.rows; forms = forms; places = next.places })
  lifted_as_new seed word poly v form forms others new t_is number_is forms_is =
      placed_as_new old next section seed word poly v form forms t number others new t_is number_is next_by_lift forms_is
