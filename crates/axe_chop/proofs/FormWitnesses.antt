-- What `chop` finds has witnesses: words of the run, and polynomials of small degree over the module's field.
use Rattle.std.proofs.Common.{◌≡◌, ℕ, ◌-◌, ◌<◌, ◌≤◌, List, length, get_or, All, option_map, Option, Some, None, sym, ap, subst, ◌∙◌, arith}
use mathlib.Core.List.{map-map}
use Rattle.std.specs.List.{slice_get}
use Rattle.std.proofs.lemmas.List.{length-map, get_or-map}
use Rattle.std.proofs.lemmas.List.Elements.{All-nil, All-push, All-map, All-get_or}
use Rattle.std.proofs.lemmas.Option.{slice_get-get_or}
use Rattle.indexmap.specs.IndexMap.{values}
use Rattle.axe_field.specs.Order.{Order, order_number}
use Rattle.axe_poly.specs.Polys.{PolyValue}
use Rattle.axe_poly.proofs.PolyLaws.{power_fits, below_are_elements}
use Rattle.axe_spin.specs.Modules.{ModuleValue, IsModule}
use Rattle.axe_iso.specs.Forms.{FormValue, IsForm, HasSmallNullSpace}
use Rattle.axe_series.specs.Sections.{SectionValue}
use Rattle.axe_series.specs.Runs.{FoundValue, Outcome, complete, open_section, RunOf, Runs, all_found, undecided, reducible, known, new}
use Rattle.axe_series.specs.Series.{IsSeries, basis_of_rows, factors_of_forms}
use Rattle.axe_series.proofs.RunLaws.{runs_are_true}
use Rattle.axe_chop.specs.Chopped.{IsNamed}
use Rattle.axe_report.specs.Reports.{IsPolyOver, IsWitnessUnder}
use Rattle.axe_chop.specs.Answers.{IsChopped, factor_modules}
use Rattle.axe_chop.specs.Reported.{witness_of, witnesses_of_forms, factor_witnesses, module_header, AreWitnessesOf}
use Rattle.axe_chop.specs.declared.chopped.Factor.{Factor}
use Rattle.axe_chop.specs.declared.chopped.Chopped.{Chopped}

-- ---- words

-- a form by one of the words of a run
pub record IsFormBy (seed words : ℕ) (form : FormValue) : Type 0 where
  pub is_form : IsForm form
  pub within : form.word ≤ words
  pub of_seed : form.seed ≡ seed

-- what a run finds, after what was found so far
abbrev AreAllBy : ℕ → ℕ → Outcome → Type 0
AreAllBy seed words (complete found) = All (IsFormBy seed words) found.forms
AreAllBy seed words (open_section rows offset dim) = Unit {0}

forms_of_run : (seed words : ℕ) {sections : List SectionValue} {found : FoundValue} {outcome : Outcome} → Runs seed words sections found outcome →
    All (IsFormBy seed words) found.forms → AreAllBy seed words outcome
forms_of_run seed words all_found all = all
forms_of_run seed words (undecided decides) all = tt
forms_of_run seed words (reducible space sub quotient decides cut run) all = forms_of_run seed words run all
forms_of_run seed words (known word poly v number t decides is_known run) all = forms_of_run seed words run all
forms_of_run seed words {found = found} (new word poly v form decides others is_new run) all =
    forms_of_run seed words run (All-push (IsFormBy seed words) found.forms form all (record {
      is_form = is_new.is_form;
      within = omega (arith, is_new.from.word_is, decides.within);
      of_seed = is_new.from.seed_is;
    }))

-- ---- polynomials

poly_over : (form : FormValue) → IsForm form → IsPolyOver (order_number form.matrices.order) (option_map (λ (p : PolyValue). p.coefficients) form.poly)
poly_over form is = over form.matrices.order form.poly is.over.small
  where
    over : (o : Order) (poly : Option PolyValue) → HasSmallNullSpace o form.matrices.dim form.matrices.generators form.seed form.word poly →
        IsPolyOver (order_number o) (option_map (λ (p : PolyValue). p.coefficients) poly)
    over o None small = tt
    over o (Some p) small = record {
      some_degree = small.irreducible.over.positive;
      small = power_fits o (length p.coefficients - 1) small.small;
      elements = below_are_elements o p.coefficients small.irreducible.over.elements;
      monic = small.irreducible.over.leads;
    }

-- ---- the factors are over the module's field

factor_over : (m : ModuleValue) (basis : _) (factors : List ModuleValue) (places : List ℕ) → IsSeries m basis factors places → (k : ℕ) (factor : ModuleValue) → k < length factors →
    slice_get factors k ≡ Some factor → factor.order ≡ m.order
factor_over m basis factors places series k factor below there =
    let place = series.order.appear k below in
    (series.diagonal place.0 k factor place.1 there).field ∙ series.triangular.conjugate.field

-- ---- what a run finds

module _ (m : ModuleValue) (is : IsModule m) (seed words : ℕ) (found : FoundValue) (run : RunOf m seed words (complete found)) where
  abbrev factors : List ModuleValue
  factors = factors_of_forms found.forms

  pub all_by : All (IsFormBy seed words) found.forms
  all_by = forms_of_run seed words run (All-nil (IsFormBy seed words))

  each_over : (k : ℕ) (d : FormValue) → k < length found.forms → (get_or found.forms k d).matrices.order ≡ m.order
  each_over k d below =
      let inside : k < length factors = omega (arith, below, length-map found.forms (λ (form : FormValue). form.matrices)) in
      factor_over m (basis_of_rows m found.rows) factors found.places (runs_are_true m seed words (complete found) is run) k (get_or found.forms k d).matrices inside
      (slice_get-get_or factors k d.matrices inside
      ∙ ap (λ (x : ModuleValue). Some x) (get_or-map (λ (form : FormValue). form.matrices) found.forms k d d.matrices below))

  each_under : All (λ (form : FormValue). IsWitnessUnder (module_header m seed words) (witness_of form)) found.forms
  each_under k d below =
      let by = All-get_or (IsFormBy seed words) found.forms k d below all_by in
      record {
        word = by.within;
        poly = subst (λ (o : Order). IsPolyOver (order_number o) (option_map (λ (p : PolyValue). p.coefficients) (get_or found.forms k d).poly)) (each_over k d below)
            (poly_over (get_or found.forms k d) by.is_form);
      }

  pub run_has_witnesses : AreWitnessesOf (module_header m seed words) factors (witnesses_of_forms found.forms)
  run_has_witnesses = record {
    count = length-map found.forms witness_of ∙ sym (length-map found.forms (λ (form : FormValue). form.matrices));
    each = All-map (IsWitnessUnder (module_header m seed words)) witness_of found.forms each_under;
  }

-- ---- what is named

-- the factors' witnesses are those of the forms that were found
pub witnesses_are : (found : FoundValue) (chopped : Chopped) → IsNamed found chopped → factor_witnesses chopped ≡ witnesses_of_forms found.forms
witnesses_are found chopped named =
    sym (map-map witness_of (λ (factor : Factor). factor.form) (values chopped.factors)) ∙ ap witnesses_of_forms named.factors.forms_are

modules_are : (found : FoundValue) (chopped : Chopped) → IsNamed found chopped → factor_modules chopped ≡ factors_of_forms found.forms
modules_are found chopped named =
    sym (map-map (λ (form : FormValue). form.matrices) (λ (factor : Factor). factor.form) (values chopped.factors)) ∙ ap factors_of_forms named.factors.forms_are

pub chopped_has_witnesses : (m : ModuleValue) → IsModule m → (seed words : ℕ) (chopped : Chopped) → IsChopped m seed words chopped →
    AreWitnessesOf (module_header m seed words) (factor_modules chopped) (factor_witnesses chopped)
chopped_has_witnesses m is seed words chopped answer =
    subst (λ (factors : List ModuleValue). AreWitnessesOf (module_header m seed words) factors (factor_witnesses chopped)) (sym (modules_are answer.found chopped answer.named))
    (subst (AreWitnessesOf (module_header m seed words) (factors_of_forms answer.found.forms)) (sym (witnesses_are answer.found chopped answer.named))
    (run_has_witnesses m is seed words answer.found answer.run))
