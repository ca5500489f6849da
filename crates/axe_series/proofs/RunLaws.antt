-- What a run finds is true; and no section of a module with few points stays undecided.
use Rattle.std.specs.Prelude.{◌≡◌, ℕ, List, [], ◌∷◌, ◌++◌, length, slice_get, Option, Some, suc}
use Rattle.std.proofs.lemmas.List.{length-append, append-nil, map-append, length-map}
use Rattle.axe_algebra.specs.SpansOfLists.{IsIndependent, SpansEverything}
use Rattle.axe_algebra.specs.ModulesOfLists.{IsInvariant}
use Rattle.axe_algebra.specs.Lists.{IsMatrixOver}
use Rattle.axe_field.specs.Order.{order_number}
use Rattle.axe_field.specs.NumberFields.{number_field}
use Rattle.axe_row.specs.Rows.{RowValue}
use Rattle.axe_matrix.specs.Matrices.{MatrixValue}
use Rattle.axe_poly.specs.Polys.{PolyValue}
use Rattle.axe_spin.specs.Modules.{ModuleValue, IsModule}
use Rattle.axe_word.specs.Words.{IsWordIn}
use Rattle.axe_word.proofs.DrawingLaws.{drawn_word-over}
use Rattle.axe_norton.specs.declared.verdicts.At.TheVariants
use Rattle.axe_norton.specs.declared.verdicts.Verdict.TheVariants.{Irreducible, Reducible, Undecided}
use Rattle.axe_norton.specs.Spaces.{IsProperSubmodule, IsIrreducibleModule}
use Rattle.axe_norton.specs.Verdicts.{Decides, word_of_seed}
use Rattle.axe_norton.proofs.TruthLaws.{rows_over_field}
use Rattle.axe_norton.proofs.SaidLaws.{said_is_true}
use Rattle.axe_iso.specs.Forms.{FormValue}
use Rattle.axe_series.specs.Sections.{SectionValue, IsCut, rows_of_sections, lifted_rows}
use Rattle.axe_series.specs.Runs.{FoundValue, Outcome, Runs, all_found, undecided, reducible, known, new, IsKnownAs, IsNewForm, AreOfOthers, with_place, with_factor}
use Rattle.axe_series.specs.Series.{IsSeries, IsOpenSection, basis_of_rows, factors_of_forms, IsTrueOutcome, AreInOrderOfAppearance}
use Rattle.axe_series.specs.Theorems.{RunsFindWhatIsTrue}
use Rattle.axe_series.proofs.SectionChain.{IsSectionOf, chain_over, chain_invariant, nothing_invariant}
use Rattle.axe_series.proofs.SeriesOfChain.{series_of_chain, open_of_chain}
use Rattle.axe_series.proofs.Places.{known_appears, new_appears, last_there}
use Rattle.axe_series.proofs.Factors.{AreFactors, ArePlaced, one_more_placed, placed_by_more}
use Rattle.axe_series.proofs.LiftedSections.{lifted_section}
use Rattle.axe_series.proofs.CutSections.{cut_takes_place}
use Rattle.axe_series.proofs.OneCut.{reducible_is_submodule, reducible_is_matrix}
use Rattle.axe_series.proofs.RunState.{IsState, first_state, state_after_cut, state_after_place}
use Rattle.axe_series.proofs.FactorSteps.{known_factor, known_takes_place, known_below, new_takes_place, new_factors}
use mathlib.Core.Path.{refl, sym, ◌∙◌, ap, subst}
use native.Mathlib.Omega.{arith}

-- ---- what words decide of a module is true

drawn_is_word : (m : ModuleValue) (seed j : ℕ) → IsModule m → IsWordIn m (word_of_seed m seed j)
drawn_is_word m seed j is = record { over = drawn_word-over seed j (order_number m.order) (length m.generators) m.order refl is.some_generator }

decided_irreducible : (m : ModuleValue) (seed words word : ℕ) (poly : Option PolyValue) (v : RowValue) → IsModule m →
    Decides m seed words (Irreducible word poly v) → IsIrreducibleModule m
decided_irreducible m seed words word poly v is decides =
    said_is_true m is (word_of_seed m seed word) (TheVariants.Irreducible poly v) (drawn_is_word m seed word is) decides.says

-- ---- the steps

module _ (m : ModuleValue) (is : IsModule m) (seed words : ℕ) (s : SectionValue) (rest : List SectionValue) (found : FoundValue) (state : IsState m (s ∷ rest) found) where
  of_module : IsSectionOf m s
  of_module = state.chain.0

  pub state_after_reducible : (space : MatrixValue) (sub quotient : SectionValue) → Decides s.action seed words (Reducible space) → IsCut s space sub quotient →
      IsState m (sub ∷ quotient ∷ rest) found
  state_after_reducible space sub quotient decides cut =
      state_after_cut m s rest found state sub quotient
      (cut_takes_place m found.rows s of_module state.chain.1 space sub quotient cut (proper.field ∙ of_module.field) proper.columns
      (rows_over_field m.order s.action.dim space (proper.field ∙ of_module.field) proper.columns (reducible_is_matrix s.action seed words space decides))
      (subst (λ o. IsIndependent (number_field o) space.rows) of_module.field proper.independent))
    where
      proper : IsProperSubmodule s.action space
      proper = reducible_is_submodule s.action seed words space of_module.is_module decides

  pub state_after_known : (number : ℕ) (t : MatrixValue) → IsKnownAs found.forms s.action number t →
      IsState m rest (with_place found (lifted_rows s t).rows number)
  state_after_known number t is_known =
      state_after_place m s rest found state (lifted_section s is_known.form.matrices t) found.forms (found.places ++ number ∷ [])
      (known_takes_place m found.rows s of_module state.chain.1 found.forms state.factors number t is_known)
      (one_more_placed (factors_of_forms found.forms) state.done found.places (lifted_section s is_known.form.matrices t) number state.placed
      (known_factor m found.rows s of_module state.chain.1 found.forms state.factors number t is_known))
      state.factors
      (known_appears (length (factors_of_forms found.forms)) number found.places
      (known_below m found.rows s of_module state.chain.1 found.forms state.factors number t is_known) state.order)

  pub state_after_new : (word : ℕ) (poly : Option PolyValue) (v : RowValue) (form : FormValue) →
      Decides s.action seed words (Irreducible word poly v) → AreOfOthers found.forms s.action →
      IsNewForm s.action seed word poly v form → IsState m rest (with_factor found (lifted_rows s form.basis).rows form)
  state_after_new word poly v form decides others is_new =
      state_after_place m s rest found state (lifted_section s form.matrices form.basis) (found.forms ++ form ∷ []) (found.places ++ length found.forms ∷ [])
      (new_takes_place m found.rows s of_module state.chain.1 found.forms state.factors seed word poly v form irreducible others is_new)
      (subst (λ (factors : List ModuleValue). ArePlaced factors (state.done ++ lifted_section s form.matrices form.basis ∷ []) (found.places ++ length found.forms ∷ []))
      (sym factors_are)
      (one_more_placed (old ++ form.matrices ∷ []) state.done found.places (lifted_section s form.matrices form.basis) (length found.forms)
      (placed_by_more old (form.matrices ∷ []) state.done found.places state.placed)
      (subst (λ k. slice_get (old ++ form.matrices ∷ []) k ≡ Some form.matrices) count (last_there old form.matrices []))))
      (subst (AreFactors m) (sym factors_are)
      (new_factors m found.rows s of_module state.chain.1 found.forms state.factors seed word poly v form irreducible others is_new))
      (subst (λ k. AreInOrderOfAppearance k (found.places ++ length found.forms ∷ [])) more
      (subst (λ k. AreInOrderOfAppearance (suc k) (found.places ++ k ∷ [])) count (new_appears (length old) found.places state.order)))
    where
      old : List ModuleValue
      old = factors_of_forms found.forms

      irreducible : IsIrreducibleModule s.action
      irreducible = decided_irreducible s.action seed words word poly v of_module.is_module decides

      factors_are : factors_of_forms (found.forms ++ form ∷ []) ≡ old ++ form.matrices ∷ []
      factors_are = map-append (λ (f : FormValue). f.matrices) found.forms (form ∷ [])

      count : length old ≡ length found.forms
      count = length-map found.forms (λ (f : FormValue). f.matrices)

      more : suc (length found.forms) ≡ length (factors_of_forms (found.forms ++ form ∷ []))
      more = omega (arith, length-map (found.forms ++ form ∷ []) (λ (f : FormValue). f.matrices), length-append found.forms (form ∷ []))

-- ---- the ends

module _ (m : ModuleValue) (is : IsModule m) where
  end_is_series : (found : FoundValue) → IsState m [] found → IsSeries m (basis_of_rows m found.rows) (factors_of_forms found.forms) found.places
  end_is_series found state =
      subst (λ (rows : List (List ℕ)). IsSeries m (basis_of_rows m rows) (factors_of_forms found.forms) found.places) (sym state.rows_are)
      (series_of_chain m is state.done state.done_chain (ap length (sym all) ∙ state.size) (subst (SpansEverything (number_field m.order) m.dim) all state.spans)
      (factors_of_forms found.forms) found.places state.placed state.factors state.order)
    where
      all : found.rows ++ rows_of_sections [] ≡ rows_of_sections state.done
      all = append-nil found.rows ∙ state.rows_are

  end_is_open : (seed words : ℕ) (s : SectionValue) (rest : List SectionValue) (found : FoundValue) → IsState m (s ∷ rest) found →
      Decides s.action seed words Undecided →
      IsOpenSection m seed words (basis_of_rows m (found.rows ++ rows_of_sections (s ∷ rest))) (length found.rows) s.action.dim
  end_is_open seed words s rest found state decides =
      open_of_chain m is found.rows
      (subst (IsMatrixOver (number_field m.order) m.dim) (sym state.rows_are) (chain_over m [] state.done state.done_chain))
      (subst (IsInvariant (number_field m.order) m.dim m.generators) (sym state.rows_are) (chain_invariant m [] state.done state.done_chain (nothing_invariant m)))
      s rest state.chain state.size state.spans seed words decides

pub run_is_true : (m : ModuleValue) → IsModule m → (seed words : ℕ) {sections : List SectionValue} {found : FoundValue} {outcome : Outcome} →
    Runs seed words sections found outcome → IsState m sections found → IsTrueOutcome m seed words outcome
run_is_true m is seed words {found = found} all_found state = end_is_series m is found state
run_is_true m is seed words {found = found} (undecided {section} {rest} decides) state = end_is_open m is seed words section rest found state decides
run_is_true m is seed words {found = found} (reducible {section} {rest} space sub quotient decides cut run) state =
    run_is_true m is seed words run (state_after_reducible m is seed words section rest found state space sub quotient decides cut)
run_is_true m is seed words {found = found} (known {section} {rest} word poly v number t decides is_known run) state =
    run_is_true m is seed words run (state_after_known m is seed words section rest found state number t is_known)
run_is_true m is seed words {found = found} (new {section} {rest} word poly v form decides others is_new run) state =
    run_is_true m is seed words run (state_after_new m is seed words section rest found state word poly v form decides others is_new)

pub runs_are_true : RunsFindWhatIsTrue
runs_are_true m seed words outcome is run = run_is_true m is seed words run (first_state m is)
