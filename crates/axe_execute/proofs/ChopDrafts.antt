-- The draft of `chop`: its steps, and what it says of what the words find.
use Rattle.std.proofs.Common.{◌≡◌, sym, ◌∙◌, ap, ℕ, List, [], ◌∷◌, append_assoc, append-nil, map, string_bytes, String, Result, Ok, Err}
use Rattle.std.specs.declared.alloc.Global.{Global}
use Rattle.std.specs.Map.{keys_of, values_of}
use mathlib.Core.List.{map-map}
use Rattle.indexmap.specs.IndexMap.{keys, values}
use Rattle.axe_matrix.specs.Matrices.{MatrixValue}
use Rattle.axe_spin.specs.Modules.{ModuleValue}
use Rattle.axe_iso.specs.Forms.{FormValue}
use Rattle.axe_series.specs.Runs.{complete, open_section}
use Rattle.axe_series.specs.Series.{factors_of_forms}
use Rattle.axe_report.specs.Names.{names_of}
use Rattle.axe_report.specs.declared.report.ReportHeader.{ReportHeader}
use Rattle.axe_report.specs.Reports.{WitnessValue}
use Rattle.axe_chop.specs.Reported.{dims_of_factors, module_header, factor_witnesses}
use Rattle.axe_chop.proofs.FormWitnesses.{witnesses_are}
use Rattle.axe_chop.specs.Answers.{IsChopped, IsUndecided, factor_modules}
use Rattle.axe_chop.specs.declared.chopped.Factor.{Factor}
use Rattle.axe_chop.specs.declared.chopped.Chopped.{Chopped}
use Rattle.axe_file.specs.Packed.{packed}
use Rattle.axe_fault.specs.Causes.{Problem, StaysOpen}
use Rattle.axe_plan.specs.Plans.{Step, Put, Remove, Plan}
use Rattle.axe_arguments.specs.declared.command.ModuleFiles.{ModuleFiles}
use Rattle.axe_plan.specs.Meanings.{Is}
use Rattle.axe_plan.specs.Outputs.{put_module}
use Rattle.axe_plan.specs.Drafts.{with_step, with_steps, with_text}
use Rattle.axe_execute.specs.SeriesFiles.{report_file, basis_file, factor_name, constituents_of, series_report_bytes}
use Rattle.axe_execute.specs.ChopCommand.{put_factors, series_steps, series_plan, chop_answer, FoundPlan}

-- ---- the factors

-- the steps that put the factors of these entries
abbrev pub put_entries : ModuleFiles → List ℕ → List (String Global × Factor) → List Step
put_entries stored name entries =
    put_factors stored name (map string_bytes (keys_of entries)) (map (λ (factor : Factor). factor.form.matrices) (values_of entries))

-- one of the factors that are left is put
pub one_factor_put : (stored : ModuleFiles) (before after whole : Plan) (name stem : List ℕ) (m : ModuleValue) (entry : String Global × Factor)
    (left rest : List (String Global × Factor)) → with_steps before (put_entries stored name left) ≡ whole → left ≡ entry ∷ rest →
    stem ≡ factor_name name (string_bytes entry.0) → m ≡ entry.1.form.matrices → after ≡ with_steps before (put_module stored stem m) →
    with_steps after (put_entries stored name rest) ≡ whole
one_factor_put stored before after whole name stem m entry left rest so_far first named is put =
    ap (λ plan. with_steps plan (put_entries stored name rest)) put
    ∙ (λ j. with_steps (with_steps before (put_module stored (named j) (is j))) (put_entries stored name rest))
    ∙ ap (λ (steps : List Step). record { steps = steps; shown = before.shown })
    (append_assoc before.steps (put_module stored (factor_name name (string_bytes entry.0)) entry.1.form.matrices) (put_entries stored name rest))
    ∙ ap (λ entries. with_steps before (put_entries stored name entries)) (sym first) ∙ so_far

-- none is left
pub all_factors_put : (stored : ModuleFiles) (before whole : Plan) (name : List ℕ) (left : List (String Global × Factor)) → with_steps before (put_entries stored name left) ≡ whole →
    left ≡ [] → before ≡ whole
all_factors_put stored before whole name left so_far none =
    ap (λ (steps : List Step). record { steps = steps; shown = before.shown }) (sym (append-nil before.steps))
    ∙ ap (λ entries. with_steps before (put_entries stored name entries)) (sym none) ∙ so_far

-- ---- the series

-- the factors of a series and the module whose series it is
module _ (m : ModuleValue) (seed words : ℕ) (chopped : Chopped) (is : IsChopped m seed words chopped) where
  modules_are : factor_modules chopped ≡ factors_of_forms is.found.forms
  modules_are =
      sym (map-map (λ (form : FormValue). form.matrices) (λ (factor : Factor). factor.form) (values chopped.factors))
      ∙ ap (map (λ (form : FormValue). form.matrices)) is.named.factors.forms_are

  -- the factors' keys are their names by the rule
  pub keys_are_names : map string_bytes (keys chopped.factors) ≡ constituents_of (factor_modules chopped)
  keys_are_names =
      is.named.factors.names_are
      ∙ ap names_of (sym (map-map (λ (n : ModuleValue). n.dim) (λ (form : FormValue). form.matrices) is.found.forms)
      ∙ ap dims_of_factors (sym modules_are))

  -- the plan of the series is what is found
  pub found_plan_of_series : (stored : ModuleFiles) (name : List ℕ) (answer : Result Plan Problem) →
      Is (Ok (series_plan stored name (module_header m seed words) chopped.basis (factor_modules chopped) (factor_witnesses chopped) chopped.series.items)) answer → FoundPlan stored name m seed words answer
  unfolding FoundPlan
  found_plan_of_series stored name answer right = (Ok (complete is.found), is.run, sym plan_is ∙ right)
    where
      plan_is : Ok (series_plan stored name (module_header m seed words) chopped.basis (factor_modules chopped) (factor_witnesses chopped) chopped.series.items)
          ≡ chop_answer stored name m seed words (complete is.found)
      plan_is = λ j. Ok (series_plan stored name (module_header m seed words) (is.basis_is j) (modules_are j) (witnesses_are is.found chopped is.named j) (is.named.series j))

-- the section that stays undecided is what is found
pub found_open_section : (stored : ModuleFiles) (name : List ℕ) (m : ModuleValue) (seed words : ℕ) (basis b : MatrixValue) (offset o dim d : ℕ) → b ≡ basis → o ≡ offset →
    d ≡ dim → IsUndecided m seed words basis offset dim → FoundPlan stored name m seed words (Err (StaysOpen b o d))
unfolding FoundPlan
found_open_section stored name m seed words basis b offset o dim d is_basis is_offset is_dim is =
    (Ok (open_section basis.rows offset dim), is.run, λ j. Err (StaysOpen ((sym is.basis_is ∙ sym is_basis) j) (sym is_offset j) (sym is_dim j)))

-- ---- the draft of a series

-- the steps of a series, added one after the other
pub steps_put : (stored : ModuleFiles) (name : List ℕ) (basis : MatrixValue) (names : List (List ℕ)) (factors : List ModuleValue) (report : List ℕ) (a b c d e : Plan) →
    b ≡ with_step a (Remove (report_file name)) → c ≡ with_step b (Put (basis_file name) (packed basis)) →
    d ≡ with_steps c (put_factors stored name names factors) → e ≡ with_step d (Put (report_file name) report) →
    e ≡ with_steps a (series_steps stored name basis names factors report)
steps_put stored name basis names factors report a b c d e of_b of_c of_d of_e =
    of_e ∙ ap (λ plan. with_step plan (Put (report_file name) report))
    (of_d ∙ ap (λ plan. with_steps plan (put_factors stored name names factors))
    (of_c ∙ ap (λ plan. with_step plan (Put (basis_file name) (packed basis))) of_b))
    ∙ ap (λ (steps : List Step). record { steps = steps; shown = a.shown }) (simp append_assoc)

pub series_drafted : (stored : ModuleFiles) (name stem : List ℕ) (header : ReportHeader) (basis : MatrixValue) (factors : List ModuleValue) (witnesses : List WitnessValue)
    (places : List ℕ) (names : List (List ℕ)) (copy text : List ℕ) (before after : Plan) → before ≡ record { steps = []; shown = [] } →
    after ≡ with_steps before (series_steps stored stem basis names factors copy) → stem ≡ name → names ≡ constituents_of factors →
    copy ≡ text → text ≡ series_report_bytes header factors witnesses places → with_text after text ≡ series_plan stored name header basis factors witnesses places
unfolding series_plan
series_drafted stored name stem header basis factors witnesses places names copy text before after is_new is_put is_stem are_names is_copy is_text =
    ap (λ plan. with_text plan text) (is_put ∙ ap (λ plan. with_steps plan (series_steps stored stem basis names factors copy)) is_new)
    ∙ (λ j. record { steps = series_steps stored (is_stem j) basis (are_names j) factors ((is_copy ∙ is_text) j); shown = is_text j })
