-- The commands that read a module have at most one plan.
use Rattle.std.proofs.Common.{◌≡◌, refl, sym, ◌∙◌, subst, ℕ, List, Bool, Option, Some, None, Result, Ok, Err, IfOk, inl, inr}
use Rattle.std.specs.Prelude.{⊤}
use Rattle.std.specs.List.{All}
use Rattle.axe_algebra.specs.Lists.{IsMatrixOver}
use Rattle.axe_algebra.specs.SpansOfLists.{IsIndependent}
use Rattle.axe_field.specs.NumberFields.{number_field}
use Rattle.axe_row.specs.declared.refusals.Refusal.{Refusal}
use Rattle.axe_matrix.specs.Matrices.{MatrixValue, IsMatrix}
use Rattle.axe_spin.specs.Modules.{ModuleValue}
use Rattle.axe_spin.specs.Spinning.{seed_refusal}
use Rattle.axe_spin.specs.Modules.{rows_refusal}
use Rattle.axe_folder.specs.Files.{Files}
use Rattle.axe_fault.specs.Causes.{Problem}
use Rattle.axe_plan.specs.Inputs.{matrices_in, text_matrices_in, numbered_names, checked_module, seeded_module}
use Rattle.axe_plan.specs.Outputs.{put_packed}
use Rattle.axe_plan.specs.Meanings.{AtMostOne, Is, Has, HasOr, UnlessRefused}
use Rattle.axe_spin.specs.Spinning.{HasSpunRows, IsSubmoduleBasis}
use Rattle.axe_spin.specs.Modules.{HasSquareGenerators}
use Rattle.axe_execute.specs.ModuleCommands.{ModuleConversionPlan, RowsOf, ActionOn, ActionModulo, RowsPlan, SpunPlan, SpinPlan, QuotientPlan}
use Rattle.axe_plan.proofs.OneAnswer.{is_one, has_one, has_or_one, unless_refused_one, then_one}
use Rattle.axe_spin.proofs.OneSpun.{spun_matrix_is_one}
use Rattle.axe_spin.proofs.SeedLaws.{vectors_of, vectors_over}
use Rattle.axe_spin.proofs.SubmoduleLaws.{spun_is_submodule}
use Rattle.axe_action.proofs.OneAction.{basis_action_is_one, quotient_is_one}
use Rattle.axe_action.specs.Actions.{IsProperActionModulo, quotient_late}
use Rattle.axe_plan.proofs.ReadModules.{IsReadModule, made_is_module, matrices_are_matrices, seeded_is_module}
use Rattle.axe_execute.proofs.PlanParts.{any_value, matrix_then_one}

-- ---- from texts

pub module_conversion_plan_one : (count : ℕ) (name out : List ℕ) (files : Files) → AtMostOne (ModuleConversionPlan count name out files)
unfolding ModuleConversionPlan
module_conversion_plan_one count name out files =
    then_one (λ matrices. ⊤) (Is (text_matrices_in files (numbered_names name count))) _ (λ before right. any_value before) (is_one _) (λ matrices known.
    then_one (λ m. ⊤) (Is (checked_module matrices)) _ (λ before right. any_value before) (is_one _) (λ m is. is_one _))

-- ---- spinning

rows_one : (standard : Bool) (m : ModuleValue) (seed : MatrixValue) → AtMostOne (RowsOf standard m seed)
unfolding RowsOf
rows_one standard m seed =
    unless_refused_one (seed_refusal m seed) (Has (λ rows. HasSpunRows standard m seed rows × IsMatrix rows))
    (λ e. has_one (λ rows. HasSpunRows standard m seed rows × IsMatrix rows) (spun_matrix_is_one standard m seed))

-- the rows are a basis of a submodule
pub rows_are_basis : (standard : Bool) (m : ModuleValue) (seed : MatrixValue) → IsReadModule m → IsMatrix seed → (before : Result MatrixValue Problem) →
    RowsOf standard m seed before → IfOk before (λ rows. IsSubmoduleBasis m rows × IsMatrix rows)
unfolding RowsOf
rows_are_basis standard m seed is well before right = cases (seed_refusal m seed) refl before right
  where
    cases : (refusal : Option Refusal) → seed_refusal m seed ≡ refusal → (before : Result MatrixValue Problem) →
        UnlessRefused refusal (Has (λ rows. HasSpunRows standard m seed rows × IsMatrix rows)) before → IfOk before (λ rows. IsSubmoduleBasis m rows × IsMatrix rows)
    cases None e (Ok rows) (spun, of_rows) = (spun_is_submodule standard m seed rows is.over.square well e spun, of_rows)
    cases None e (Err problem) none = tt
    cases (Some refusal) e (Ok rows) refused = cc
    cases (Some refusal) e (Err problem) refused = tt

action_one : (m : ModuleValue) (rows : MatrixValue) → IsSubmoduleBasis m rows → AtMostOne (ActionOn m rows)
unfolding ActionOn
action_one m rows basis =
    has_one _ (λ a b. basis_action_is_one m rows a b (subst (λ o. IsIndependent (number_field o) rows.rows) basis.field basis.independent))

rows_plan_one : (action : Option (List ℕ)) (out : List ℕ) (m : ModuleValue) (rows : MatrixValue) → IsSubmoduleBasis m rows → AtMostOne (RowsPlan action out m rows)
rows_plan_one None out m rows basis = is_one (Ok (put_packed out rows))
rows_plan_one (Some name) out m rows basis =
    then_one (λ a. ⊤) (ActionOn m rows) _ (λ before right. any_value before) (action_one m rows basis) (λ a known. is_one _)

spun_plan_one : (standard : Bool) (action : Option (List ℕ)) (out : List ℕ) (seeded : ModuleValue × MatrixValue) → IsReadModule seeded.0 × IsMatrix seeded.1 →
    AtMostOne (SpunPlan standard action out seeded)
unfolding SpunPlan
spun_plan_one standard action out (m, seed) (is, well) =
    then_one (λ rows. IsSubmoduleBasis m rows × IsMatrix rows) (RowsOf standard m seed) (RowsPlan action out m) (rows_are_basis standard m seed is well)
    (rows_one standard m seed) (λ rows known. rows_plan_one action out m rows known.0)

pub seeded_if_read : (count : ℕ) (name seed : List ℕ) (files : Files) (before : Result (ModuleValue × MatrixValue) Problem) →
    Is (seeded_module count name seed files) before → IfOk before (λ (seeded : ModuleValue × MatrixValue). IsReadModule seeded.0 × IsMatrix seeded.1)
seeded_if_read count name seed files before e = subst (λ answer. IfOk answer (λ (seeded : ModuleValue × MatrixValue). IsReadModule seeded.0 × IsMatrix seeded.1)) e (seeded_is_module count name seed files)

pub spin_plan_one : (count : ℕ) (standard : Bool) (action : Option (List ℕ)) (name seed out : List ℕ) (files : Files) →
    AtMostOne (SpinPlan count standard action name seed out files)
spin_plan_one count standard action name seed out files =
    then_one (λ (seeded : ModuleValue × MatrixValue). IsReadModule seeded.0 × IsMatrix seeded.1) (Is (seeded_module count name seed files)) (SpunPlan standard action out)
    (seeded_if_read count name seed files) (is_one (seeded_module count name seed files)) (λ seeded known. spun_plan_one standard action out seeded known)

-- ---- quotients

-- rows that are not refused are vectors of the module
pub over_if_not_refused : (m : ModuleValue) (rows : MatrixValue) → IsMatrix rows → rows_refusal m rows ≡ None → IsMatrixOver (number_field m.order) m.dim rows.rows
over_if_not_refused m rows well e = let vectors = vectors_of m rows e in vectors_over m rows vectors.field vectors.columns well

quotient_late_is_one : (m : ModuleValue) (rows : MatrixValue) (first second : Refusal) → quotient_late m rows first → quotient_late m rows second → first ≡ second
quotient_late_is_one m rows first second (inl (e, whole)) (inl (f, _)) = e ∙ sym f
quotient_late_is_one m rows first second (inl (e, whole)) (inr (f, (proper, varies))) = absurd (proper whole)
quotient_late_is_one m rows first second (inr (e, (proper, varies))) (inl (f, whole)) = absurd (proper whole)
quotient_late_is_one m rows first second (inr (e, (proper, varies))) (inr (f, _)) = e ∙ sym f

quotient_or_late : (m : ModuleValue) (rows : MatrixValue) (action : ModuleValue) (refusal : Refusal) → IsProperActionModulo m rows action × HasSquareGenerators action →
    ¬ (quotient_late m rows refusal)
quotient_or_late m rows action refusal ((proper, invariant, acts), square) (inl (e, whole)) = proper whole
quotient_or_late m rows action refusal ((proper, invariant, acts), square) (inr (e, (_, varies))) = varies invariant

modulo_one : (m : ModuleValue) (rows : MatrixValue) → IsReadModule m → IsMatrix rows → AtMostOne (ActionModulo m rows)
unfolding ActionModulo
modulo_one m rows is well =
    unless_refused_one (rows_refusal m rows) (HasOr (λ action. IsProperActionModulo m rows action × HasSquareGenerators action) (quotient_late m rows))
    (λ e. has_or_one (λ action. IsProperActionModulo m rows action × HasSquareGenerators action) (quotient_late m rows)
    (λ a b of_a of_b. quotient_is_one m rows a b is.over.square (over_if_not_refused m rows well e) of_a.0.2 of_a.1 of_b.0.2 of_b.1)
    (quotient_late_is_one m rows) (quotient_or_late m rows))

pub matrices_if_read : (files : Files) (names : List (List ℕ)) (before : Result (List MatrixValue) Problem) → Is (matrices_in files names) before →
    IfOk before (All IsMatrix)
matrices_if_read files names before e = subst (λ answer. IfOk answer (All IsMatrix)) e (matrices_are_matrices files names)

pub module_if_made : (matrices : List MatrixValue) → All IsMatrix matrices → (before : Result ModuleValue Problem) → Is (checked_module matrices) before →
    IfOk before IsReadModule
module_if_made matrices well before e = subst (λ answer. IfOk answer IsReadModule) e (made_is_module matrices well)

pub quotient_plan_one : (count : ℕ) (subspace name out : List ℕ) (files : Files) → AtMostOne (QuotientPlan count subspace name out files)
unfolding QuotientPlan
quotient_plan_one count subspace name out files =
    matrix_then_one files subspace _ (λ rows well.
    then_one (All IsMatrix) (Is (matrices_in files (numbered_names name count))) _ (matrices_if_read files (numbered_names name count)) (is_one _) (λ matrices wells.
    then_one IsReadModule (Is (checked_module matrices)) _ (module_if_made matrices wells) (is_one _) (λ m is.
    then_one (λ a. ⊤) (ActionModulo m rows) _ (λ before right. any_value before) (modulo_one m rows is well) (λ a known. is_one _))))
