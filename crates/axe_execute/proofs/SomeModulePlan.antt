-- The commands that read a module have a plan, or a problem stands against them.
use Rattle.std.proofs.Common.{refl, ℕ, List, length, Bool, Option, Some, None, Ok, Err, inl, inr}
use Rattle.std.specs.Prelude.{⊤}
use Rattle.std.specs.List.{All}
use Rattle.axe_matrix.specs.Matrices.{MatrixValue, IsMatrix}
use Rattle.axe_spin.specs.Modules.{ModuleValue}
use Rattle.axe_spin.specs.Spinning.{seed_refusal}
use Rattle.axe_spin.specs.Modules.{rows_refusal}
use Rattle.axe_folder.specs.Files.{Files}
use Rattle.axe_plan.specs.Inputs.{matrices_in, text_matrices_in, numbered_names, checked_module, seeded_module}
use Rattle.axe_plan.specs.Meanings.{Answered, Is, Has, HasOr}
use Rattle.axe_spin.specs.Spinning.{HasSpunRows, IsSubmoduleBasis}
use Rattle.axe_execute.specs.ModuleCommands.{ModuleConversionPlan, RowsOf, ActionOn, ActionModulo, RowsPlan, SpunPlan, SpinPlan, QuotientPlan}
use Rattle.axe_plan.proofs.SomeAnswer.{unless_refused_some, then_some}
use Rattle.axe_spin.proofs.SeedLaws.{seed_if_not_refused}
use Rattle.axe_plan.proofs.ReadModules.{IsReadModule}
use Rattle.axe_execute.proofs.PlanParts.{any_value, matrix_then_some}
use Rattle.axe_execute.proofs.OneModulePlan.{rows_are_basis, seeded_if_read, over_if_not_refused, matrices_if_read, module_if_made}
use Rattle.axe_algebra.specs.NumberField.{NumberField}
use Rattle.axe_algebra.specs.Bridge.{field_of, matrix_of}
use Rattle.axe_algebra.specs.Lists.{IsMatrixOver}
use Rattle.axe_algebra.proofs.Duality.{spans_all_or_not}
use Rattle.axe_algebra.proofs.ListEntries.{rows_length}
use Rattle.axe_algebra.proofs.ListInvariance.{invariant_or_not}
use Rattle.axe_field.specs.NumberFields.{number_field}
use Rattle.axe_row.specs.declared.refusals.Refusal.TheVariants.{WholeSpace, NotInvariant}
use Rattle.axe_spin.specs.Modules.{HasSquareGenerators, IsInvariantIn, SpansModule}
use Rattle.axe_spin.proofs.SomeSpun.{some_spun_matrix}
use Rattle.axe_action.specs.Actions.{IsProperActionModulo, quotient_late}
use Rattle.axe_action.proofs.SomeAction.{some_basis_action, some_quotient}
use Rattle.axe_fault.specs.Causes.{Refuses}

-- ---- from texts

pub module_conversion_plan_some : (count : ℕ) (name out : List ℕ) (files : Files) → Answered (ModuleConversionPlan count name out files)
unfolding ModuleConversionPlan
module_conversion_plan_some count name out files =
    then_some (λ matrices. ⊤) (Is (text_matrices_in files (numbered_names name count))) _ (λ before right. any_value before) (_, refl) (λ matrices known.
    then_some (λ m. ⊤) (Is (checked_module matrices)) _ (λ before right. any_value before) (_, refl) (λ m is. (_, refl)))

-- ---- spinning

rows_some : (standard : Bool) (m : ModuleValue) (seed : MatrixValue) → IsReadModule m → IsMatrix seed → Answered (RowsOf standard m seed)
unfolding RowsOf
rows_some standard m seed is well =
    unless_refused_some (seed_refusal m seed) (Has (λ rows. HasSpunRows standard m seed rows × IsMatrix rows))
    (λ e. let found = some_spun_matrix standard m seed is.over is.dim_fits well (seed_if_not_refused m seed e) in (Ok found.0, found.1))

action_some : (m : ModuleValue) (rows : MatrixValue) → IsSubmoduleBasis m rows → Answered (ActionOn m rows)
unfolding ActionOn
action_some m rows basis = let found = some_basis_action m rows basis.invariant in (Ok found.0, found.1)

rows_plan_some : (action : Option (List ℕ)) (out : List ℕ) (m : ModuleValue) (rows : MatrixValue) → IsSubmoduleBasis m rows → Answered (RowsPlan action out m rows)
rows_plan_some None out m rows basis = (_, refl)
rows_plan_some (Some name) out m rows basis =
    then_some (λ a. ⊤) (ActionOn m rows) _ (λ before right. any_value before) (action_some m rows basis) (λ a known. (_, refl))

spun_plan_some : (standard : Bool) (action : Option (List ℕ)) (out : List ℕ) (seeded : ModuleValue × MatrixValue) → IsReadModule seeded.0 × IsMatrix seeded.1 →
    Answered (SpunPlan standard action out seeded)
unfolding SpunPlan
spun_plan_some standard action out (m, seed) (is, well) =
    then_some (λ rows. IsSubmoduleBasis m rows × IsMatrix rows) (RowsOf standard m seed) (RowsPlan action out m) (rows_are_basis standard m seed is well)
    (rows_some standard m seed is well) (λ rows known. rows_plan_some action out m rows known.0)

pub spin_plan_some : (count : ℕ) (standard : Bool) (action : Option (List ℕ)) (name seed out : List ℕ) (files : Files) →
    Answered (SpinPlan count standard action name seed out files)
spin_plan_some count standard action name seed out files =
    then_some (λ (seeded : ModuleValue × MatrixValue). IsReadModule seeded.0 × IsMatrix seeded.1) (Is (seeded_module count name seed files)) (SpunPlan standard action out)
    (seeded_if_read count name seed files) (_, refl) (λ seeded known. spun_plan_some standard action out seeded known)

-- ---- quotients

has_quotient_some : (m : ModuleValue) (rows : MatrixValue) → HasSquareGenerators m → IsMatrixOver (number_field m.order) m.dim rows.rows →
    Answered (HasOr (λ action. IsProperActionModulo m rows action × HasSquareGenerators action) (quotient_late m rows))
has_quotient_some m rows square over =
    cases (spans_all_or_not (field_of K) m.dim (length rows.rows) (matrix_of K rows.rows) (rows_length K m.dim rows.rows over))
    (invariant_or_not K m.dim m.generators rows.rows square over)
  where
    K : NumberField
    K = number_field m.order

    cases : Dec (SpansModule m rows) → Dec (IsInvariantIn m rows) →
        Answered (HasOr (λ action. IsProperActionModulo m rows action × HasSquareGenerators action) (quotient_late m rows))
    cases (yes whole) _ = (Err (Refuses WholeSpace), (WholeSpace, inl (refl, whole), refl))
    cases (no proper) (no varies) = (Err (Refuses NotInvariant), (NotInvariant, inr (refl, (proper, varies)), refl))
    cases (no proper) (yes invariant) =
        let found = some_quotient m rows square over in
        (Ok found.0, ((proper, invariant, found.1.0), found.1.1))

modulo_some : (m : ModuleValue) (rows : MatrixValue) → IsReadModule m → IsMatrix rows → Answered (ActionModulo m rows)
unfolding ActionModulo
modulo_some m rows is well =
    unless_refused_some (rows_refusal m rows) (HasOr (λ action. IsProperActionModulo m rows action × HasSquareGenerators action) (quotient_late m rows))
    (λ e. has_quotient_some m rows is.over.square (over_if_not_refused m rows well e))

pub quotient_plan_some : (count : ℕ) (subspace name out : List ℕ) (files : Files) → Answered (QuotientPlan count subspace name out files)
unfolding QuotientPlan
quotient_plan_some count subspace name out files =
    matrix_then_some files subspace _ (λ rows well.
    then_some (All IsMatrix) (Is (matrices_in files (numbered_names name count))) _ (matrices_if_read files (numbered_names name count)) (_, refl) (λ matrices wells.
    then_some IsReadModule (Is (checked_module matrices)) _ (module_if_made matrices wells) (_, refl) (λ m is.
    then_some (λ a. ⊤) (ActionModulo m rows) _ (λ before right. any_value before) (modulo_some m rows is well) (λ a known. (_, refl)))))
