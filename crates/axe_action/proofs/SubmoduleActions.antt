-- The action on a basis of a submodule is never refused.
use Rattle.std.proofs.Common.{◌≡◌, refl, None, Ok, Err, ◌⊎◌, inl, inr}
use Rattle.axe_row.specs.declared.refusals.Refusal.{Refusal}
use Rattle.axe_row.specs.declared.refusals.Refusal.TheVariants.{Memory}
use Rattle.axe_row.specs.Refusals.{AnswersOr}
use Rattle.axe_matrix.specs.Matrices.{MatrixValue}
use Rattle.axe_spin.specs.Modules.{ModuleValue}
use Rattle.axe_spin.specs.Spinning.{IsSubmoduleBasis}
use Rattle.axe_spin.proofs.SeedLaws.{vectors_accepted}
use Rattle.axe_echelon.proofs.Exits.{asked_late}
use Rattle.axe_action.specs.Actions.{sub_action_refusal, action_late, IsActionOverRows}

basis_accepted : (m : ModuleValue) (rows : MatrixValue) → IsSubmoduleBasis m rows → sub_action_refusal m rows ≡ None
basis_accepted m rows basis = rw (vectors_accepted m rows basis.field basis.columns, basis.nonzero) refl

pub only_memory : (m : ModuleValue) (rows : MatrixValue) (refusal : Refusal) → IsSubmoduleBasis m rows →
    AnswersOr (sub_action_refusal m rows) (IsActionOverRows m rows) (action_late m rows) (Err refusal) → refusal ≡ Memory
only_memory m rows refusal basis answers =
    cases (asked_late (sub_action_refusal m rows) (IsActionOverRows m rows) (action_late m rows) (Err refusal) (basis_accepted m rows basis) answers)
  where
    cases : (refusal ≡ Memory) ⊎ action_late m rows refusal → refusal ≡ Memory
    cases (inl memory) = memory
    cases (inr (named, varies)) = absurd (varies basis.invariant)

pub action_on_basis : (m : ModuleValue) (rows : MatrixValue) (action : ModuleValue) → IsSubmoduleBasis m rows →
    AnswersOr (sub_action_refusal m rows) (IsActionOverRows m rows) (action_late m rows) (Ok action) → IsActionOverRows m rows action
action_on_basis m rows action basis =
    asked_late (sub_action_refusal m rows) (IsActionOverRows m rows) (action_late m rows) (Ok action) (basis_accepted m rows basis)
