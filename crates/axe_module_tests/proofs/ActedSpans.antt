-- A space on which a module was found to act is invariant.
use Rattle.std.proofs.Common.{Option, Some, None, Ok}
use Rattle.axe_row.specs.Refusals.{AnswersOr}
use Rattle.axe_row.specs.declared.refusals.Refusal.{Refusal}
use Rattle.axe_matrix.specs.Matrices.{MatrixValue}
use Rattle.axe_spin.specs.Modules.{ModuleValue, IsInvariantIn}
use Rattle.axe_action.specs.Actions.{IsActionOnSpan, action_late}

pub invariant_if_acted : (m : ModuleValue) (rows : MatrixValue) (why : Option Refusal) (action : ModuleValue) →
    AnswersOr why (λ action. IsInvariantIn m rows × IsActionOnSpan m rows action) (action_late m rows) (Ok action) → IsInvariantIn m rows
invariant_if_acted m rows None action acts = acts.0
invariant_if_acted m rows (Some refusal) action acts = absurd (cc)
