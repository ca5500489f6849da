-- How a step of a check ends where a step within it stops.
use Rattle.std.specs.Prelude.{◌≡◌, Result, Ok, Err}
use Rattle.std.specs.Result.{IsErrAnd}
use Rattle.axe_report.specs.declared.reasons.Reason.{Reason}
use Rattle.axe_check.specs.declared.reasons.Stop.{Stop}
use Rattle.axe_check.specs.declared.reasons.Stop.TheVariants.{Because, Memory}
use Rattle.axe_check.specs.Steps.{Passes}
use mathlib.Core.Path.{sym, subst}

-- the step within it stopped: for its reason, or for want of memory
pub stopped : {S T : Type 0} (P : S → Type 0) (Q R : Reason → Type 0) (V : T → Type 0) (result : Result T Stop) (stop : Stop) →
    IsErrAnd result (λ s. s ≡ stop) → Passes P Q (Err stop) → ((reason : Reason) → Q reason → R reason) → Passes V R result
stopped P Q R V (Ok value) stop handed passes more = absurd handed
stopped P Q R V (Err s) stop handed passes more = subst (λ (t : Stop). Passes V R (Err t)) (sym handed) (by_kind stop passes)
  where
    by_kind : (stop : Stop) → Passes P Q (Err stop) → Passes V R (Err stop)
    by_kind (Because reason) passes = more reason passes
    by_kind Memory passes = tt

-- it had no memory
pub no_memory_left : {T : Type 0} (V : T → Type 0) (R : Reason → Type 0) (result : Result T Stop) → IsErrAnd result (λ s. s ≡ Memory) → Passes V R result
no_memory_left V R (Ok value) handed = absurd handed
no_memory_left V R (Err s) handed = subst (λ (t : Stop). Passes V R (Err t)) (sym handed) tt

-- what else holds of the value and of the reason
pub passes_more : {T : Type 0} (P V : T → Type 0) (Q R : Reason → Type 0) (result : Result T Stop) → Passes P Q result → ((value : T) → P value → V value) →
    ((reason : Reason) → Q reason → R reason) → Passes V R result
passes_more P V Q R (Ok value) passes more other = more value passes
passes_more P V Q R (Err (Because reason)) passes more other = other reason passes
passes_more P V Q R (Err Memory) passes more other = tt
