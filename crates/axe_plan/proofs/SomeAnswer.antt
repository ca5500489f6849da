-- Meanings with an answer.
use Rattle.std.proofs.Common.{◌≡◌, refl, Option, Some, None, Result, Ok, Err, IfOk}
use Rattle.axe_row.specs.declared.refusals.Refusal.{Refusal}
use Rattle.axe_fault.specs.Causes.{Problem, Refuses}
use Rattle.axe_plan.specs.Meanings.{Meaning, Answered, UnlessRefused, ◌>>=◌}

pub unless_refused_some : {A : Type 0} (refusal : Option Refusal) (meaning : Meaning A) → (refusal ≡ None → Answered meaning) → Answered (UnlessRefused refusal meaning)
unless_refused_some None meaning some = some refl
unless_refused_some (Some refusal) meaning some = (Err (Refuses refusal), refl)

-- one thing after another, where the value of the first has a property
pub then_some : {A B : Type 0} (P : A → Type 0) (first : Meaning A) (next : A → Meaning B) → ((before : Result A Problem) → first before → IfOk before P) →
    Answered first → ((value : A) → P value → Answered (next value)) → Answered (first >>= next)
then_some P first next has (Ok value, right) some = let after = some value (has (Ok value) right) in (after.0, (Ok value, right, after.1))
then_some P first next has (Err problem, right) some = (Err problem, (Err problem, right, refl))
