-- What a call answers where its last callee answered.
use Rattle.std.specs.Prelude.{None, Result, Ok, Err}
use Rattle.axe_row.specs.Refusals.{Answers}
use Rattle.axe_row.specs.declared.refusals.Refusal.{Refusal}

-- an answer that says more
pub answers_more : {T : Type 0} (result : Result T Refusal) (P Q : T → Type 0) → Answers None P result →
    ((value : T) → P value → Q value) → Answers None Q result
answers_more (Ok value) P Q h more = more value h
answers_more (Err refusal) P Q h more = h
