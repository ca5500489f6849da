-- How a call that may refuse its operands answers.
use Rattle.std.specs.Prelude.{◌≡◌, ◌⊎◌, Option, Some, None, Result, Ok, Err}
use Rattle.axe_row.specs.declared.refusals.Refusal.{Refusal}
use Rattle.axe_row.specs.declared.refusals.Refusal.TheVariants.{Memory}

-- the answer of a call: where the operands are refused it is exactly that refusal, whatever the memory; otherwise it is
-- a value with the property P, or Memory
abbrev pub Answers : {T : Type 0} → Option Refusal → (T → Type 0) → Result T Refusal → Type 0
Answers (Some refusal) P result = result ≡ Err refusal
Answers None P (Ok value) = P value
Answers None P (Err refusal) = refusal ≡ Memory

-- the answer of a call that finds some refusals late, on its way to the value: where the operands are refused early it
-- is exactly that refusal, whatever the memory; otherwise it is a value with the property P, a refusal that `late`
-- allows, or Memory
abbrev pub AnswersOr : {T : Type 0} → Option Refusal → (T → Type 0) → (Refusal → Type 0) → Result T Refusal → Type 0
AnswersOr (Some refusal) P late result = result ≡ Err refusal
AnswersOr None P late (Ok value) = P value
AnswersOr None P late (Err refusal) = (refusal ≡ Memory) ⊎ late refusal

-- the refusal of this name, where this is why
abbrev pub RefusedAs : Refusal → Type 0 → Refusal → Type 0
RefusedAs name Why refusal = (refusal ≡ name) × Why

-- the first of two refusals that stands
abbrev pub first_of : Option Refusal → Option Refusal → Option Refusal
first_of (Some refusal) other = Some refusal
first_of None other = other

-- a value, unless a refusal stands
abbrev pub unless_refused : {A : Type 0} → Option Refusal → A → Result A Refusal
unless_refused (Some refusal) value = Err refusal
unless_refused None value = Ok value
