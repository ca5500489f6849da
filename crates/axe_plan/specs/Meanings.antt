-- Meanings: which answers are right.
use Rattle.std.specs.Prelude.{◌≡◌, Option, Some, None, Result, Ok, Err}
use Rattle.axe_row.specs.declared.refusals.Refusal.{Refusal}
use Rattle.axe_fault.specs.Causes.{Problem, Refuses}

-- which answers are right, each a value or the first problem that stands
abbrev pub Meaning : Type 0 → Type 1
Meaning A = Result A Problem → Type 0

-- some answer is right
abbrev pub Answered : {A : Type 0} → Meaning A → Type 0
Answered meaning = (answer : Result _ Problem) × meaning answer

-- no two answers are right
abbrev pub AtMostOne : {A : Type 0} → Meaning A → Type 0
AtMostOne meaning = (first second : Result _ Problem) → meaning first → meaning second → first ≡ second

-- this answer alone
abbrev pub Is : {A : Type 0} → Result A Problem → Meaning A
Is right answer = right ≡ answer

-- the values with this property
abbrev pub Has : {A : Type 0} → (A → Type 0) → Meaning A
Has P (Ok value) = P value
Has P (Err problem) = ⊥

-- the values with this property, and the refusals that `late` allows
abbrev pub HasOr : {A : Type 0} → (A → Type 0) → (Refusal → Type 0) → Meaning A
HasOr P late (Ok value) = P value
HasOr P late (Err problem) = (refusal : Refusal) × late refusal × (problem ≡ Refuses refusal)

-- what this says, unless the operation refuses its operands
abbrev pub UnlessRefused : {A : Type 0} → Option Refusal → Meaning A → Meaning A
UnlessRefused None meaning answer = meaning answer
UnlessRefused (Some refusal) meaning answer = answer ≡ Err (Refuses refusal)

-- what is right after a first answer: a value goes on, a problem ends it
abbrev pub After : {A B : Type 0} → Result A Problem → (A → Meaning B) → Meaning B
After (Ok value) next answer = next value answer
After (Err problem) next answer = answer ≡ Err problem

infixl 1 ◌>>=◌
-- one thing after another: what is right after a right first answer
abbrev pub ◌>>=◌ : {A B : Type 0} → Meaning A → (A → Meaning B) → Meaning B
◌>>=◌ first next answer = (before : Result _ Problem) × first before × After before next answer
