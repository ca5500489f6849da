-- What a call answers where a callee refused.
use Rattle.std.specs.Prelude.{◌≡◌, ◌⊎◌, Option, Some, None, Result, Ok, Err}
use Rattle.std.specs.Result.{IsErrAnd, IfOk, OnErr}
use Rattle.axe_row.specs.Refusals.{Answers, AnswersOr, unless_refused}
use Rattle.axe_row.specs.declared.refusals.Refusal.{Refusal}
use Rattle.axe_row.specs.declared.refusals.Refusal.TheVariants.{Memory}
use mathlib.Core.Logic.{inl, inr}
use mathlib.Core.Path.{refl, sym, ◌∙◌, ap, subst}

-- the callee's refusal is the answer
pub handed_on : {T : Type 0} (result : Result T Refusal) (refusal : Refusal) → IsErrAnd result (λ r. r ≡ refusal) → result ≡ Err refusal
handed_on (Ok value) refusal h = absurd h
handed_on (Err r) refusal h = ap Err h

-- the callee had no memory
pub no_memory : {T : Type 0} (P : T → Type 0) (result : Result T Refusal) (refusal : Refusal) → IsErrAnd result (λ r. r ≡ refusal) → refusal ≡ Memory →
    Answers None P result
no_memory P (Ok value) refusal h memory = absurd h
no_memory P (Err r) refusal h memory = h ∙ memory

-- nothing refuses the callee's operands
pub memory_if_accepted : {T : Type 0} (why : Option Refusal) (P : T → Type 0) (refusal : Refusal) → why ≡ None → Answers why P (Err refusal) → refusal ≡ Memory
memory_if_accepted why P refusal none h = subst (λ w. Answers w P (Err refusal)) none h

-- what holds in any case
pub in_any_case : {T E : Type 0} (result : Result T E) (P : Type 0) → P → OnErr result P
in_any_case (Ok value) P h = tt
in_any_case (Err error) P h = h

-- the value, where there is one
pub value_if_answered : {T : Type 0} (result : Result T Refusal) (P : T → Type 0) → Answers None P result → IfOk result P
value_if_answered (Ok value) P h = h
value_if_answered (Err refusal) P h = tt

-- an answer that says more
pub answers_more : {T : Type 0} (result : Result T Refusal) (P Q : T → Type 0) → Answers None P result → ((value : T) → P value → Q value) → Answers None Q result
answers_more (Ok value) P Q h more = more value h
answers_more (Err refusal) P Q h more = h

-- what else holds of the value
pub answers_if_ok : {T : Type 0} (result : Result T Refusal) (P Q : T → Type 0) → Answers None P result → IfOk result Q → Answers None Q result
answers_if_ok (Ok value) P Q h more = more
answers_if_ok (Err refusal) P Q h more = h

-- an answer that says more by what else holds of the value
pub answers_with : {T : Type 0} (result : Result T Refusal) (P Q R : T → Type 0) → Answers None P result → IfOk result Q →
    ((value : T) → P value → Q value → R value) → Answers None R result
answers_with (Ok value) P Q R h also more = more value h also
answers_with (Err refusal) P Q R h also more = h

-- ---- refusals that are told by a callee

-- a value that there is was not refused
pub not_refused : {A : Type 0} (refusal : Option Refusal) (value found : A) → Ok found ≡ unless_refused refusal value → refusal ≡ None
not_refused (Some other) value found e = cc
not_refused None value found e = refl

-- refusals that are equal as answers are equal, and no refusal is a value
pub same_refusal : {S : Type 0} (one other : Refusal) → ◌≡◌ {A = Result S Refusal} (Err one) (Err other) → one ≡ other
same_refusal one other e = cc

pub no_value : {S : Type 0} (value : S) (refusal : Refusal) → ¬ (Err refusal ≡ Ok value)
no_value value refusal e = cc

pub refused_at_once : {S T : Type 0} (why : Option Refusal) (value : S) (P : T → Type 0) (result : Result T Refusal) (refusal : Refusal) →
    Err refusal ≡ unless_refused why value → IsErrAnd result (λ r. r ≡ refusal) → Answers why P result
refused_at_once (Some other) value P result refusal e h = handed_on result refusal h ∙ ap Err (same_refusal refusal other e)
refused_at_once None value P result refusal e h = absurd (no_value value refusal e)

-- the answer of a callee that is asked where the operands are not refused
pub answers_early : {T : Type 0} (why : Option Refusal) (P : T → Type 0) (result : Result T Refusal) → why ≡ None → Answers None P result → Answers why P result
answers_early why P result none h = subst (λ w. Answers w P result) (sym none) h

-- ---- answers with refusals that come late

-- the refusal of a callee that tells why the operands are refused
pub refused_early : {S T : Type 0} (why : Option Refusal) (value : S) (P : T → Type 0) (late : Refusal → Type 0) (result : Result T Refusal) (refusal : Refusal) →
    Err refusal ≡ unless_refused why value → IsErrAnd result (λ r. r ≡ refusal) → AnswersOr why P late result
refused_early (Some other) value P late result refusal e h = handed_on result refusal h ∙ ap Err (same_refusal refusal other e)
refused_early None value P late result refusal e h = absurd (no_value value refusal e)

-- a callee had no memory, for operands that are not refused
pub no_memory_late : {T : Type 0} (why : Option Refusal) (P : T → Type 0) (late : Refusal → Type 0) (result : Result T Refusal) (refusal : Refusal) → why ≡ None →
    refusal ≡ Memory → IsErrAnd result (λ r. r ≡ refusal) → AnswersOr why P late result
no_memory_late why P late result refusal none memory h =
    subst (λ r. AnswersOr why P late r) (sym (handed_on result refusal h)) (subst (λ w. AnswersOr w P late (Err refusal)) (sym none) (inl memory))

-- the answer of a callee that is asked where the operands are not refused
pub answered_late : {T : Type 0} (why : Option Refusal) (P Q : T → Type 0) (early late : Refusal → Type 0) (result : Result T Refusal) → why ≡ None →
    ((value : T) → P value → Q value) → ((refusal : Refusal) → early refusal → late refusal) → AnswersOr None P early result → AnswersOr why Q late result
answered_late why P Q early late (Ok value) none more too h = subst (λ w. AnswersOr w Q late (Ok value)) (sym none) (more value h)
answered_late why P Q early late (Err refusal) none more too (inl memory) = subst (λ w. AnswersOr w Q late (Err refusal)) (sym none) (inl memory)
answered_late why P Q early late (Err refusal) none more too (inr stands) =
    subst (λ w. AnswersOr w Q late (Err refusal)) (sym none) (inr (too refusal stands))

-- what a callee answers whose operands are not refused
pub asked_late : {T : Type 0} (why : Option Refusal) (P : T → Type 0) (late : Refusal → Type 0) (result : Result T Refusal) → why ≡ None →
    AnswersOr why P late result → AnswersOr None P late result
asked_late why P late result none h = subst (λ w. AnswersOr w P late result) none h

-- the same of a callee that has no late refusals
pub answered_or : {T : Type 0} (why : Option Refusal) (P Q : T → Type 0) (late : Refusal → Type 0) (result : Result T Refusal) → why ≡ None →
    ((value : T) → P value → Q value) → Answers None P result → AnswersOr why Q late result
answered_or why P Q late (Ok value) none more h = subst (λ w. AnswersOr w Q late (Ok value)) (sym none) (more value h)
answered_or why P Q late (Err refusal) none more h = subst (λ w. AnswersOr w Q late (Err refusal)) (sym none) (inl h)

-- the refusal of a callee, handed on
pub refused_late : {S T : Type 0} (why : Option Refusal) (P : S → Type 0) (Q : T → Type 0) (early late : Refusal → Type 0) (result : Result T Refusal)
    (refusal : Refusal) → why ≡ None → ((refusal : Refusal) → early refusal → late refusal) → AnswersOr None P early (Err refusal) →
    IsErrAnd result (λ r. r ≡ refusal) → AnswersOr why Q late result
refused_late why P Q early late result refusal none too h is =
    subst (λ r. AnswersOr why Q late r) (sym (handed_on result refusal is)) (subst (λ w. AnswersOr w Q late (Err refusal)) (sym none) (at h))
  where
    at : (refusal ≡ Memory) ⊎ early refusal → (refusal ≡ Memory) ⊎ late refusal
    at (inl memory) = inl memory
    at (inr stands) = inr (too refusal stands)

-- a late refusal, where the operands are not refused
pub stands_late : {T : Type 0} (why : Option Refusal) (P : T → Type 0) (late : Refusal → Type 0) (refusal : Refusal) → why ≡ None → late refusal →
    AnswersOr why P late (Err refusal)
stands_late why P late refusal none stands = subst (λ w. AnswersOr w P late (Err refusal)) (sym none) (inr stands)
