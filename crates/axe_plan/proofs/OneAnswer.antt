-- Meanings with at most one answer.
use Rattle.std.proofs.Common.{◌≡◌, refl, sym, ◌∙◌, ap, subst, Option, Some, None, Result, Ok, Err, IfOk}
use Rattle.axe_row.specs.declared.refusals.Refusal.{Refusal}
use Rattle.axe_fault.specs.Causes.{Problem, Refuses}
use Rattle.axe_plan.specs.Meanings.{Meaning, AtMostOne, Is, Has, HasOr, UnlessRefused, After, ◌>>=◌}

pub is_one : {A : Type 0} (right : Result A Problem) → AtMostOne (Is right)
is_one right first second is_first is_second = sym is_first ∙ is_second

pub has_one : {A : Type 0} (P : A → Type 0) → ((a b : A) → P a → P b → a ≡ b) → AtMostOne (Has P)
has_one P only (Ok a) (Ok b) of_a of_b = ap Ok (only a b of_a of_b)
has_one P only (Ok a) (Err problem) of_a of_b = absurd of_b
has_one P only (Err problem) second of_a of_b = absurd of_a

pub has_or_one : {A : Type 0} (P : A → Type 0) (late : Refusal → Type 0) → ((a b : A) → P a → P b → a ≡ b) →
    ((first second : Refusal) → late first → late second → first ≡ second) → ((value : A) (refusal : Refusal) → P value → ¬ (late refusal)) → AtMostOne (HasOr P late)
has_or_one P late only one apart (Ok a) (Ok b) of_a of_b = ap Ok (only a b of_a of_b)
has_or_one P late only one apart (Ok a) (Err problem) of_a (refusal, stands, is) = absurd (apart a refusal of_a stands)
has_or_one P late only one apart (Err problem) (Ok b) (refusal, stands, is) of_b = absurd (apart b refusal of_b stands)
has_or_one P late only one apart (Err problem) (Err other) (first, stands, is) (second, holds, is_other) =
    ap Err (is ∙ ap Refuses (one first second stands holds) ∙ sym is_other)

pub unless_refused_one : {A : Type 0} (refusal : Option Refusal) (meaning : Meaning A) → (refusal ≡ None → AtMostOne meaning) →
    AtMostOne (UnlessRefused refusal meaning)
unless_refused_one None meaning one = one refl
unless_refused_one (Some refusal) meaning one = λ first second is_first is_second. is_first ∙ sym is_second

-- what comes after a first answer, whose value has a property
after_one : {A B : Type 0} (P : A → Type 0) (before : Result A Problem) (next : A → Meaning B) → IfOk before P →
    ((value : A) → P value → AtMostOne (next value)) → AtMostOne (After before next)
after_one P (Ok value) next has one = one value has
after_one P (Err problem) next has one = λ first second is_first is_second. is_first ∙ sym is_second

pub then_one : {A B : Type 0} (P : A → Type 0) (first : Meaning A) (next : A → Meaning B) → ((before : Result A Problem) → first before → IfOk before P) →
    AtMostOne first → ((value : A) → P value → AtMostOne (next value)) → AtMostOne (first >>= next)
then_one P first next has only one a b (before, is_before, after_a) (before', is_before', after_b) =
    after_one P before next (has before is_before) one a b after_a (subst (λ answer. After answer next b) (only before' before is_before' is_before) after_b)
