-- Answers of operations that refuse some operands: what they say of a meaning.
use Rattle.std.proofs.Common.{◌≡◌, refl, sym, ap, subst, [], Option, Some, None, Ok, Err, ◌⊎◌, inl, inr}
use Rattle.axe_row.specs.declared.refusals.Refusal.{Refusal}
use Rattle.axe_row.specs.declared.refusals.Refusal.TheVariants.{FieldsDiffer, ShapesDiffer, NotSquare, Singular, NotInvariant, WholeSpace, ZeroSeed, NoRows, ZeroSpace, Memory}
use Rattle.axe_row.specs.Refusals.{Answers, AnswersOr}
use Rattle.axe_echelon.proofs.Exits.{same_refusal}
use Rattle.axe_fault.specs.declared.fault.Fault.TheVariants.{Refused}
use Rattle.axe_fault.specs.Faults.{refusal_fault}
use Rattle.axe_fault.specs.Causes.{Refuses}
use Rattle.axe_plan.specs.Meanings.{Meaning, Has, HasOr, UnlessRefused}
use Rattle.axe_plan.specs.Outcome.{Agrees}

-- every refusal but Memory is a fault of its own
fault_named : (refusal : Refusal) → (refusal ≡ Memory) ⊎ (refusal_fault refusal ≡ Refused refusal)
fault_named Memory = inl refl
fault_named FieldsDiffer = inr refl
fault_named ShapesDiffer = inr refl
fault_named NotSquare = inr refl
fault_named Singular = inr refl
fault_named NotInvariant = inr refl
fault_named WholeSpace = inr refl
fault_named ZeroSeed = inr refl
fault_named NoRows = inr refl
fault_named ZeroSpace = inr refl

-- the fault of a refusal that stands is right
fault_agrees : {A : Type 0} (meaning : Meaning A) (refusal : Refusal) → (refusal ≡ Memory) ⊎ meaning (Err (Refuses refusal)) →
    Agrees [] (λ (value : A). value) (Err (refusal_fault refusal)) meaning
fault_agrees meaning refusal right = cases (fault_named refusal) right
  where
    memory : refusal ≡ Memory → Agrees [] (λ value. value) (Err (refusal_fault refusal)) meaning
    memory e = subst (λ r. Agrees [] (λ value. value) (Err (refusal_fault r)) meaning) (sym e) tt

    cases : (refusal ≡ Memory) ⊎ (refusal_fault refusal ≡ Refused refusal) → (refusal ≡ Memory) ⊎ meaning (Err (Refuses refusal)) →
        Agrees [] (λ value. value) (Err (refusal_fault refusal)) meaning
    cases (inl e) other = memory e
    cases (inr named) (inl e) = memory e
    cases (inr named) (inr stands) = subst (λ fault. Agrees [] (λ value. value) (Err fault) meaning) (sym named) stands

-- a call without late refusals
stands : {A B : Type 0} (P : A → Type 0) (Q : B → Type 0) (early : Option Refusal) (refusal : Refusal) → Answers early P (Err refusal) →
    (refusal ≡ Memory) ⊎ UnlessRefused early (Has Q) (Err (Refuses refusal))
stands P Q None refusal e = inl e
stands P Q (Some other) refusal e = inr (ap (λ r. Err (Refuses r)) (same_refusal refusal other e))

pub refused_fault : {A B : Type 0} (P : A → Type 0) (Q : B → Type 0) (early : Option Refusal) (refusal : Refusal) → Answers early P (Err refusal) →
    Agrees [] (λ (value : B). value) (Err (refusal_fault refusal)) (UnlessRefused early (Has Q))
refused_fault P Q early refusal answers = fault_agrees (UnlessRefused early (Has Q)) refusal (stands P Q early refusal answers)

pub accepted_value : {A : Type 0} (P Q : A → Type 0) (early : Option Refusal) (value : A) → (P value → Q value) → Answers early P (Ok value) →
    UnlessRefused early (Has Q) (Ok value)
accepted_value P Q None value more of = more of
accepted_value P Q (Some refusal) value more e = cc

-- a call with late refusals
stands_or : {A B : Type 0} (P : A → Type 0) (Q : B → Type 0) (late : Refusal → Type 0) (early : Option Refusal) (refusal : Refusal) →
    AnswersOr early P late (Err refusal) → (refusal ≡ Memory) ⊎ UnlessRefused early (HasOr Q late) (Err (Refuses refusal))
stands_or P Q late None refusal (inl e) = inl e
stands_or P Q late None refusal (inr allowed) = inr (refusal, allowed, refl)
stands_or P Q late (Some other) refusal e = inr (ap (λ r. Err (Refuses r)) (same_refusal refusal other e))

pub refused_fault_or : {A B : Type 0} (P : A → Type 0) (Q : B → Type 0) (late : Refusal → Type 0) (early : Option Refusal) (refusal : Refusal) →
    AnswersOr early P late (Err refusal) → Agrees [] (λ (value : B). value) (Err (refusal_fault refusal)) (UnlessRefused early (HasOr Q late))
refused_fault_or P Q late early refusal answers = fault_agrees (UnlessRefused early (HasOr Q late)) refusal (stands_or P Q late early refusal answers)

pub accepted_value_or : {A : Type 0} (P Q : A → Type 0) (late : Refusal → Type 0) (early : Option Refusal) (value : A) → (P value → Q value) →
    AnswersOr early P late (Ok value) → UnlessRefused early (HasOr Q late) (Ok value)
accepted_value_or P Q late None value more of = more of
accepted_value_or P Q late (Some refusal) value more e = cc

-- the value that is answered is of operands that are not refused
pub answered_value : {T : Type 0} (refusal : Option Refusal) (P : T → Type 0) (value : T) → Answers refusal P (Ok value) → (refusal ≡ None) × P value
answered_value None P value right = (refl, right)
answered_value (Some refusal) P value right = cc
