-- The answers of calls that are made one after the other.
use Rattle.std.proofs.Common.{ℕ, List, ◌++◌, [], ◌∷◌, Result, Ok, Err, inl, inr}
use Rattle.axe_fault.specs.declared.fault.Fault.{Fault}
use Rattle.axe_fault.specs.Causes.{Problem, Cause, Stands, DeviceFailed, NoMemory, NoCommand, cause_of}
use Rattle.axe_plan.specs.Outcome.{IsOneOf}
use Rattle.axe_plan.specs.Meanings.{Meaning}
use Rattle.axe_plan.specs.Outcome.{StopsReading, Agrees}

-- each of these names is one of those
pub record AreAmong (names more : List (List ℕ)) : Type 0 where
  pub each : (name : List ℕ) → IsOneOf names name → IsOneOf more name

pub among_same : (names : List (List ℕ)) → AreAmong names names
among_same names = record { each = λ name is. is }

pub among_before : (names rest : List (List ℕ)) → AreAmong names (names ++ rest)
among_before names rest = record { each = at names }
  where
    at : (names : List (List ℕ)) (name : List ℕ) → IsOneOf names name → IsOneOf (names ++ rest) name
    at [] name is = absurd is
    at (first ∷ names) name (inl e) = inl e
    at (first ∷ names) name (inr is) = inr (at names name is)

pub among_after : (before names : List (List ℕ)) → AreAmong names (before ++ names)
among_after before names = record { each = λ name is. at before name is }
  where
    at : (before : List (List ℕ)) (name : List ℕ) → IsOneOf names name → IsOneOf (before ++ names) name
    at [] name is = is
    at (first ∷ before) name is = inr (at before name is)

pub among_none : (names : List (List ℕ)) → AreAmong [] names
among_none names = record { each = λ name is. absurd is }

-- a call that reads fewer files
stops_among : {V : Type 0} (names more : List (List ℕ)) (cause : Cause) (meaning : Meaning V) → AreAmong names more →
    StopsReading names cause meaning → StopsReading more cause meaning
stops_among names more (Stands problem) meaning among right = right
stops_among names more (DeviceFailed name) meaning among right = among.each name right
stops_among names more NoMemory meaning among right = right
stops_among names more NoCommand meaning among right = right

-- a cause that stops one call, all of whose problems are those of a whole command, stops that
by_problems : {V W : Type 0} (names : List (List ℕ)) (cause : Cause) (meaning : Meaning V) (whole : Meaning W) →
    ((problem : Problem) → meaning (Err problem) → whole (Err problem)) → StopsReading names cause meaning → StopsReading names cause whole
by_problems names (Stands problem) meaning whole carries right = carries problem right
by_problems names (DeviceFailed name) meaning whole carries right = right
by_problems names NoMemory meaning whole carries right = right
by_problems names NoCommand meaning whole carries right = right

pub fault_carries : {T U V W : Type 0} (names more : List (List ℕ)) (view : T → V) (other : U → W) (fault : Fault) (meaning : Meaning V) (whole : Meaning W) →
    AreAmong names more → ((problem : Problem) → meaning (Err problem) → whole (Err problem)) → Agrees names view (Err fault) meaning →
    Agrees more other (Err fault) whole
fault_carries names more view other fault meaning whole among carries right =
    stops_among names more (cause_of fault) whole among (by_problems names (cause_of fault) meaning whole carries right)

-- an answer that is right of what comes last is right of the whole
pub answer_carries : {T V : Type 0} (names more : List (List ℕ)) (view : T → V) (result : Result T Fault) (meaning whole : Meaning V) → AreAmong names more →
    ((answer : Result V Problem) → meaning answer → whole answer) → Agrees names view result meaning → Agrees more view result whole
answer_carries names more view (Ok value) meaning whole among carries right = carries _ right
answer_carries names more view (Err fault) meaning whole among carries right =
    fault_carries names more view view fault meaning whole among (λ problem. carries (Err problem)) right
