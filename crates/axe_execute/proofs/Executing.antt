-- How a command ends, by what was read and what was made.
use Rattle.std.proofs.Common.{◌≡◌, ℕ, List, Ok, Err, inl, inr}
use Rattle.axe_folder.specs.Files.{Files}
use Rattle.axe_folder.specs.Outcomes.{Tally}
use Rattle.axe_fault.specs.declared.fault.Fault.{Fault}
use Rattle.axe_fault.specs.Causes.{Cause, Stands, DeviceFailed, NoMemory, NoCommand, cause_of}
use Rattle.axe_plan.specs.Plans.{Plan}
use Rattle.axe_plan.specs.Meanings.{Meaning}
use Rattle.axe_plan.specs.Drafts.{plan_in}
use Rattle.axe_plan.specs.Outcome.{StopsReading, Agrees, StopsSteps, Carries, CountsCause}
use Rattle.axe_execute.specs.Execution.{StopsCommand, Executes}

-- a fault at what is read or computed
stops_before : (cause : Cause) (names : List (List ℕ)) (meaning : Meaning Plan) (old new : Files) → StopsReading names cause meaning → new ≡ old →
    StopsCommand cause names meaning old new
stops_before (Stands problem) names meaning old new right same = (right, same)
stops_before (DeviceFailed name) names meaning old new right same = inl (right, same)
stops_before NoMemory names meaning old new right same = inl same
stops_before NoCommand names meaning old new right same = right

pub stopped : (fault : Fault) (names : List (List ℕ)) (meaning : Meaning Plan) (old new : Files) → Agrees names plan_in (Err fault) meaning → new ≡ old →
    Executes (Err fault) names meaning old new
stopped fault names meaning old new right same = stops_before (cause_of fault) names meaning old new right same

-- a fault at one of the steps of the plan
stops_at_step : (cause : Cause) (names : List (List ℕ)) (meaning : Meaning Plan) (plan : Plan) (old new : Files) → meaning (Ok plan) →
    StopsSteps cause plan.steps old new → StopsCommand cause names meaning old new
stops_at_step (Stands problem) names meaning plan old new right stops = absurd stops
stops_at_step (DeviceFailed name) names meaning plan old new right stops = inr (plan, right, stops)
stops_at_step NoMemory names meaning plan old new right stops = inr (plan, right, stops)
stops_at_step NoCommand names meaning plan old new right stops = absurd stops

pub broken : (fault : Fault) (names : List (List ℕ)) (meaning : Meaning Plan) (plan : Plan) (old new : Files) → meaning (Ok plan) →
    Carries (Err fault) plan.steps old new → Executes (Err fault) names meaning old new
broken fault names meaning plan old new right carried = stops_at_step (cause_of fault) names meaning plan old new right carried

-- ---- what is counted

-- want of memory that may come where P is true, may come where Q is, which follows
pub counts_as : (P Q : Type 0) (cause : Cause) (old new : Tally) → (P → Q) → CountsCause P cause old new → CountsCause Q cause old new
counts_as P Q (Stands problem) old new follows counts = counts
counts_as P Q (DeviceFailed name) old new follows counts = counts
counts_as P Q NoMemory old new follows (inl short) = inl short
counts_as P Q NoMemory old new follows (inr (early, same)) = inr (follows early, same)
counts_as P Q NoCommand old new follows counts = counts
