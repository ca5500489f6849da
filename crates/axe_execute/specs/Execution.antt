-- How a command may end: what its answer says of its meaning and of the files.
use Rattle.std.specs.Prelude.{◌≡◌, ◌⊎◌, ℕ, List, Result, Ok, Err}
use Rattle.axe_folder.specs.Files.{Files}
use Rattle.axe_fault.specs.declared.fault.Fault.{Fault}
use Rattle.axe_fault.specs.Causes.{Problem, Cause, Stands, DeviceFailed, NoMemory, NoCommand, cause_of}
use Rattle.axe_plan.specs.Plans.{applied, Plan}
use Rattle.axe_plan.specs.Meanings.{Meaning}
use Rattle.axe_plan.specs.Outcome.{IsOneOf, BrokeOff, Halted}
use Rattle.axe_execute.specs.declared.execution.Shown.{Shown}

-- this stands against the command, and no file has changed
abbrev pub StoppedBy : Problem → Meaning Plan → Files → Files → Type 0
StoppedBy problem meaning old new = meaning (Err problem) × (new ≡ old)

-- the command has a plan, of which this holds
abbrev pub HasPlan : Meaning Plan → (Plan → Type 0) → Type 0
HasPlan meaning P = (plan : Plan) × meaning (Ok plan) × P plan

-- how a command that reads the files of these names may stop, given its meaning:
-- for a problem that stands against it: no file changes;
-- for a device that failed: no file changes and it is one of the files that it reads, or its plan broke off at a step;
-- for want of memory: no file changes, or its plan halted at a step
abbrev pub StopsCommand : Cause → List (List ℕ) → Meaning Plan → Files → Files → Type 0
StopsCommand (Stands problem) names meaning old new = StoppedBy problem meaning old new
StopsCommand (DeviceFailed name) names meaning old new =
    (IsOneOf names name × (new ≡ old)) ⊎ HasPlan meaning (λ plan. BrokeOff plan.steps name old new)
StopsCommand NoMemory names meaning old new =
    (new ≡ old) ⊎ HasPlan meaning (λ plan. Halted plan.steps old new)
StopsCommand NoCommand names meaning old new = ⊥

-- how a command that reads the files of these names may end, given its meaning: it shows a text, where it has a plan,
-- all of whose steps are made, with this text; or it stops
abbrev pub Executes : Result Shown Fault → List (List ℕ) → Meaning Plan → Files → Files → Type 0
Executes (Ok shown) names meaning old new =
    HasPlan meaning (λ plan. (shown.text.items ≡ plan.shown) × (new ≡ applied plan.steps old))
Executes (Err fault) names meaning old new = StopsCommand (cause_of fault) names meaning old new
