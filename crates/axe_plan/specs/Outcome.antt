-- How a call may end that a command makes: what its answer says of a meaning, of the files, and of the folder's failures.
use Rattle.std.specs.Prelude.{◌≡◌, ◌⊎◌, ⊤, ℕ, List, [], ◌∷◌, ◌++◌, Result, Ok, Err}
use Rattle.axe_folder.specs.declared.fault.FolderFault.TheVariants as folder
use Rattle.axe_folder.specs.Files.{Files}
use Rattle.axe_folder.specs.Outcomes.{Puts, Removes, Tally, FailedAt, short_again}
use Rattle.axe_fault.specs.declared.fault.Fault.{Fault}
use Rattle.axe_fault.specs.Causes.{Cause, Stands, DeviceFailed, NoMemory, NoCommand, cause_of}
use Rattle.axe_plan.specs.Plans.{Step, Put, Remove, step_name, step_applied, applied}
use Rattle.axe_plan.specs.Meanings.{Meaning}

-- ---- reading

-- one of these names
abbrev pub IsOneOf : List (List ℕ) → List ℕ → Type 0
IsOneOf [] name = ⊥
IsOneOf (first ∷ names) name = (name ≡ first) ⊎ IsOneOf names name

-- why a call that reads the files of these names may stop: a problem that stands, a device that fails at one of the
-- files, or want of memory. The last two stop it before it knows
abbrev pub StopsReading : {V : Type 0} → List (List ℕ) → Cause → Meaning V → Type 0
StopsReading names (Stands problem) meaning = meaning (Err problem)
StopsReading names (DeviceFailed name) meaning = IsOneOf names name
StopsReading names NoMemory meaning = ⊤
StopsReading names NoCommand meaning = ⊥

-- the answer of a call that reads the files of these names: one that is right, its value as `view` sees it, or a cause
-- for which it may stop
abbrev pub Agrees : {T V : Type 0} → List (List ℕ) → (T → V) → Result T Fault → Meaning V → Type 0
Agrees names view (Ok value) meaning = meaning (Ok (view value))
Agrees names view (Err fault) meaning = StopsReading names (cause_of fault) meaning

-- ---- writing

-- what a step at which a device failed leaves
abbrev pub Breaks : Step → Files → Files → Type 0
Breaks (Put name bytes) old new = Puts (Err folder.Device) old name bytes new
Breaks (Remove name) old new = Removes (Err folder.Device) old name new

-- how a step may stop: a device or want of memory stops it
abbrev pub StopsStep : Cause → Step → Files → Files → Type 0
StopsStep (Stands problem) step old new = ⊥
StopsStep (DeviceFailed name) step old new = (step_name step ≡ name) × Breaks step old new
StopsStep NoMemory step old new = new ≡ old
StopsStep NoCommand step old new = ⊥

-- how one step may end: it is made, or it stops
abbrev pub Makes : Result (Unit {0}) Fault → Step → Files → Files → Type 0
Makes (Ok done) step old new = new ≡ step_applied step old
Makes (Err fault) step old new = StopsStep (cause_of fault) step old new

-- a device failed at one of the steps, which changes the file of this name: the steps before it stand, and it left what
-- a failed step leaves
pub record BrokeOff (steps : List Step) (name : List ℕ) (old new : Files) : Type 0 where
  pub before : List Step
  pub step : Step
  pub after : List Step
  pub parts : steps ≡ before ++ step ∷ after
  pub of_step : step_name step ≡ name
  pub left : Breaks step (applied before old) new

-- there was no memory for one of the steps: the steps before it stand, and nothing else has changed
pub record Halted (steps : List Step) (old new : Files) : Type 0 where
  pub before : List Step
  pub step : Step
  pub after : List Step
  pub parts : steps ≡ before ++ step ∷ after
  pub left : new ≡ applied before old

-- how steps may stop: a device or want of memory stops them
abbrev pub StopsSteps : Cause → List Step → Files → Files → Type 0
StopsSteps (Stands problem) steps old new = ⊥
StopsSteps (DeviceFailed name) steps old new = BrokeOff steps name old new
StopsSteps NoMemory steps old new = Halted steps old new
StopsSteps NoCommand steps old new = ⊥

-- how steps may end: all are made in order, or they stop
abbrev pub Carries : Result (Unit {0}) Fault → List Step → Files → Files → Type 0
Carries (Ok done) steps old new = new ≡ applied steps old
Carries (Err fault) steps old new = StopsSteps (cause_of fault) steps old new

-- ---- the device and memory

-- how the tally of a folder changes in a call that ends with this cause. A device: it failed once more, in a call at the
-- file that the fault names. Want of memory: a call of the folder had none, or something else had, which comes only where
-- `Early` holds. Every other cause leaves the tally as it was
abbrev pub CountsCause : Type 0 → Cause → Tally → Tally → Type 0
CountsCause Early (Stands problem) old new = new ≡ old
CountsCause Early (DeviceFailed name) old new = FailedAt name old new
CountsCause Early NoMemory old new = (new ≡ short_again old) ⊎ (Early × (new ≡ old))
CountsCause Early NoCommand old new = new ≡ old

-- the same of an answer; a value leaves the tally as it was
abbrev pub Counted : {T : Type 0} → Type 0 → Result T Fault → Tally → Tally → Type 0
Counted Early (Ok value) old new = new ≡ old
Counted Early (Err fault) old new = CountsCause Early (cause_of fault) old new

-- ---- reading, the files and the device with it

-- how a call ends that reads the files of these names in a folder, of which `files` tells the files and `tally` how its
-- calls have failed: its answer is right, no file has changed, and a failure of the device is counted just where one is
-- answered, at the file that the fault names; anything may want memory
pub record Reads {S T V : Type 0} (files : S → Files) (tally : S → Tally) (old new : S) (names : List (List ℕ))
    (view : T → V) (result : Result T Fault) (meaning : Files → Meaning V) : Type 0 where
  pub agrees : Agrees names view result (meaning (files old))
  pub kept : files new ≡ files old
  pub counted : Counted ⊤ result (tally old) (tally new)
