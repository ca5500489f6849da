-- Calls that read files, one after the other, and what is computed of what they read.
use Rattle.std.proofs.Common.{◌≡◌, refl, ◌∙◌, subst, ℕ, List, ◌++◌, [], Result, Ok, Err, inr}
use Rattle.std.specs.Prelude.{⊤}
use Rattle.axe_folder.specs.Files.{Files}
use Rattle.axe_folder.specs.Outcomes.{Tally}
use Rattle.axe_fault.specs.declared.fault.Fault.{Fault}
use Rattle.axe_fault.specs.Causes.{Problem, Cause, Stands, DeviceFailed, NoMemory, NoCommand, cause_of}
use Rattle.axe_plan.specs.Meanings.{Meaning, ◌>>=◌}
use Rattle.axe_plan.specs.Outcome.{StopsReading, Agrees, CountsCause, Counted, Reads}
use Rattle.axe_plan.proofs.Sequences.{AreAmong, among_same, among_none, among_after, fault_carries, answer_carries}

-- ---- what is computed

-- a right answer of a call that reads no file
pub record Computes {T V : Type 0} (view : T → V) (result : Result T Fault) (meaning : Meaning V) : Type 0 where
  pub agrees : Agrees [] view result meaning

-- one thing after another: a first value and an answer after it, or a fault of the first
pub then_computes : {T U V W : Type 0} (view : T → V) (other : U → W) (value : T) (result : Result U Fault) (first : Meaning V)
    (next : V → Meaning W) → first (Ok (view value)) → Computes other result (next (view value)) → Computes other result (first >>= next)
then_computes view other value result first next right computes = record {
  agrees = answer_carries [] [] other result (next (view value)) (first >>= next) (among_same [])
      (λ answer after. (Ok (view value), right, after)) computes.agrees;
}

pub fault_computes : {T U V W : Type 0} (view : T → V) (other : U → W) (fault : Fault) (first : Meaning V) (next : V → Meaning W) →
    Computes view (Err fault) first → Computes other (Err fault) (first >>= next)
fault_computes view other fault first next computes = record {
  agrees = fault_carries [] [] view other fault first (first >>= next) (among_same []) (λ problem e. (Err problem, e, refl)) computes.agrees;
}

-- what reads no file has no fault of the device
no_device : {V : Type 0} (cause : Cause) (meaning : Meaning V) (old new : Tally) → new ≡ old → StopsReading [] cause meaning → CountsCause ⊤ cause old new
no_device (Stands problem) meaning old new same stops = same
no_device (DeviceFailed name) meaning old new same stops = absurd stops
no_device NoMemory meaning old new same stops = inr (tt, same)
no_device NoCommand meaning old new same stops = same

counts_nothing : {T V : Type 0} (view : T → V) (result : Result T Fault) (meaning : Meaning V) (old new : Tally) → new ≡ old →
    Agrees [] view result meaning → Counted ⊤ result old new
counts_nothing view (Ok value) meaning old new same answers = same
counts_nothing view (Err fault) meaning old new same answers = no_device (cause_of fault) meaning old new same answers

-- ---- what is read

module _ {S : Type 0} (files : S → Files) (tally : S → Tally) where
  -- a right answer of one meaning is right of another
  pub reads_as : {T V : Type 0} (old new : S) (names : List (List ℕ)) (view : T → V) (result : Result T Fault) (meaning whole : Files → Meaning V) →
      ((f : Files) (answer : Result V Problem) → meaning f answer → whole f answer) →
      Reads files tally old new names view result meaning → Reads files tally old new names view result whole
  reads_as old new names view result meaning whole carries reads = record {
    agrees = answer_carries names names view result (meaning (files old)) (whole (files old)) (among_same names)
        (carries (files old)) reads.agrees;
    kept = reads.kept;
    counted = reads.counted;
  }

  -- the first call has a fault
  pub reads_no_more : {T U V W : Type 0} (old new : S) (names more : List (List ℕ)) (view : T → V) (other : U → W) (fault : Fault)
      (first : Files → Meaning V) (next : Files → V → Meaning W) → AreAmong names more →
      Reads files tally old new names view (Err fault) first → Reads files tally old new more other (Err fault) (λ f. first f >>= next f)
  reads_no_more old new names more view other fault first next among reads = record {
    agrees = fault_carries names more view other fault (first (files old)) (first (files old) >>= next (files old)) among
        (λ problem e. (Err problem, e, refl)) reads.agrees;
    kept = reads.kept;
    counted = reads.counted;
  }

  -- a call has a fault after what changed nothing
  pub reads_after : {T U V W : Type 0} (old mid new : S) (names more : List (List ℕ)) (view : T → V) (other : U → W) (fault : Fault)
      (meaning : Files → Meaning V) (whole : Files → Meaning W) → files mid ≡ files old → tally mid ≡ tally old →
      Agrees more other (Err fault) (whole (files old)) → Reads files tally mid new names view (Err fault) meaning →
      Reads files tally old new more other (Err fault) whole
  reads_after old mid new names more view other fault meaning whole same as_many agrees reads = record {
    agrees = agrees;
    kept = reads.kept ∙ same;
    counted = subst (λ count. CountsCause ⊤ (cause_of fault) count (tally new)) as_many reads.counted;
  }

  -- the first call has a value, and others read on
  pub reads_on : {T U V W : Type 0} (old mid new : S) (names more : List (List ℕ)) (view : T → V) (other : U → W) (value : T) (result : Result U Fault)
      (first : Files → Meaning V) (next : Files → V → Meaning W) →
      Reads files tally old mid names view (Ok value) first → Reads files tally mid new more other result (λ f. next f (view value)) →
      Reads files tally old new (names ++ more) other result (λ f. first f >>= next f)
  reads_on old mid new names more view other value result first next reads rest = record {
    agrees = answer_carries more (names ++ more) other result (next (files old) (view value)) (first (files old) >>= next (files old))
        (among_after names more) (λ answer after. (Ok (view value), reads.agrees, after))
        (subst (λ f. Agrees more other result (next f (view value))) reads.kept rest.agrees);
    kept = rest.kept ∙ reads.kept;
    counted = subst (λ count. Counted ⊤ result count (tally new)) reads.counted rest.counted;
  }

  -- the first call has a value, and the rest reads no file
  pub reads_all : {T U V W : Type 0} (old new : S) (names : List (List ℕ)) (view : T → V) (other : U → W) (value : T) (result : Result U Fault)
      (first : Files → Meaning V) (next : Files → V → Meaning W) →
      Reads files tally old new names view (Ok value) first → Computes other result (next (files old) (view value)) →
      Reads files tally old new names other result (λ f. first f >>= next f)
  reads_all old new names view other value result first next reads computes = record {
    agrees = answer_carries [] names other result (next (files old) (view value)) (first (files old) >>= next (files old))
        (among_none names) (λ answer after. (Ok (view value), reads.agrees, after)) computes.agrees;
    kept = reads.kept;
    counted = counts_nothing other result (next (files old) (view value)) (tally old) (tally new) reads.counted computes.agrees;
  }
