-- What the calls of a folder that tells its files may answer, and what each answer says of the files.
use Rattle.std.specs.Prelude.{◌≡◌, ◌≢◌, ◌⊎◌, ⊤, ℕ, ◌+◌, ◌-◌, ◌^◌, min, nat_lt, List, length, take, Option, Some, None}
use Rattle.std.specs.Prelude.{Result, Ok, Err, IsOk, IfSome, Vec, if◌then◌else◌}
use Rattle.axe_folder.specs.declared.fault.FolderFault.{FolderFault}
use Rattle.axe_folder.specs.declared.fault.FolderFault.TheVariants.{Missing, TooLong, Device, Memory}
use Rattle.axe_folder.specs.Files.{Files, file_at, with_file, without_file}

-- what a fetch of at most `limit` bytes finds: no file, a file that is too long, or the bytes
abbrev pub fetched : Option (List ℕ) → ℕ → Result (List ℕ) FolderFault
fetched None limit = Err Missing
fetched (Some bytes) limit = if nat_lt limit (length bytes) then Err TooLong else Ok bytes

-- `get` answers what a fetch finds: Memory only in place of the bytes, and after Device nothing is said
abbrev pub Gets : {Z : Type 0} → Result (Vec ℕ Z) FolderFault → Option (List ℕ) → ℕ → Type 0
Gets (Ok bytes) file limit = fetched file limit ≡ Ok bytes.items
Gets (Err Missing) file limit = fetched file limit ≡ Err Missing
Gets (Err TooLong) file limit = fetched file limit ≡ Err TooLong
Gets (Err Device) file limit = ⊤
Gets (Err Memory) file limit = IsOk (fetched file limit)

-- every other name has what it had
abbrev pub KeepsOthers : Files → List ℕ → Files → Type 0
KeepsOthers old name new = (other : List ℕ) → other ≢ name → file_at new other ≡ file_at old other

-- what a write of `bytes` that broke off leaves at its name: what was there, nothing, or the first of the bytes
abbrev pub IsTorn : Option (List ℕ) → List ℕ → Option (List ℕ) → Type 0
IsTorn before bytes after = (after ≡ before) ⊎ ((after ≡ None) ⊎ ((n : ℕ) × (after ≡ Some (take n bytes))))

-- the only faults of a call that writes
abbrev pub IsWriteFault : FolderFault → Type 0
IsWriteFault fault = (fault ≡ Device) ⊎ (fault ≡ Memory)

-- `put` answers Ok, Device or Memory: the name has the bytes; a torn write and every other name as before; no change
abbrev pub Puts : Result (Unit {0}) FolderFault → Files → List ℕ → List ℕ → Files → Type 0
Puts (Ok done) old name bytes new = new ≡ with_file old name bytes
Puts (Err Missing) old name bytes new = ⊥
Puts (Err TooLong) old name bytes new = ⊥
Puts (Err Device) old name bytes new = KeepsOthers old name new × IsTorn (file_at old name) bytes (file_at new name)
Puts (Err Memory) old name bytes new = new ≡ old

-- `remove` answers Ok, Device or Memory: the name has no file; it may have lost it, and every other name is as
-- before; no change
abbrev pub Removes : Result (Unit {0}) FolderFault → Files → List ℕ → Files → Type 0
Removes (Ok done) old name new = new ≡ without_file old name
Removes (Err Missing) old name new = ⊥
Removes (Err TooLong) old name new = ⊥
Removes (Err Device) old name new = KeepsOthers old name new
    × ((file_at new name ≡ file_at old name) ⊎ (file_at new name ≡ None))
Removes (Err Memory) old name new = new ≡ old

-- ---- how calls have failed

-- the most that a count of failed calls shows, the largest 64-bit number
abbrev pub most_failures : ℕ
most_failures = 2 ^ 64 - 1

-- how the calls of a folder have failed: how many for a device; the name at which the last of these was made, where the
-- folder keeps it; and how many for want of memory
pub record Tally : Type 0 where
  pub failures : ℕ
  pub failed_at : Option (List ℕ)
  pub shortages : ℕ

-- no call has failed
abbrev pub none_failed : Tally
none_failed = record { failures = 0; failed_at = None; shortages = 0 }

-- a device failed once more, in a call at this name: the count of device failures has risen by one, or stays at its
-- end, and that of want of memory is as it was
pub record FailedAt (name : List ℕ) (old new : Tally) : Type 0 where
  pub counted : new.failures ≡ min (old.failures + 1) most_failures
  pub named : IfSome new.failed_at (λ file. file ≡ name)
  pub as_short : new.shortages ≡ old.shortages

-- memory was wanting once more: the count of that has risen by one, or stays at its end
abbrev pub short_again : Tally → Tally
short_again tally =
    record { failures = tally.failures; failed_at = tally.failed_at; shortages = min (tally.shortages + 1) most_failures }

-- a call at this name is counted: a failure of the device with Device, want of memory with Memory, and nothing else
abbrev pub Counts : {T : Type 0} → Result T FolderFault → List ℕ → Tally → Tally → Type 0
Counts (Ok answer) name old new = new ≡ old
Counts (Err Missing) name old new = new ≡ old
Counts (Err TooLong) name old new = new ≡ old
Counts (Err Device) name old new = FailedAt name old new
Counts (Err Memory) name old new = new ≡ short_again old
