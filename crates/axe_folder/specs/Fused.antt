-- A folder with a fuse, which passes some calls on and fails the others: what it is, and what its calls leave.
use Rattle.std.specs.Prelude.{◌≡◌, ◌⊎◌, ◌↔◌, ℕ, ◌-◌, ◌/◌, Bool, IsTrue, List, None, length, take, Result, Err, refl}
use Rattle.std.specs.Coded.{Coded, code_by, coded×, coded_ℕ, coded_bool}
use Rattle.axe_folder.specs.declared.fault.FolderFault.{FolderFault}
use Rattle.axe_folder.specs.declared.fault.FolderFault.TheVariants.{Device}
use Rattle.axe_folder.specs.Files.{Files, with_file}
use Rattle.axe_folder.specs.Memory.{Held, held_code}
use Rattle.axe_folder.specs.Outcomes.{Tally}

-- the folder inside, how many more calls it passes on, whether the first call that fails may tear a file, and how many
-- have failed
pub record Fused : Type 0 where
  pub inside : Held
  pub calls : ℕ
  pub tears : Bool
  pub failures : ℕ

-- the code by which proofs tell such folders apart
abbrev pub fused_code : Coded Fused
fused_code =
    code_by (Held × (ℕ × (Bool × ℕ))) (coded× held_code (coded× coded_ℕ (coded× coded_bool coded_ℕ)))
    (λ f. (f.inside, (f.calls, (f.tears, f.failures))))
    (λ p. record { inside = p.0; calls = p.1.0; tears = p.1.1.0; failures = p.1.1.1 }) (λ _. refl)

-- how its calls have failed: those of the device, of which it keeps no name, and of want of memory those inside
abbrev pub fused_tally : Fused → Tally
fused_tally folder = record { failures = folder.failures; failed_at = None; shortages = folder.inside.shortages }

-- a call fails with Device exactly where no call is left to be passed on, and afterwards one call less is left, and
-- whether it tears stays
abbrev pub Burns : {T : Type 0} → Result T FolderFault → Fused → Fused → Type 0
Burns result old new = ((result ≡ Err Device) ↔ (old.calls ≡ 0)) × (new.calls ≡ old.calls - 1) × (new.tears ≡ old.tears)

-- whether the next call that fails is the first, and may tear a file
abbrev pub MayTear : Fused → Type 0
MayTear folder = IsTrue folder.tears × (folder.failures ≡ 0)

-- what a `put` that fails leaves: the files as they were, or where it may tear, the first half of the bytes at the name
abbrev pub Tears : Fused → List ℕ → List ℕ → Files → Type 0
Tears old name bytes files =
    (files ≡ old.inside.files) ⊎ (MayTear old × (files ≡ with_file old.inside.files name (take (length bytes / 2) bytes)))
