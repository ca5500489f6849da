-- A folder in memory: what it is.
use Rattle.std.specs.Prelude.{ℕ, None, refl}
use Rattle.std.specs.Coded.{Coded, code_by, coded×, coded_ℕ}
use Rattle.axe_folder.specs.Files.{Files, files_code}
use Rattle.axe_folder.specs.Outcomes.{Tally}

-- the files in it, and how many of its calls have failed for want of memory
pub record Held : Type 0 where
  pub files : Files
  pub shortages : ℕ

-- the code by which proofs tell such folders apart
abbrev pub held_code : Coded Held
held_code =
    code_by (Files × ℕ) (coded× files_code coded_ℕ) (λ h. (h.files, h.shortages))
    (λ p. record { files = p.0; shortages = p.1 }) (λ _. refl)

-- how its calls have failed: none for a device
abbrev pub held_tally : Held → Tally
held_tally folder = record { failures = 0; failed_at = None; shortages = folder.shortages }
