-- What a put leaves that fails, or that put a part of its bytes, is what a folder may leave at a failure of its device.
use Rattle.std.proofs.Common.{◌≡◌, ℕ, List, take, Result, Ok, Err, IfErr, ap, ◌∙◌, inl, inr}
use Rattle.axe_folder.specs.declared.fault.FolderFault.{FolderFault}
use Rattle.axe_folder.specs.declared.fault.FolderFault.TheVariants.{Missing, TooLong, Device, Memory}
use Rattle.axe_folder.specs.Files.{Files, file_at, with_file}
use Rattle.axe_folder.specs.Outcomes.{Puts}
use Rattle.axe_folder.proofs.FileLaws.{file_at-with_file, file_at-with_file-other}

-- a put that leaves every file
pub unchanged_put : (old : Files) (name bytes : List ℕ) (new : Files) → new ≡ old → Puts (Err Device) old name bytes new
unchanged_put old name bytes new same = ((λ other differ. ap (λ f. file_at f other) same), inl (ap (λ f. file_at f name) same))

-- a put that leaves the first of its bytes
pub torn_put : (old : Files) (name bytes : List ℕ) (n : ℕ) (new : Files) → new ≡ with_file old name (take n bytes) → Puts (Err Device) old name bytes new
torn_put old name bytes n new torn = (
  (λ other differ. ap (λ f. file_at f other) torn ∙ file_at-with_file-other old name (take n bytes) other differ),
  inr (inr (n, ap (λ f. file_at f name) torn ∙ file_at-with_file old name (take n bytes))),
)

-- a put of the first of the bytes, for which there may be no memory
pub half_put : (result : Result (Unit {0}) FolderFault) (before old : Files) (name bytes : List ℕ) (n : ℕ) (new : Files)
    → before ≡ old → Puts result before name (take n bytes) new → IfErr result (λ fault. fault ≡ Memory) → Puts (Err Device) old name bytes new
half_put (Ok done) before old name bytes n new is put sound =
    torn_put old name bytes n new (put ∙ ap (λ f. with_file f name (take n bytes)) is)
half_put (Err Missing) before old name bytes n new is put sound = absurd put
half_put (Err TooLong) before old name bytes n new is put sound = absurd put
half_put (Err Device) before old name bytes n new is put sound = absurd cc
half_put (Err Memory) before old name bytes n new is put sound = unchanged_put old name bytes new (put ∙ is)
