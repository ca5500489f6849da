-- When two maps of files are one that agree at one name and at all others.
use Rattle.std.proofs.Common.{◌≡◌, ◌≢◌, sym, ◌∙◌, ap, ℕ, true, false, List, ◌⊎◌, inl, inr}
use Rattle.std.proofs.lemmas.Bool.{cases_Bool, true≢false}
use Rattle.std.specs.Str.{bytes_eq}
use Rattle.std.proofs.lemmas.Slice.Eq.{bytes_eq-Decides}
use Rattle.axe_folder.specs.Files.{Files, file_at}
use Rattle.axe_folder.specs.Outcomes.{KeepsOthers}
use Rattle.axe_folder.proofs.FileLaws.{same_files}

-- what stands at a name, by a test of it
same_or_other : {P : Type 0} (other name : List ℕ) → (other ≡ name → P) → (other ≢ name → P) → P
same_or_other {P} other name same differs = cases (cases_Bool (bytes_eq other name))
  where
    cases : (bytes_eq other name ≡ true) ⊎ (bytes_eq other name ≡ false) → P
    cases (inl is) = same ((bytes_eq-Decides other name).0 is)
    cases (inr not) = differs (λ e. true≢false (sym ((bytes_eq-Decides other name).1 e) ∙ not))

-- files that agree at a name and at all others are one
pub same_with_name : (a b : Files) (name : List ℕ) → file_at a name ≡ file_at b name → KeepsOthers b name a → a ≡ b
same_with_name a b name here others =
    same_files a b (λ other. same_or_other other name (λ e. ap (file_at a) e ∙ here ∙ ap (file_at b) (sym e)) (others other))
