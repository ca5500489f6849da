-- What the words for files mean at a name, and when two maps of files are one.
use Rattle.std.proofs.Common.{◌≡◌, ◌≢◌, ℕ, Bool, true, false, cond, List, Some, None, refl, ap, ◌∙◌}
use Rattle.std.specs.Ordering.{nat_cmp, eq_by_cmp}
use Rattle.std.specs.Cmp.Lexicographic.{slice_cmp, nat_list_cmp_total}
use Rattle.std.specs.Str.{bytes_eq}
use Rattle.std.specs.FinMap.{get-empty, get-insert, get-remove, same_map, nat_cmp-IsAntisymmetric, slice_cmp-IsAntisymmetric}
use Rattle.std.proofs.lemmas.Bool.{false_from_ne_true}
use Rattle.std.proofs.lemmas.Map.Text.{is_eq-slice_cmp}
use Rattle.std.proofs.lemmas.Slice.Eq.{bytes_eq-Decides}
use Rattle.axe_folder.specs.Files.{Files, file_at, no_files, with_file, without_file}

-- a choice made by a test that is known
chosen : {A : Type 0} (b : Bool) (x y : A) → b ≡ true → cond b x y ≡ x
chosen b x y is = ap (λ c. cond c x y) is

not_chosen : {A : Type 0} (b : Bool) (x y : A) → b ≡ false → cond b x y ≡ y
not_chosen b x y is = ap (λ c. cond c x y) is

-- the order of names holds a name equal to itself
same_name : (name : List ℕ) → eq_by_cmp (slice_cmp nat_cmp) name name ≡ true
same_name name = is_eq-slice_cmp name name ∙ (bytes_eq-Decides name name).1 refl

-- and to no other
other_name : (other name : List ℕ) → other ≢ name → eq_by_cmp (slice_cmp nat_cmp) other name ≡ false
other_name other name differ = is_eq-slice_cmp other name ∙ false_from_ne_true (bytes_eq other name) (λ is. differ ((bytes_eq-Decides other name).0 is))

-- where there are no files, no name has one
pub file_at-no_files : (name : List ℕ) → file_at no_files name ≡ None
file_at-no_files name = get-empty (slice_cmp nat_cmp) name

-- a file that was put is found under its name
pub file_at-with_file : (files : Files) (name bytes : List ℕ) → file_at (with_file files name bytes) name ≡ Some bytes
file_at-with_file files name bytes = get-insert nat_list_cmp_total files name bytes name ∙ chosen _ _ _ (same_name name)

-- and every other name is as before
pub file_at-with_file-other : (files : Files) (name bytes other : List ℕ) → other ≢ name → file_at (with_file files name bytes) other ≡ file_at files other
file_at-with_file-other files name bytes other differ = get-insert nat_list_cmp_total files name bytes other ∙ not_chosen _ _ _ (other_name other name differ)

-- a name whose file was removed has none
pub file_at-without_file : (files : Files) (name : List ℕ) → file_at (without_file files name) name ≡ None
file_at-without_file files name = get-remove nat_list_cmp_total files name name ∙ chosen _ _ _ (same_name name)

-- and every other name is as before
pub file_at-without_file-other : (files : Files) (name other : List ℕ) → other ≢ name → file_at (without_file files name) other ≡ file_at files other
file_at-without_file-other files name other differ = get-remove nat_list_cmp_total files name other ∙ not_chosen _ _ _ (other_name other name differ)

-- maps with the same file at each name are one
pub same_files : (a b : Files) → ((name : List ℕ) → file_at a name ≡ file_at b name) → a ≡ b
same_files a b same = same_map nat_list_cmp_total (slice_cmp-IsAntisymmetric nat_cmp-IsAntisymmetric) a b same
