-- A plain name is joined to its directory as it stands.
use Rattle.std.proofs.Common.{◌≡◌, ℕ, Bool, true, false, cond, ◌||◌, not, ◌==◌, List, [], ◌∷◌, slice_index, refl, sym, ap, rules}
use Rattle.std.specs.List.{list_any}
use Rattle.std.specs.Path.{slash, path_join}
use Rattle.axe_folder.specs.FileName.{is_separator, is_plain_name, path_in}

-- no part of a test of which nothing holds
first_fails : (a b : Bool) → (a || b) ≡ false → a ≡ false
first_fails true b e = e
first_fails false b e = refl

second_fails : (a b : Bool) → (a || b) ≡ false → b ≡ false
second_fails true b e = absurd (search (rules, e))
second_fails false b e = e

holds_not : (a : Bool) → not a ≡ true → a ≡ false
holds_not true e = sym e
holds_not false e = refl

-- a text with no separator does not begin with a slash
no_slash_first : (name : List ℕ) → list_any is_separator name ≡ false → (slice_index name 0 == slash) ≡ false
no_slash_first [] e = refl
no_slash_first (x ∷ xs) e = first_fails _ _ (first_fails _ _ e)

-- so the path of a file of a plain name is the directory's with that name
pub path_join-plain : (directory name : List ℕ) → is_plain_name name ≡ true → path_join directory name ≡ path_in directory name
unfolding path_join
path_join-plain directory name plain = ap (λ b. cond b name (path_in directory name)) (no_slash_first name (second_fails _ _ (holds_not _ plain)))
