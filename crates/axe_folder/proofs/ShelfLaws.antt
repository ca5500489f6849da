-- The files of a map with text keys: what it has at a name, and what an insertion and a removal make of them.
use Rattle.std.proofs.Common.{◌≡◌, ℕ, Bool, true, false, cond, List, [], ◌∷◌, map, Option, Some, None, Vec, String, string_bytes, refl, sym, ap, ◌∙◌}
use Rattle.std.specs.Option.{option_map}
use Rattle.std.specs.Ordering.{nat_cmp, is_eq, eq_by_cmp}
use Rattle.std.specs.Cmp.{eq_by_cmp_equiv}
use Rattle.std.specs.Cmp.Lexicographic.{slice_cmp, nat_list_cmp_total}
use Rattle.std.specs.Str.{bytes_eq}
use Rattle.std.specs.String.{string_cmp}
use Rattle.std.specs.Map.{lookup}
use Rattle.std.specs.BTreeMap.{BTreeMap, UpdatesBy, get_by_text, is_at}
use Rattle.std.specs.FinMap.{find, get-from_entries, get-insert, get-remove}
use Rattle.std.proofs.lemmas.Map.Text.{is_eq-slice_cmp, btree_map_updates_text}
use Rattle.axe_folder.specs.Files.{Files, file_at, with_file, without_file}
use Rattle.axe_folder.proofs.FileLaws.{same_files}
use Rattle.axe_folder.specs.Shelf.{file_of, files_of}

-- the bytes of a chosen vector
option_map-choice : {Z : Type 0} (b : Bool) (x y : Option (Vec ℕ Z)) → option_map (λ v. v.items) (cond b x y) ≡ cond b (option_map (λ v. v.items) x) (option_map (λ v. v.items) y)
option_map-choice true x y = refl
option_map-choice false x y = refl

-- whether two names are one, asked either way round
same_name : (a b : List ℕ) → bytes_eq a b ≡ eq_by_cmp (slice_cmp nat_cmp) b a
same_name a b = sym (is_eq-slice_cmp a b) ∙ (eq_by_cmp_equiv nat_list_cmp_total).symm a b

module _ {Y Z : Type 0} where
  find-file_of : (name : List ℕ) (es : List (String Y × Vec ℕ Z)) → find (slice_cmp nat_cmp) name (map file_of es) ≡ option_map (λ v. v.items) (lookup (is_at (λ k. slice_cmp nat_cmp name (string_bytes k))) es)
  find-file_of name [] = refl
  find-file_of name (e ∷ es) =
      ap (cond (is_eq (slice_cmp nat_cmp name (string_bytes e.0))) (Some e.1.items)) (find-file_of name es)
      ∙ sym (option_map-choice (is_eq (slice_cmp nat_cmp name (string_bytes e.0))) (Some e.1) _)

  -- the files have at a name what the map has there
  file_at-files_of : (shelf : BTreeMap (String Y) (Vec ℕ Z)) (name : List ℕ) → file_at (files_of shelf) name ≡ option_map (λ v. v.items) (get_by_text shelf name)
  file_at-files_of shelf name = get-from_entries nat_list_cmp_total (map file_of shelf.entries) name ∙ find-file_of name shelf.entries

  -- what the map holds at a name is the name's file
  pub file_at-held : (shelf : BTreeMap (String Y) (Vec ℕ Z)) (files : Files) (name : List ℕ) (held : Option (Vec ℕ Z)) → files_of shelf ≡ files → held ≡ get_by_text shelf name → option_map (λ v. v.items) held ≡ file_at files name
  file_at-held shelf files name held seen is =
      ap (option_map (λ v. v.items)) is ∙ sym (file_at-files_of shelf name) ∙ ap (λ m. file_at m name) seen

  -- a map after its key of this text took `after`, or lost what it had
  file_at-updated : (name : List ℕ) (old new : BTreeMap (String Y) (Vec ℕ Z)) (after : Option (Vec ℕ Z)) → UpdatesBy string_cmp (λ k. slice_cmp nat_cmp name (string_bytes k)) old new after
      → (query : List ℕ) → file_at (files_of new) query ≡ cond (eq_by_cmp (slice_cmp nat_cmp) query name) (option_map (λ v. v.items) after) (file_at (files_of old) query)
  file_at-updated name old new after updates query =
      file_at-files_of new query
      ∙ ap (option_map (λ v. v.items)) (btree_map_updates_text name old new after updates query)
      ∙ option_map-choice (bytes_eq name query) after (get_by_text old query)
      ∙ ap (λ b. cond b (option_map (λ v. v.items) after) (option_map (λ v. v.items) (get_by_text old query))) (same_name name query)
      ∙ ap (cond (eq_by_cmp (slice_cmp nat_cmp) query name) (option_map (λ v. v.items) after)) (sym (file_at-files_of old query))

  -- an insertion puts the file
  pub files_of-insert : (name : List ℕ) (old new : BTreeMap (String Y) (Vec ℕ Z)) (file : Vec ℕ Z) → UpdatesBy string_cmp (λ k. slice_cmp nat_cmp name (string_bytes k)) old new (Some file)
      → files_of new ≡ with_file (files_of old) name file.items
  files_of-insert name old new file updates = same_files _ _ (λ query.
      file_at-updated name old new (Some file) updates query ∙ sym (get-insert nat_list_cmp_total (files_of old) name file.items query))

  -- a removal takes the file away
  pub files_of-remove : (name : List ℕ) (old new : BTreeMap (String Y) (Vec ℕ Z)) → UpdatesBy string_cmp (λ k. slice_cmp nat_cmp name (string_bytes k)) old new None
      → files_of new ≡ without_file (files_of old) name
  files_of-remove name old new updates = same_files _ _ (λ query.
      file_at-updated name old new None updates query ∙ sym (get-remove nat_list_cmp_total (files_of old) name query))
