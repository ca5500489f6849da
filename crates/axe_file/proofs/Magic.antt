-- The magic bytes, found as the beginning of a list.
use Rattle.std.proofs.Common.{◌≡◌, ℕ, ◌<◌, ◌≤◌, true, false, not, eqb, List, [], ◌∷◌, ◌++◌, length, get_or, take, drop, refl, sym, ap, ◌∙◌, inl, inr, arith}
use Rattle.std.specs.List.{starts_with}
use Rattle.std.proofs.lemmas.Bool.{cases_Bool, eqb-true, eq-eqb, not-false}
use Rattle.std.proofs.lemmas.Bool.Decides.{Decides-eqb}
use Rattle.std.proofs.lemmas.List.{get_or_append_left, take-append-drop, take_all}
use Rattle.std.proofs.lemmas.Slice.Eq.{starts_is}
use Rattle.axe_file.specs.Packed.{has_other_magic}
use Rattle.axe_file.proofs.Fours.{four}
use Rattle.axe_file.proofs.Ranges.{or_false}

pub same_test : (a b : ℕ) → not (eqb a b) ≡ false → a ≡ b
same_test a b e = eqb-true a b (not-false _ e)

-- four magic bytes, with no other in their places, begin the bytes
pub first_four : (magic bytes : List ℕ) → length magic ≡ 4 → 4 ≤ length bytes → has_other_magic magic bytes ≡ false → take 4 bytes ≡ magic
unfolding has_other_magic
first_four magic bytes count long e =
    let one = or_false (not (eqb (get_or bytes 0 0) (get_or magic 0 0))) _ e in
    let two = or_false (not (eqb (get_or bytes 1 0) (get_or magic 1 0))) _ one.1 in
    let three = or_false (not (eqb (get_or bytes 2 0) (get_or magic 2 0))) _ two.1 in
    let last = or_false (not (eqb (get_or bytes 3 0) (get_or magic 3 0))) _ three.1 in
    let a : get_or bytes 0 0 ≡ get_or magic 0 0 = same_test _ _ one.0 in
    let b : get_or bytes 1 0 ≡ get_or magic 1 0 = same_test _ _ two.0 in
    let c : get_or bytes 2 0 ≡ get_or magic 2 0 = same_test _ _ three.0 in
    let d : get_or bytes 3 0 ≡ get_or magic 3 0 = same_test _ _ last.0 in
    four bytes long ∙ (λ i. a i ∷ b i ∷ c i ∷ d i ∷ []) ∙ sym (four magic (omega (arith, count))) ∙ take_all 4 magic (omega (arith, count))

pub no_other : (a b : ℕ) → a ≡ b → not (eqb a b) ≡ false
no_other a b e = let same : eqb a b ≡ true = eq-eqb a b e in rw same refl

begun : (magic rest : List ℕ) → length magic ≡ 4 → has_other_magic magic (magic ++ rest) ≡ false
unfolding has_other_magic
begun magic rest count =
    let at : (i : ℕ) → i < 4 → not (eqb (get_or (magic ++ rest) i 0) (get_or magic i 0)) ≡ false =
    λ i lt. no_other _ _ (get_or_append_left magic rest 0 i (omega (arith, count))) in
    let a = at 0 (omega arith) in
    let b = at 1 (omega arith) in
    let c = at 2 (omega arith) in
    let d = at 3 (omega arith) in
    rw (a, b, c, d) refl

pub magic_found : (magic bytes : List ℕ) → length magic ≡ 4 → starts_with eqb bytes magic ≡ true → has_other_magic magic bytes ≡ false
magic_found magic bytes count e =
    let is = (starts_is Decides-eqb bytes magic (starts_with eqb bytes magic) refl).0 e in
    ap (λ (xs : List ℕ). has_other_magic magic xs) is ∙ begun magic (drop (length magic) bytes) count

pub magic_missed : (magic bytes : List ℕ) → length magic ≡ 4 → 4 ≤ length bytes → starts_with eqb bytes magic ≡ false → has_other_magic magic bytes ≡ true
magic_missed magic bytes count long e =
    elim (cases_Bool (has_other_magic magic bytes)) [
      | inl t ↦ t
      | inr f ↦
          let whole : bytes ≡ magic ++ drop 4 bytes =
          sym (take-append-drop 4 bytes) ∙ ap (λ (xs : List ℕ). xs ++ drop 4 bytes) (first_four magic bytes count long f) in
          let found = (starts_is Decides-eqb bytes magic (starts_with eqb bytes magic) refl).1 (drop 4 bytes) whole in
          absurd cc
    ]
