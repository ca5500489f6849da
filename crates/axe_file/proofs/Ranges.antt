-- Tests of the numbers of a range, and faults where a test finds them.
use Rattle.std.proofs.Common.{◌≡◌, ℕ, zero, suc, ◌+◌, ◌<◌, ◌≤◌, Bool, true, false, ◌||◌, ◌&&◌, List, [], ◌∷◌, ◌++◌, None, refl, sym, ap, ◌∙◌, inl, inr, arith}
use Rattle.std.specs.Prelude.{slice_get}
use Rattle.std.specs.List.{list_any, flat_map, range_with_len}
use Rattle.std.proofs.lemmas.Bool.{cases_eq, or_left, or_right}
use Rattle.axe_file.specs.Packed.{fault_where}
use Rattle.axe_file.specs.declared.fault.FileFault.{FileFault}

pub or_false : (a b : Bool) → (a || b) ≡ false → (a ≡ false) × (b ≡ false)
or_false true b e = absurd cc
or_false false b e = (refl, e)

pub or_of_false : (a b : Bool) → a ≡ false → b ≡ false → (a || b) ≡ false
or_of_false a b e f = rw (e, f) refl

pub and_false : (a b : Bool) → a ≡ true → (a && b) ≡ false → b ≡ false
and_false true b e f = f
and_false false b e f = absurd cc

pub and_of_false : (a b : Bool) → (a ≡ true → b ≡ false) → (a && b) ≡ false
and_of_false true b h = h refl
and_of_false false b h = refl

pub none_found : (test : ℕ → Bool) (a n : ℕ) → ((j : ℕ) → a ≤ j → j < a + n → test j ≡ false) → list_any test (range_with_len a n) ≡ false
none_found test a zero h = refl
none_found test a (suc n) h =
    or_of_false (test a) _ (h a (omega arith) (omega arith)) (none_found test (a + 1) n (λ j low high. h j (omega arith) (omega arith)))

pub none_found_at : (test : ℕ → Bool) (a n : ℕ) → list_any test (range_with_len a n) ≡ false → (j : ℕ) → a ≤ j → j < a + n → test j ≡ false
none_found_at test a zero e j low high = absurd (omega arith)
none_found_at test a (suc n) e j low high =
    let parts = or_false (test a) (list_any test (range_with_len (a + 1) n)) e in
    elim (cases_eq j a) [
      | inl same ↦ ap test same ∙ parts.0
      | inr other ↦ none_found_at test (a + 1) n parts.1 j (omega arith) (omega arith)
    ]

-- ---- faults

pub not_found : (found : Bool) (fault : FileFault) → fault_where found fault ≡ [] → found ≡ false
not_found true fault e = absurd cc
not_found false fault e = refl

pub both_nil : (xs ys : List FileFault) → xs ++ ys ≡ [] → (xs ≡ []) × (ys ≡ [])
both_nil [] ys e = (refl, e)
both_nil (x ∷ xs) ys e = absurd cc

pub nil_of_both : (xs ys : List FileFault) → xs ≡ [] → ys ≡ [] → xs ++ ys ≡ []
nil_of_both xs ys e f = rw (e, f) refl

pub no_first : (xs : List FileFault) → slice_get xs 0 ≡ None → xs ≡ []
no_first [] e = refl
no_first (x ∷ xs) e = absurd cc

pub no_faults : (faults : ℕ → List FileFault) (a n : ℕ) → ((j : ℕ) → a ≤ j → j < a + n → faults j ≡ []) → flat_map faults (range_with_len a n) ≡ []
no_faults faults a zero h = refl
no_faults faults a (suc n) h =
    nil_of_both (faults a) _ (h a (omega arith) (omega arith)) (no_faults faults (a + 1) n (λ j low high. h j (omega arith) (omega arith)))

pub no_faults_at : (faults : ℕ → List FileFault) (a n : ℕ) → flat_map faults (range_with_len a n) ≡ [] → (j : ℕ) → a ≤ j → j < a + n → faults j ≡ []
no_faults_at faults a zero e j low high = absurd (omega arith)
no_faults_at faults a (suc n) e j low high =
    let parts = both_nil (faults a) (flat_map faults (range_with_len (a + 1) n)) e in
    elim (cases_eq j a) [
      | inl same ↦ ap faults same ∙ parts.0
      | inr other ↦ no_faults_at faults (a + 1) n parts.1 j (omega arith) (omega arith)
    ]

pub four_parts : (a b c d : List FileFault) → a ++ b ++ c ++ d ≡ [] → (a ≡ []) × (b ≡ []) × (c ≡ []) × (d ≡ [])
four_parts a b c d h =
    let three = both_nil (a ++ b ++ c) d h in
    let two = both_nil (a ++ b) c three.0 in
    let one = both_nil a b two.0 in
    (one.0, one.1, two.1, three.1)

pub three_parts : (a b c : List FileFault) → a ++ b ++ c ≡ [] → (a ≡ []) × (b ≡ []) × (c ≡ [])
three_parts a b c h =
    let two = both_nil (a ++ b) c h in
    let one = both_nil a b two.0 in
    (one.0, one.1, two.1)

pub found_at : (test : ℕ → Bool) (a n j : ℕ) → a ≤ j → j < a + n → test j ≡ true → list_any test (range_with_len a n) ≡ true
found_at test a zero j low high e = absurd (omega arith)
found_at test a (suc n) j low high e =
    elim (cases_eq j a) [
      | inl same ↦ or_left (test a) _ (ap test (sym same) ∙ e)
      | inr other ↦ or_right (test a) _ (found_at test (a + 1) n j (omega arith) (omega arith) e)
    ]
