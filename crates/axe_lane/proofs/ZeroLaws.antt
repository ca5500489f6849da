-- Entries that are zero, and the first that is not.
use Rattle.std.proofs.Common.{◌≡◌, ◌↔◌, ℕ, zero, suc, ◌+◌, ◌-◌, ◌*◌, ◌/◌, ◌%◌, ◌<◌, ◌≤◌, List, [], ◌∷◌, Option, Some, None, length, get_or, refl, sym, ap, ap₂, ◌∙◌, arith, inl, inr, IsTrue, MatchOption, is_some, bit_or}
use Rattle.std.specs.Simd.Lanes.{fold_l, chunk}
use Rattle.std.specs.List.{All}
use Rattle.std.specs.Int.{bit_at}
use Rattle.std.proofs.lemmas.Simd.{get_or-chunk}
use Rattle.std.proofs.lemmas.Bool.{cases_lt}
use Rattle.std.proofs.lemmas.List.{get_or_default, get_or_past}
use Rattle.std.proofs.lemmas.List.Elements.{All-get_or}
use Rattle.std.proofs.lemmas.Nat.{le_or_l, le_or_r}
use Rattle.std.proofs.lemmas.Nat.Bits.{bit_at-zero}
use Rattle.axe_lane.specs.Entries.{HasNonzero, AreZerosBefore, IsFirstNonzero}
use Rattle.axe_lane.specs.Words.{bit_of, HasNoSetBitBefore, IsFirstSetBit}

first_and_rest : (x : ℕ) (xs : List ℕ) → x ≡ 0 → ((j : ℕ) → get_or xs j 0 ≡ 0) → (j : ℕ) → get_or (x ∷ xs) j 0 ≡ 0
first_and_rest x xs e rest zero = e
first_and_rest x xs e rest (suc j) = rest j

-- where the or of numbers is zero, each of them is
pub zeros_from_or : (xs : List ℕ) (a : ℕ) → fold_l bit_or a xs ≡ 0 → (a ≡ 0) × ((j : ℕ) → get_or xs j 0 ≡ 0)
zeros_from_or [] a e = (e, λ j. refl)
zeros_from_or (x ∷ xs) a e =
    let rest = zeros_from_or xs (bit_or a x) e in
    (omega (arith, le_or_l a x, rest.0), first_and_rest x xs (omega (arith, le_or_r a x, rest.0)) rest.1)

-- a block more of zeros
pub zeros_more : (n k m : ℕ) (xs : List ℕ) → m ≡ n + k → AreZerosBefore xs n → AreZerosBefore (chunk n k xs) k → AreZerosBefore xs m
zeros_more n k m xs sum before block j h =
    elim (cases_lt j n) [
      | inl l ↦ before j l
      | inr g ↦
          let at : n + (j - n) ≡ j = omega arith in
          let within : j - n < k = omega arith in
          ap (λ i. get_or xs i 0) (sym at) ∙ sym (get_or-chunk n k xs (j - n) 0 within) ∙ block (j - n) within
    ]

pub some_is_nonzero : (r : Option ℕ) (xs : List ℕ) → MatchOption r (All (λ x. x ≡ 0) xs) (IsFirstNonzero xs) → IsTrue (is_some r) ↔ HasNonzero xs
some_is_nonzero None xs zeros = (λ h. cc, λ some. absurd (some.4 (sym some.3 ∙ zeros some.0 some.1 some.2)))
some_is_nonzero (Some i) xs first =
    (λ _. (i, get_or xs i 0, first.within, get_or_default xs i (get_or xs i 0) 0 first.within, first.nonzero), λ _. refl)

no_bit_past : (words : List ℕ) (n i : ℕ) → All (λ x. x ≡ 0) words → bit_at (get_or words n 0) i ≡ 0
no_bit_past words n i zeros =
    elim (cases_lt n (length words)) [
      | inl l ↦ ap (λ x. bit_at x i) (All-get_or (λ x. x ≡ 0) words n 0 l zeros) ∙ bit_at-zero i
      | inr g ↦ ap (λ x. bit_at x i) (get_or_past words n 0 g) ∙ bit_at-zero i
    ]

pub no_set_bit : (words : List ℕ) (index : ℕ) → All (λ x. x ≡ 0) words → HasNoSetBitBefore words index
unfolding bit_of
no_set_bit words index zeros i before = no_bit_past words (i / 64) (i % 64) zeros

-- the words before the first that is not zero have no set bit
pub no_set_bit_before : (words : List ℕ) (at index : ℕ) → IsFirstNonzero words at → index ≤ at * 64 → HasNoSetBitBefore words index
unfolding bit_of
no_set_bit_before words at index first early i before =
    ap (λ x. bit_at x (i % 64)) (first.zeros_before (i / 64) (omega arith)) ∙ bit_at-zero (i % 64)

-- the lowest bit of the first word that is not zero
pub first_set_bit : (words : List ℕ) (at bit : ℕ) → IsFirstNonzero words at → bit < 64 → bit_at (get_or words at 0) bit ≡ 1
    → ((i : ℕ) → i < bit → bit_at (get_or words at 0) i ≡ 0) → IsFirstSetBit words (at * 64 + bit)
unfolding bit_of
first_set_bit words at bit first small set unset =
    let word : (at * 64 + bit) / 64 ≡ at = omega arith in
    let place : (at * 64 + bit) % 64 ≡ bit = omega arith in
    let inside : at < length words = first.within in
    record {
      within = omega arith;
      is_set = ap₂ (λ n i. bit_at (get_or words n 0) i) word place ∙ set;
      unset_before = λ i h. elim (cases_lt (i / 64) at) [
        | inl l ↦ ap (λ x. bit_at x (i % 64)) (first.zeros_before (i / 64) l) ∙ bit_at-zero (i % 64)
        | inr g ↦
            let same : i / 64 ≡ at = omega arith in
            let below : i % 64 < bit = omega arith in
            ap (λ n. bit_at (get_or words n 0) (i % 64)) same ∙ unset (i % 64) below
      ];
    }
