-- The first digit of a plane that is not zero from an index on, by its words and bytes.
use Rattle.std.proofs.Common.{◌≡◌, ◌≢◌, ℕ, ◌+◌, ◌-◌, ◌*◌, ◌/◌, ◌%◌, ◌^◌, ◌<◌, ◌≤◌, Option, Some, None, MatchOption, List, length, get_or, drop, take, sym, ap, ap₂, ◌∙◌, arith, w64}
use Rattle.std.specs.Int.{bit_at, trailing_zeros}
use Rattle.std.specs.List.{All}
use Rattle.std.proofs.lemmas.List.{get_or_past, get_or-drop, get_or-take, length-drop, length-take, take_rest}
use Rattle.std.proofs.lemmas.List.Elements.{All-get_or}
use Rattle.std.proofs.lemmas.Nat.Bits.{bit_at-zero, bit_at_above, bit_at-trailing_zeros}
use Rattle.std.proofs.Math.Nat.{div-le_self}
use native.Mathlib.Decide.{dec_lt}
use Rattle.axe_lane.specs.Entries.{IsFirstNonzero, AreZerosBetween, AreZerosFrom, IsNextNonzero}
use Rattle.axe_lane.specs.Words.{bit_of, HasNoSetBitBefore, IsFirstSetBit}
use Rattle.axe_layer.specs.Bits.{bits, HoldsBits}
use Rattle.axe_layer.proofs.BitLaws.{length-bits, get_or-bits, bit_of-word, bit_of-further, bit_at-shifted}

-- the digits of words, also past the end
bit_of-digit : (n : ℕ) (words : List ℕ) (e : ℕ) → HoldsBits n words → get_or (bits n words) e 0 ≡ bit_of words e
bit_of-digit n words e held = elim (dec_lt e n) [
  | yes inside ↦ get_or-bits n words e inside
  | no outside ↦ get_or_past (bits n words) e 0 (omega (arith, length-bits n words)) ∙ sym (held.unused e (omega arith))
]

-- a set bit from an index on, and none between
next_bit : (n : ℕ) (words : List ℕ) (start index : ℕ) → HoldsBits n words → start ≤ index → bit_of words index ≡ 1 →
    ((j : ℕ) → start ≤ j → j < index → bit_of words j ≡ 0) → IsNextNonzero (bits n words) start index
next_bit n words start index held after set unset = record {
  within = elim (dec_lt index n) [
    | yes inside ↦ omega (arith, length-bits n words)
    | no outside ↦ absurd (omega (arith, set, held.unused index (omega arith)))
  ];
  not_before = after;
  nonzero = λ none. absurd (omega (arith, none, set, bit_of-digit n words index held));
  zeros_between = λ j from before. bit_of-digit n words j held ∙ unset j from before;
}

-- the bits of a word from a place on
from_place : (words : List ℕ) (start word j : ℕ) → get_or words (start / 64) 0 ≡ word → start ≤ j → start % 64 + (j - start) < 64 →
    bit_at (word / 2 ^ (start % 64)) (j - start) ≡ bit_of words j
from_place words start word j is after below =
    let there : start + (j - start) ≡ j = omega arith in
    ap (λ w. bit_at (w / 2 ^ (start % 64)) (j - start)) (sym is)
    ∙ bit_of-further words start (j - start) below ∙ ap (bit_of words) there

-- the lowest bit that is left of a word stands in it
pub within_word : (word start : ℕ) → word < 2 ^ 64 → word / 2 ^ (start % 64) ≢ 0 →
    start % 64 + trailing_zeros w64 (word / 2 ^ (start % 64)) < 64
within_word word start fits nonzero = elim (dec_lt (start % 64 + low) 64) [
  | yes inside ↦ inside
  | no outside ↦
      absurd (omega (arith, bit.1, sym (bit_at-shifted word (start % 64) low), bit_at_above word 64 (start % 64 + low) fits (omega arith)))
]
  where
    rest : ℕ
    rest = word / 2 ^ (start % 64)

    low : ℕ
    low = trailing_zeros w64 rest

    bit : (low < 64) × (bit_at rest low ≡ 1) × ((i : ℕ) → i < low → bit_at rest i ≡ 0)
    bit = bit_at-trailing_zeros w64 rest (omega arith) (omega (arith, fits, div-le_self word (2 ^ (start % 64))))

-- the lowest bit that is left of a word
pub next_in_word : (n : ℕ) (words : List ℕ) (start word : ℕ) → HoldsBits n words → get_or words (start / 64) 0 ≡ word →
    word / 2 ^ (start % 64) ≢ 0 → IsNextNonzero (bits n words) start (start + trailing_zeros w64 (word / 2 ^ (start % 64)))
next_in_word n words start word held is nonzero =
    next_bit n words start (start + low) held (omega arith)
    (sym (from_place words start word (start + low) is (omega arith) (omega (arith, place))) ∙ ap (bit_at rest) back ∙ bit.1)
    (λ j from before. sym (from_place words start word j is from (omega (arith, place))) ∙ bit.2 (j - start) (omega arith))
  where
    rest : ℕ
    rest = word / 2 ^ (start % 64)

    low : ℕ
    low = trailing_zeros w64 rest

    fits : word < 2 ^ 64
    fits = omega (arith, held.fits (start / 64), is)

    bit : (low < 64) × (bit_at rest low ≡ 1) × ((i : ℕ) → i < low → bit_at rest i ≡ 0)
    bit = bit_at-trailing_zeros w64 rest (omega arith) (omega (arith, fits, div-le_self word (2 ^ (start % 64))))

    back : start + low - start ≡ low
    back = omega arith

    place : start % 64 + low < 64
    place = within_word word start fits nonzero

-- nothing is left of a word
none_in_word : (words : List ℕ) (start word : ℕ) → get_or words (start / 64) 0 ≡ word → word / 2 ^ (start % 64) ≡ 0 → (j : ℕ) →
    start ≤ j → j < (start / 64 + 1) * 64 → bit_of words j ≡ 0
none_in_word words start word is none j from before =
    sym (from_place words start word j is from (omega arith)) ∙ ap (λ w. bit_at w (j - start)) none ∙ bit_at-zero (j - start)

-- a bit of the words after some
bit_of-drop : (words : List ℕ) (k i : ℕ) → bit_of (drop k words) i ≡ bit_of words (k * 64 + i)
unfolding bit_of
bit_of-drop words k i =
    let word : k + i / 64 ≡ (k * 64 + i) / 64 = omega arith in
    let place : i % 64 ≡ (k * 64 + i) % 64 = omega arith in
    ap (λ w. bit_at w (i % 64)) (get_or-drop k words (i / 64) 0)
    ∙ ap₂ (λ w p. bit_at (get_or words w 0) p) word place ∙ sym (bit_of-word words (k * 64 + i))

-- the bits from a word on
unset_before : (words : List ℕ) (k i j : ℕ) → ((i' : ℕ) → i' < i → bit_of (drop k words) i' ≡ 0) →
    k * 64 ≤ j → j < k * 64 + i → bit_of words j ≡ 0
unset_before words k i j unset from before =
    let there : k * 64 + (j - k * 64) ≡ j = omega arith in
    sym (ap (bit_of words) there) ∙ sym (bit_of-drop words k (j - k * 64)) ∙ unset (j - k * 64) (omega arith)

-- a bit of the first words of a list
bit_of-take : (words : List ℕ) (m i : ℕ) → i / 64 < m → bit_of (take m words) i ≡ bit_of words i
unfolding bit_of
bit_of-take words m i inside = ap (λ w. bit_at w (i % 64)) (get_or-take m words (i / 64) 0 inside)

-- the lowest bit of some words after that of an index
pub next_in_words : (n : ℕ) (words : List ℕ) (start word m i : ℕ) → HoldsBits n words → get_or words (start / 64) 0 ≡ word →
    word / 2 ^ (start % 64) ≡ 0 → IsFirstSetBit (take m (drop (start / 64 + 1) words)) i →
    IsNextNonzero (bits n words) start ((start / 64 + 1) * 64 + i)
next_in_words n words start word m i held is none first =
    next_bit n words start ((start / 64 + 1) * 64 + i) held (omega arith)
    (sym (bit_of-drop words (start / 64 + 1) i) ∙ sym (bit_of-take (drop (start / 64 + 1) words) m i inside) ∙ first.is_set)
    (λ j from before. elim (dec_lt j ((start / 64 + 1) * 64)) [
      | yes earlier ↦ none_in_word words start word is none j from earlier
      | no later ↦
          unset_before words (start / 64 + 1) i j
          (λ k low. sym (bit_of-take (drop (start / 64 + 1) words) m k (omega (arith, inside))) ∙ first.unset_before k low) (omega arith) before
    ])
  where
    inside : i / 64 < m
    inside = omega (arith, first.within, length-take m (drop (start / 64 + 1) words))

-- no bit is left
pub none_in_words : (n : ℕ) (words : List ℕ) (start word m end : ℕ) → HoldsBits n words → get_or words (start / 64) 0 ≡ word →
    word / 2 ^ (start % 64) ≡ 0 → HasNoSetBitBefore (take m (drop (start / 64 + 1) words)) (m * 64) → end ≤ (start / 64 + 1 + m) * 64 →
    AreZerosBetween (bits n words) start end
none_in_words n words start word m end held is none unset all = λ j from before.
    bit_of-digit n words j held ∙ elim (dec_lt j ((start / 64 + 1) * 64)) [
      | yes inside ↦ none_in_word words start word is none j from inside
      | no outside ↦
          unset_before words (start / 64 + 1) (m * 64) j
          (λ i low. sym (bit_of-take (drop (start / 64 + 1) words) m i (omega arith)) ∙ unset i low) (omega arith) (omega arith)
    ]

-- ---- any numbers

-- what stands before the length of a list stands in the whole of it
pub next_of_all : (numbers : List ℕ) (start end : ℕ) (r : Option ℕ) → length numbers ≡ end →
    MatchOption r (AreZerosBetween numbers start end) (IsNextNonzero numbers start) →
    MatchOption r (AreZerosFrom numbers start) (IsNextNonzero numbers start)
next_of_all numbers start end None long zeros = λ j from. elim (dec_lt j end) [
  | yes inside ↦ zeros j from inside
  | no outside ↦ get_or_past numbers j 0 (omega arith)
]
next_of_all numbers start end (Some i) long next = next

-- the first of the numbers from an index on
pub next_after : (numbers : List ℕ) (start i : ℕ) → start ≤ length numbers → IsFirstNonzero (drop start numbers) i → IsNextNonzero numbers start (start + i)
next_after numbers start i from first = record {
  within = omega (arith, first.within, length-drop start numbers);
  not_before = omega arith;
  nonzero = λ none. first.nonzero (get_or-drop start numbers i 0 ∙ none);
  zeros_between = λ j after before.
      let there : start + (j - start) ≡ j = omega arith in
      sym (ap (λ k. get_or numbers k 0) there) ∙ sym (get_or-drop start numbers (j - start) 0) ∙ first.zeros_before (j - start) (omega arith);
}

pub none_after : (numbers : List ℕ) (start : ℕ) → All (λ number. number ≡ 0) (drop start numbers) → AreZerosFrom numbers start
none_after numbers start zeros = λ j after.
    let there : start + (j - start) ≡ j = omega arith in
    sym (ap (λ k. get_or numbers k 0) there) ∙ sym (get_or-drop start numbers (j - start) 0) ∙ elim (dec_lt (j - start) (length (drop start numbers))) [
      | yes inside ↦ All-get_or (λ number. number ≡ 0) (drop start numbers) (j - start) 0 inside zeros
      | no outside ↦ get_or_past (drop start numbers) (j - start) 0 (omega arith)
    ]

-- what stands from an index of a list on
pub from_index : (whole numbers : List ℕ) (start : ℕ) → whole ≡ numbers → take (length whole - start) (drop start whole) ≡ drop start numbers
from_index whole numbers start is = take_rest whole start ∙ ap (drop start) is
