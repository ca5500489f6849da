-- The next entry of a sum of rows in a word of 64, among places that are passed one after another.
use Rattle.std.proofs.Common.{◌≡◌, ◌≢◌, ℕ, ◌+◌, ◌*◌, ◌<◌, ◌≤◌, List, length, get_or, cond, ltb, refl, sym, ap, ◌∙◌, arith, inl, inr}
use Rattle.std.specs.Int.{bit_at}
use Rattle.std.proofs.lemmas.Bool.{cases_eq, lt-ltb, le-ltb}
use Rattle.std.proofs.lemmas.List.{get_or_past}
use native.Mathlib.Decide.{dec_lt}
use Rattle.axe_algebra.proofs.ListEntries.{listed_length, listed_at}
use Rattle.axe_lane.specs.Entries.{AreZerosBetween, AreZerosFrom, IsNextNonzero}
use Rattle.axe_layer.specs.Supports.{restricted, IsSupportWord}
use Rattle.axe_row.specs.BitBlocks.{bits_of_word, bits_after}
use Rattle.axe_row.specs.EntryWords.{entries_in_word}
use Rattle.axe_row.specs.FoundEntries.{IsNextEntry}
use Rattle.axe_row.proofs.EntryWordLaws.{same_numbers}
use Rattle.axe_row.proofs.SumRows.{found_at_place, none_at_place, none_at_places}

-- a word's own bits have its support
pub support_of_bits : (word : ℕ) → IsSupportWord (bits_of_word word) 0 word
support_of_bits word = λ i low.
    let here : 0 * 64 + i ≡ i = omega arith in
    let same = ap (λ j. get_or (bits_of_word word) j 0) here ∙ listed_at 64 (bit_at word) i 0 low in
    (λ none. same ∙ none, λ none. sym same ∙ none)

-- of the places of a word those before one are passed, without an entry there, and the others are left
pub record IsPassed (entries : List ℕ) (at old now : ℕ) : Type 0 where
  pub from : ℕ
  pub passed : (i : ℕ) → i < 64 → i < from → bit_at now i ≡ 0
  pub ahead : (i : ℕ) → i < 64 → from ≤ i → bit_at now i ≡ bit_at old i
  pub none : AreZerosBetween (restricted (bits_of_word old) (entries_in_word entries at)) 0 from

pub none_passed : (entries : List ℕ) (at word : ℕ) → IsPassed entries at word word
none_passed entries at word = record {
  from = 0;
  passed = λ i low before. absurd (omega (arith, before));
  ahead = λ i low after. refl;
  none = λ j after before. absurd (omega (arith, before));
}

module _ (entries : List ℕ) (at old now : ℕ) (so_far : IsPassed entries at old now) where
  abbrev word : List ℕ
  word = entries_in_word entries at

  fits : length (bits_of_word old) ≡ length word
  fits = listed_length 64 (bit_at old) ∙ sym (listed_length 64 (λ i. get_or entries (at * 64 + i) 0))

  bit_of_now : (i : ℕ) → i < 64 → get_or (bits_of_word now) i 0 ≡ bit_at now i
  bit_of_now i low = listed_at 64 (bit_at now) i 0 low

  bit_of_old : (i : ℕ) → i < 64 → get_or (bits_of_word old) i 0 ≡ bit_at old i
  bit_of_old i low = listed_at 64 (bit_at old) i 0 low

  -- no place is left
  pub none_left : AreZerosBetween (bits_of_word now) 0 64 → AreZerosFrom (restricted (bits_of_word old) word) 0
  none_left zeros = none_at_places (bits_of_word old) word 0 so_far.from so_far.none left
    where
      left : AreZerosFrom (bits_of_word old) so_far.from
      left j after = elim (dec_lt j 64) [
        | yes low ↦
            bit_of_old j low ∙ sym (so_far.ahead j low after) ∙ sym (bit_of_now j low) ∙ zeros j (omega arith) low
        | no past ↦ get_or_past (bits_of_word old) j 0 (omega (arith, past, listed_length 64 (bit_at old)))
      ]

  module _ (place : ℕ) (next : IsNextNonzero (bits_of_word now) 0 place) where
    pub place_low : place < 64
    place_low = omega (arith, next.within, listed_length 64 (bit_at now))

    ahead_of : so_far.from ≤ place
    ahead_of = elim (dec_lt place so_far.from) [
      | yes before ↦ absurd (next.nonzero (bit_of_now place place_low ∙ so_far.passed place place_low before))
      | no after ↦ omega (arith, after)
    ]

    next_of_old : IsNextNonzero (bits_of_word old) so_far.from place
    next_of_old = record {
      within = omega (arith, place_low, listed_length 64 (bit_at old));
      not_before = ahead_of;
      nonzero = λ none. next.nonzero (
          bit_of_now place place_low ∙ so_far.ahead place place_low ahead_of ∙ sym (bit_of_old place place_low) ∙ none);
      zeros_between = λ j after before.
          let low : j < 64 = omega (arith, before, place_low) in
          bit_of_old j low ∙ sym (so_far.ahead j low after) ∙ sym (bit_of_now j low) ∙ next.zeros_between j (omega arith) before;
    }

    entry_there : get_or word place 0 ≡ get_or entries (at * 64 + place) 0
    entry_there = listed_at 64 (λ i. get_or entries (at * 64 + i) 0) place 0 place_low

    -- an entry that is not 0 is found there
    pub found_there : (entry : ℕ) → entry ≡ get_or entries (at * 64 + place) 0 → entry ≢ 0 →
        IsNextEntry (bits_of_word old) word 0 place entry
    found_there entry is some =
        found_at_place (bits_of_word old) word 0 so_far.from place so_far.none next_of_old entry (omega arith) fits
        (is ∙ sym entry_there) some

    module _ (after : ℕ) (rest : bits_of_word after ≡ bits_after now place) where
      bit_left : (i : ℕ) → i < 64 → bit_at after i ≡ cond (ltb place i) (bit_at now i) 0
      bit_left i low =
          sym (listed_at 64 (bit_at after) i 0 low) ∙ ap (λ (l : List ℕ). get_or l i 0) rest
          ∙ listed_at 64 (λ j. cond (ltb place j) (bit_at now j) 0) i 0 low

      bit_passed : (i : ℕ) → i < 64 → i < place + 1 → bit_at after i ≡ 0
      bit_passed i low passed = bit_left i low ∙ ap (λ b. cond b (bit_at now i) 0) (le-ltb place i (omega (arith, passed)))

      bit_ahead : (i : ℕ) → i < 64 → place + 1 ≤ i → bit_at after i ≡ bit_at old i
      bit_ahead i low ahead =
          bit_left i low ∙ ap (λ b. cond b (bit_at now i) 0) (lt-ltb place i (omega (arith, ahead)))
          ∙ so_far.ahead i low (omega (arith, ahead, ahead_of))

      -- the word becomes less
      pub less_there : after ≤ now → after < now
      less_there small = elim (cases_eq after now) [
        | inl same ↦
            absurd (next.nonzero (bit_of_now place place_low ∙ sym (ap (λ w. bit_at w place) same) ∙ bit_passed place place_low (omega arith)))
        | inr other ↦ omega (arith, small, other)
      ]

      -- an entry that is 0 is passed
      pub passed_there : get_or entries (at * 64 + place) 0 ≡ 0 → IsPassed entries at old after
      passed_there none = record {
        from = place + 1;
        passed = bit_passed;
        ahead = bit_ahead;
        none = none_at_place (bits_of_word old) word 0 so_far.from place so_far.none next_of_old (entry_there ∙ none);
      }

      -- what is left after the place
      pub left_there : bits_of_word after ≡ bits_after old place
      left_there = same_numbers _ _ (λ i low. elim (dec_lt place i) [
        | yes later ↦
            bit_ahead i low (omega (arith, later))
            ∙ sym (ap (λ b. cond b (bit_at old i) 0) (lt-ltb place i later))
        | no earlier ↦
            bit_passed i low (omega (arith, earlier))
            ∙ sym (ap (λ b. cond b (bit_at old i) 0) (le-ltb place i (omega (arith, earlier))))
      ])
