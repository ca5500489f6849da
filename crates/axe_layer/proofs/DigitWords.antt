-- Words that are written one after another, from the digits modulo 2 that they are to hold.
use Rattle.std.proofs.Common.{◌≡◌, ℕ, ◌+◌, ◌-◌, ◌⊎◌, ◌*◌, ◌/◌, ◌%◌, ◌^◌, ◌<◌, ◌≤◌, List, length, ◌++◌, take, drop, get_or, map, set, min, max, sym, ap, ap₂, subst, ◌∙◌, arith, inl, inr, get_or-set_same, get_or-set_other}
use Rattle.std.specs.Int.{bit_at}
use Rattle.std.specs.Int.Bits.{bit_and, bit_or}
use Rattle.std.proofs.lemmas.Bool.{cases_eq}
use Rattle.std.specs.List.{All}
use Rattle.std.proofs.lemmas.List.{ext_get_or, get_or_past, get_or-map, length-map, length-set}
use Rattle.std.proofs.lemmas.Nat.{pow_pos}
use Rattle.std.proofs.lemmas.Nat.Bits.{shr_and_one, bit_at-lt, bit_at-zero, bit_at_above, bit_at_and, bit_at_or, bit_at_cat_high, bit_at_cat_low, bit_at_ones, bit_at_ones_above}
use Rattle.std.proofs.lemmas.Simd.{length-put_chunk, put_chunk_is, get_or-put_chunk_below, get_or-put_chunk_at}
use Rattle.std.specs.Simd.Lanes.{put_chunk}
use native.Mathlib.Decide.{dec_lt}
use Rattle.axe_algebra.specs.Lists.{listed}
use Rattle.axe_algebra.proofs.ListEntries.{listed_length, listed_at}
use Rattle.axe_lane.specs.Words.{bit_of}
use Rattle.axe_layer.specs.Bits.{bits, HoldsBits}
use Rattle.axe_layer.proofs.BitLaws.{plane_long, length-bits, get_or-bits, bit_at-shifted, bit_of-further, bit_of-word, bit_of-below, bit_of-past}

-- words whose bits below an index are these digits
pub record HaveDigits (digits : List ℕ) (until : ℕ) (words : List ℕ) : Type 0 where
  pub fits : (k : ℕ) → get_or words k 0 < 2 ^ 64
  pub long : length words ≡ (length digits + 63) / 64
  pub bits : (e : ℕ) → e < until → bit_of words e ≡ get_or digits e 0

pub have_no_digits : (digits : List ℕ) (until : ℕ) (words : List ℕ) → ((k : ℕ) → get_or words k 0 < 2 ^ 64) →
    length words ≡ (length digits + 63) / 64 → until ≡ 0 → HaveDigits digits until words
have_no_digits digits until words fits long none = record {
  fits = fits;
  long = long;
  bits = λ e below. absurd (omega arith);
}

-- one word more
pub have_next_word : (digits : List ℕ) (at word until : ℕ) (words : List ℕ) → HaveDigits digits (at * 64) words → at < length words → word < 2 ^ 64 →
    ((i : ℕ) → i < 64 → bit_at word i ≡ get_or digits (at * 64 + i) 0) → until ≡ (at + 1) * 64 → HaveDigits digits until (set words at word)
have_next_word digits at word until words h within small is next = record {
  fits = λ k. elim (cases_eq k at) [
    | inl same ↦
        subst (λ x. x < 2 ^ 64) (sym (ap (λ j. get_or (set words at word) j 0) same ∙ get_or-set_same words at word 0 within)) small
    | inr other ↦ subst (λ x. x < 2 ^ 64) (sym (get_or-set_other words at k word 0 other)) (h.fits k)
  ];
  long = length-set words at word ∙ h.long;
  bits = λ e below. bit_of-word (set words at word) e ∙ elim (cases_eq (e / 64) at) [
    | inl same ↦
        let whole : at * 64 + e % 64 ≡ e = omega arith in
        let low : e % 64 < 64 = omega arith in
        ap (λ w. bit_at w (e % 64)) (ap (λ j. get_or (set words at word) j 0) same ∙ get_or-set_same words at word 0 within)
        ∙ is (e % 64) low ∙ ap (λ j. get_or digits j 0) whole
    | inr other ↦
        let earlier : e < at * 64 = omega arith in
        ap (λ w. bit_at w (e % 64)) (get_or-set_other words at (e / 64) word 0 other) ∙ sym (bit_of-word words e) ∙ h.bits e earlier
  ];
}

all_digits : (digits : List ℕ) (until e : ℕ) (words : List ℕ) → HaveDigits digits until words → length words * 64 ≤ until →
    bit_of words e ≡ get_or digits e 0
all_digits digits until e words h all = elim (dec_lt e until) [
  | yes inside ↦ h.bits e inside
  | no outside ↦ bit_of-past words e (omega arith) ∙ sym (get_or_past digits e 0 (omega (arith, h.long)))
]

pub HoldsBits-digits : (n : ℕ) (digits : List ℕ) (until : ℕ) (words : List ℕ) → length digits ≡ n → HaveDigits digits until words → length words * 64 ≤ until →
    n < 2 ^ 64 → HoldsBits n words
HoldsBits-digits n digits until words same h all small = record {
  counted = small;
  fits = h.fits;
  long = h.long ∙ ap (λ n. (n + 63) / 64) same;
  unused = λ e past. all_digits digits until e words h all ∙ get_or_past digits e 0 (omega (arith, same));
}

pub bits-digits : (n : ℕ) (digits : List ℕ) (until : ℕ) (words : List ℕ) → length digits ≡ n → HaveDigits digits until words → length words * 64 ≤ until →
    bits n words ≡ digits
bits-digits n digits until words same h all =
    ext_get_or 0 (bits n words) digits (length-bits n words ∙ sym same) (λ e inside.
    let here : e < n = omega (arith, length-bits n words) in
    get_or-bits n words e here ∙ all_digits digits until e words h all)

-- ---- words that are shifted up

shifted_up : (w k i : ℕ) → i < 64 → bit_at (w * 2 ^ k % 2 ^ 64) i ≡ bit_at (w * 2 ^ k) i
shifted_up w k i low =
    let n : ℕ = w * 2 ^ k in
    let whole : n / 2 ^ 64 * 2 ^ 64 + n % 2 ^ 64 ≡ n = omega arith in
    sym (bit_at_cat_low (n / 2 ^ 64) 64 (n % 2 ^ 64) i low) ∙ ap (λ x. bit_at x i) whole

pub shifted_up_low : (w k i : ℕ) → i < 64 → i < k → bit_at (w * 2 ^ k % 2 ^ 64) i ≡ 0
shifted_up_low w k i low below =
    let none : w * 2 ^ k ≡ w * 2 ^ k + 0 = omega arith in
    shifted_up w k i low ∙ ap (λ x. bit_at x i) none ∙ bit_at_cat_low w k 0 i below ∙ bit_at-zero i

pub shifted_up_high : (w k i : ℕ) → i < 64 → k ≤ i → bit_at (w * 2 ^ k % 2 ^ 64) i ≡ bit_at w (i - k)
shifted_up_high w k i low above =
    let none : w * 2 ^ k ≡ w * 2 ^ k + 0 = omega arith in
    shifted_up w k i low ∙ ap (λ x. bit_at x i) none ∙ bit_at_cat_high w k 0 i (pow_pos k) above

max-zero : (x : ℕ) → max x 0 ≡ x
max-zero x = omega arith

zero-max : (x : ℕ) → max 0 x ≡ x
zero-max x = omega arith

-- ---- digits at indices

-- the word of the digits at the indices of a list from one on and before another
pub record AreGathered (words indices : List ℕ) (from at word : ℕ) : Type 0 where
  pub done : (i : ℕ) → i < 64 → from + i < at → bit_at word i ≡ bit_of words (get_or indices (from + i) 0)
  pub left : (i : ℕ) → i < 64 → at ≤ from + i → bit_at word i ≡ 0

-- the digits of a run more
pub gathered_more : (words indices : List ℕ) (from at end word low count : ℕ) → from ≤ at → end ≤ from + 64 → 1 ≤ count → count ≤ end - at →
    AreGathered words indices from at word →
    ((k : ℕ) → k < count → get_or indices (at + k) 0 ≡ get_or indices at 0 + k) →
    ((i : ℕ) → i < 64 → i < count → bit_at low i ≡ bit_of words (get_or indices at 0 + i)) →
    ((i : ℕ) → i < 64 → count ≤ i → bit_at low i ≡ 0) →
    AreGathered words indices from (at + count) (bit_or word (low * 2 ^ (at - from) % 2 ^ 64))
gathered_more words indices from at end word low count begun within some short h index taken cleared = record {
  done = λ i small before. bit_at_or word up i ∙ elim (dec_lt i (at - from)) [
    | yes earlier ↦
        ap (max (bit_at word i)) (shifted_up_low low (at - from) i small earlier) ∙ max-zero (bit_at word i) ∙ h.done i small (omega arith)
    | no later ↦
        let k : ℕ = i - (at - from) in
        let below : k < count = omega arith in
        let here : at + k ≡ from + i = omega arith in
        ap (λ x. max x (bit_at up i)) (h.left i small (omega arith)) ∙ zero-max (bit_at up i)
        ∙ shifted_up_high low (at - from) i small (omega arith) ∙ taken k (omega arith) below
        ∙ ap (bit_of words) (sym (index k below)) ∙ ap (λ j. bit_of words (get_or indices j 0)) here
  ];
  left = λ i small past.
      bit_at_or word up i ∙ ap (λ x. max x (bit_at up i)) (h.left i small (omega arith)) ∙ zero-max (bit_at up i)
      ∙ shifted_up_high low (at - from) i small (omega arith) ∙ cleared (i - (at - from)) (omega arith) (omega arith);
}
  where
    up : ℕ
    up = low * 2 ^ (at - from) % 2 ^ 64

-- the word when all indices are done
pub gathered_word : (words indices : List ℕ) (from at word i : ℕ) → AreGathered words indices from at word → i < 64 →
    (at ≡ length indices) ⊎ (at ≡ from + 64) → at ≤ length indices →
    bit_at word i ≡ get_or (map (bit_of words) indices) (from + i) 0
gathered_word words indices from at word i h low ended within = elim (dec_lt (from + i) at) [
  | yes inside ↦ h.done i low inside ∙ sym (get_or-map (bit_of words) indices (from + i) 0 0 (omega arith))
  | no outside ↦
      let past : length indices ≤ from + i = elim ended [
        | inl all ↦ omega (arith, all)
        | inr full ↦ absurd (omega (arith, full))
      ] in
      h.left i low (omega arith) ∙ sym (get_or_past (map (bit_of words) indices) (from + i) 0 (omega (arith, length-map indices (bit_of words))))
]

-- the digits of a plane at indices
pub digits_gathered : (n : ℕ) (words self indices : List ℕ) → bits n words ≡ self → All (λ index. index < length self) indices →
    map (bit_of words) indices ≡ map (λ index. get_or self index 0) indices
digits_gathered n words self indices is all =
    ext_get_or 0 (map (bit_of words) indices) (map f indices) (length-map indices (bit_of words) ∙ sym (length-map indices f)) (λ e inside.
    let here : e < length indices = omega (arith, length-map indices (bit_of words)) in
    let small : get_or indices e 0 < n = omega (arith, all e 0 here, ap length is, length-bits n words) in
    get_or-map (bit_of words) indices e 0 0 here ∙ sym (get_or-bits n words (get_or indices e 0) small)
    ∙ ap (λ (x : List ℕ). get_or x (get_or indices e 0) 0) is ∙ sym (get_or-map f indices e 0 0 here))
  where
    f : ℕ → ℕ
    f index = get_or self index 0

-- ---- digits from an index on

-- the word from an index on within the first word that it meets
pub first_of_two : (words : List ℕ) (from i : ℕ) → get_or words (from / 64) 0 < 2 ^ 64 → i < 64 → (from % 64 ≡ 0) ⊎ (length words ≤ from / 64 + 1) →
    bit_at (get_or words (from / 64) 0 / 2 ^ (from % 64)) i ≡ bit_of words (from + i)
first_of_two words from i fits low alone = elim (dec_lt (from % 64 + i) 64) [
  | yes inside ↦ bit_of-further words from i inside
  | no outside ↦
      let last : length words ≤ from / 64 + 1 = elim alone [
        | inl even ↦ absurd (omega (arith, even))
        | inr last ↦ last
      ] in
      bit_at-shifted (get_or words (from / 64) 0) (from % 64) i ∙ bit_at_above (get_or words (from / 64) 0) 64 (from % 64 + i) fits (omega arith)
      ∙ sym (bit_of-past words (from + i) (omega (arith, last)))
]

-- the word from an index on of two words
pub both_of_two : (words : List ℕ) (from i : ℕ) → get_or words (from / 64) 0 < 2 ^ 64 → i < 64 → 0 < from % 64 →
    bit_at (bit_or (get_or words (from / 64) 0 / 2 ^ (from % 64)) (get_or words (from / 64 + 1) 0 * 2 ^ (64 - from % 64) % 2 ^ 64)) i
    ≡ bit_of words (from + i)
both_of_two words from i fits low odd = bit_at_or first second i ∙ elim (dec_lt (from % 64 + i) 64) [
  | yes inside ↦
      let none = shifted_up_low (get_or words (from / 64 + 1) 0) (64 - from % 64) i low (omega arith) in
      ap (max (bit_at first i)) none ∙ max-zero (bit_at first i) ∙ bit_of-further words from i inside
  | no outside ↦
      let none : bit_at first i ≡ 0 =
      bit_at-shifted (get_or words (from / 64) 0) (from % 64) i ∙ bit_at_above (get_or words (from / 64) 0) 64 (from % 64 + i) fits (omega arith) in
      let word : (from + i) / 64 ≡ from / 64 + 1 = omega arith in
      let place : (from + i) % 64 ≡ i - (64 - from % 64) = omega arith in
      ap (λ x. max x (bit_at second i)) none ∙ zero-max (bit_at second i)
      ∙ shifted_up_high (get_or words (from / 64 + 1) 0) (64 - from % 64) i low (omega arith)
      ∙ sym (bit_of-word words (from + i) ∙ ap₂ (λ w p. bit_at (get_or words w 0) p) word place)
]
  where
    first : ℕ
    first = get_or words (from / 64) 0 / 2 ^ (from % 64)

    second : ℕ
    second = get_or words (from / 64 + 1) 0 * 2 ^ (64 - from % 64) % 2 ^ 64

-- the lowest digits of a word
pub lowest_kept : (word count i : ℕ) → i < count → bit_at (bit_and word (2 ^ count - 1)) i ≡ bit_at word i
lowest_kept word count i below =
    let bit = bit_at-lt word i in
    bit_at_and word (2 ^ count - 1) i ∙ ap (min (bit_at word i)) (bit_at_ones count i below) ∙ least (bit_at word i) bit
  where
    least : (x : ℕ) → x < 2 → min x 1 ≡ x
    least x small = omega arith

pub lowest_cleared : (word count i : ℕ) → count ≤ i → bit_at (bit_and word (2 ^ count - 1)) i ≡ 0
lowest_cleared word count i past =
    bit_at_and word (2 ^ count - 1) i ∙ ap (min (bit_at word i)) (bit_at_ones_above count i past) ∙ least (bit_at word i)
  where
    least : (x : ℕ) → min x 0 ≡ 0
    least x = omega arith

-- a digit alone
pub digit_alone : (words : List ℕ) (e i count : ℕ) → count ≡ 1 → i < count →
    bit_at (bit_and (get_or words (e / 64) 0 / 2 ^ (e % 64)) 1) i ≡ bit_of words (e + i)
digit_alone words e i count one below =
    let first : i ≡ 0 = omega (arith, one) in
    let whole : e + 0 ≡ e = omega arith in
    let bit = bit_of-below words e in
    ap₂ bit_at (shr_and_one (get_or words (e / 64) 0) (e % 64) ∙ sym (bit_of-word words e)) first ∙ lowest_bit (bit_of words e) bit
    ∙ sym (ap (λ j. bit_of words (e + j)) first ∙ ap (bit_of words) whole)
  where
    lowest_bit : (x : ℕ) → x < 2 → bit_at x 0 ≡ x
    lowest_bit x small = omega arith

pub none_above_one : (x i count : ℕ) → count ≡ 1 → count ≤ i → bit_at (bit_and x 1) i ≡ 0
none_above_one x i count one above =
    let whole : x ≡ x / 2 ^ 0 = omega arith in
    let bit : bit_and x 1 ≡ bit_at x 0 = ap (λ w. bit_and w 1) whole ∙ shr_and_one x 0 in
    let small = bit_at-lt x 0 in
    bit_at_above (bit_and x 1) 1 i (omega (arith, bit, small)) (omega (arith, one, above))

-- the word of some of the digits from an index on
pub part_word : (words : List ℕ) (start len before i word whole : ℕ) → i < 64 →
    (i < 64 → bit_at whole i ≡ bit_of words (start + before + i)) →
    (i < 64 → i < len - before → bit_at word i ≡ bit_at whole i) → (i < 64 → len - before ≤ i → bit_at word i ≡ 0) →
    bit_at word i ≡ get_or (listed len (λ j. bit_of words (start + j))) (before + i) 0
part_word words start len before i word whole low from kept cleared = elim (dec_lt i (len - before)) [
  | yes inside ↦
      let small : before + i < len = omega arith in
      let there : start + before + i ≡ start + (before + i) = omega arith in
      kept low inside ∙ from low ∙ ap (bit_of words) there
      ∙ sym (listed_at len (λ j. bit_of words (start + j)) (before + i) 0 small)
  | no outside ↦
      cleared low (omega arith) ∙ sym (get_or_past (listed len (λ j. bit_of words (start + j))) (before + i) 0
      (omega (arith, listed_length len (λ j. bit_of words (start + j)))))
]

-- the digits of a layer from an index on
pub digits_of_part : (n : ℕ) (words : List ℕ) (start len : ℕ) → start + len ≤ n →
    listed len (λ j. bit_of words (start + j)) ≡ listed len (λ j. get_or (bits n words) (start + j) 0)
digits_of_part n words start len within =
    let f : ℕ → ℕ = λ j. bit_of words (start + j) in
    let g : ℕ → ℕ = λ j. get_or (bits n words) (start + j) 0 in
    ext_get_or 0 (listed len f) (listed len g) (listed_length len f ∙ sym (listed_length len g)) (λ e inside.
    let here : e < len = omega (arith, listed_length len f) in
    listed_at len f e 0 here ∙ sym (get_or-bits n words (start + e) (omega arith)) ∙ sym (listed_at len g e 0 here))

-- ---- digits that are written

-- the numbers before an index are the digits
pub record IsWrittenBelow (self : List ℕ) (until : ℕ) (numbers : List ℕ) : Type 0 where
  pub long : length numbers ≡ length self
  pub so_far : (j : ℕ) → j < until → j < length self → get_or numbers j 0 ≡ get_or self j 0

-- the digits of a word more
pub word_written : (n : ℕ) (words self : List ℕ) (at k until word : ℕ) (numbers new : List ℕ) → bits n words ≡ self → at * 64 < n →
    k ≡ min 64 (n - at * 64) → IsWrittenBelow self (at * 64) numbers → length new ≡ k → word ≡ get_or words at 0 →
    ((i : ℕ) → i < k → get_or new i 0 ≡ bit_at word i) → until ≡ (at + 1) * 64 →
    IsWrittenBelow self until (take (at * 64) numbers ++ (new ++ drop k (drop (at * 64) numbers)))
word_written n words self at k until word numbers new is within wide h long word_is digits next = record {
  long = ap length put ∙ length-put_chunk (at * 64) numbers new ∙ h.long;
  so_far = λ j before inside. ap (λ (x : List ℕ). get_or x j 0) put ∙ elim (dec_lt j (at * 64)) [
    | yes earlier ↦ get_or-put_chunk_below (at * 64) numbers new j 0 earlier ∙ h.so_far j earlier inside
    | no later ↦
        let here : at * 64 + (j - at * 64) ≡ j = omega arith in
        let low : j - at * 64 < k = omega (arith, wide, all, next) in
        let place : j % 64 ≡ j - at * 64 = omega (arith, next) in
        let index : j / 64 ≡ at = omega (arith, next) in
        ap (λ e. get_or (put_chunk (at * 64) numbers new) e 0) (sym here)
        ∙ get_or-put_chunk_at (at * 64) numbers new (j - at * 64) 0 (omega (arith, long, low)) (omega (arith, long, low, room))
        ∙ digits (j - at * 64) low ∙ ap (λ w. bit_at w (j - at * 64)) word_is
        ∙ sym (sym (ap (λ (x : List ℕ). get_or x j 0) is) ∙ get_or-bits n words j (omega (arith, all)) ∙ bit_of-word words j
        ∙ ap₂ (λ w p. bit_at (get_or words w 0) p) index place)
  ];
}
  where
    all : length self ≡ n
    all = plane_long n words self is

    room : at * 64 + length new ≤ length numbers
    room = omega (arith, long, wide, all, h.long)

    put : take (at * 64) numbers ++ (new ++ drop k (drop (at * 64) numbers)) ≡ put_chunk (at * 64) numbers new
    put =
        ap (λ m. take (at * 64) numbers ++ (new ++ drop m (drop (at * 64) numbers))) (sym long)
        ∙ sym (put_chunk_is (at * 64) numbers new room)
