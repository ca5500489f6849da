-- The bits of a list of words: what changes a word, and that words are determined by their bits.
use Rattle.std.proofs.Common.{◌≡◌, ◌≢◌, ℕ, ◌+◌, ◌*◌, ◌^◌, ◌/◌, ◌%◌, ◌<◌, ◌≤◌, List, ◌++◌, length, get_or, set, take, drop, replicate, refl, sym, ap, subst, ◌∙◌, arith, inl, inr, get_or-set_other, get_or-set_same}
use Rattle.std.specs.Int.{bit_at}
use Rattle.std.proofs.lemmas.Bool.{cases_eq}
use Rattle.std.proofs.lemmas.List.{ext_get_or, get_or_past, get_or-replicate, length-replicate, length-set}
use Rattle.std.proofs.lemmas.Nat.Bits.{bit_at-lt, bit_at-zero, bit_at_xor, same_from_bits_below}
use Rattle.std.proofs.Math.Seq.{take-append_seam}
use Rattle.std.proofs.lemmas.Nat.{pow-add, xor_lt}
use Rattle.std.proofs.lemmas.Simd.{get_or-zip2, length-zip2}
use Rattle.std.specs.Int.RustNames.{bit_xor}
use Rattle.std.specs.Simd.Lanes.{zip2}
use native.Mathlib.Decide.{dec_lt}
use native.Mathlib.Nat.{div-div-eq-div-mul}
use Rattle.axe_algebra.proofs.ListEntries.{listed_length, listed_at}
use Rattle.axe_lane.specs.Words.{bit_of}
use Rattle.axe_layer.specs.Bits.{bits, HoldsBits}
use Rattle.axe_lane.specs.Bytes.{AreDigits}
use Rattle.axe_layer.specs.Digits.{digits_with_four, digits_with_multiple}
use Rattle.axe_layer.proofs.DigitLaws.{length-digits_with_multiple, get_or-digits_with_multiple}

pub length-bits : (n : ℕ) (words : List ℕ) → length (bits n words) ≡ n
unfolding bits
length-bits n words = listed_length n (bit_of words)

pub get_or-bits : (n : ℕ) (words : List ℕ) (e : ℕ) → e < n → get_or (bits n words) e 0 ≡ bit_of words e
unfolding bits
get_or-bits n words e below = listed_at n (bit_of words) e 0 below

-- the bit of a word
pub bit_of-word : (words : List ℕ) (e : ℕ) → bit_of words e ≡ bit_at (get_or words (e / 64) 0) (e % 64)
unfolding bit_of
bit_of-word words e = refl

pub bit_of-below : (words : List ℕ) (e : ℕ) → bit_of words e < 2
unfolding bit_of
bit_of-below words e = bit_at-lt (get_or words (e / 64) 0) (e % 64)

-- a bit of a word that is shifted down
pub bit_at-shifted : (w p i : ℕ) → bit_at (w / 2 ^ p) i ≡ bit_at w (p + i)
bit_at-shifted w p i = ap (λ n. n % 2) (div-div-eq-div-mul w (2 ^ p) (2 ^ i) ∙ ap (λ n. w / n) (sym (pow-add 2 p i)))

-- a bit that stands in one word with an earlier one
pub bit_of-further : (words : List ℕ) (e i : ℕ) → e % 64 + i < 64 → bit_at (get_or words (e / 64) 0 / 2 ^ (e % 64)) i ≡ bit_of words (e + i)
bit_of-further words e i below =
    let word : (e + i) / 64 ≡ e / 64 = omega arith in
    let place : (e + i) % 64 ≡ e % 64 + i = omega arith in
    bit_at-shifted (get_or words (e / 64) 0) (e % 64) i
    ∙ sym (bit_of-word words (e + i) ∙ ap (λ k. bit_at (get_or words k 0) ((e + i) % 64)) word ∙ ap (bit_at (get_or words (e / 64) 0)) place)

-- words that have no bits past the used ones
pub bit_of-past : (words : List ℕ) (e : ℕ) → length words ≤ e / 64 → bit_of words e ≡ 0
unfolding bit_of
bit_of-past words e past = ap (λ w. bit_at w (e % 64)) (get_or_past words (e / 64) 0 past) ∙ bit_at-zero (e % 64)

-- n zeros
abbrev pub zeros : ℕ → List ℕ
zeros n = replicate n 0

pub get_or-zeros : (k i : ℕ) → get_or (zeros k) i 0 ≡ 0
get_or-zeros k i = elim (dec_lt i k) [
  | yes inside ↦ get_or-replicate k i 0 0 inside
  | no outside ↦ let long : length (zeros k) ≡ k = length-replicate k 0 in get_or_past (zeros k) i 0 (omega (arith, long))
]

pub bit_of-zeros : (k e : ℕ) → bit_of (zeros k) e ≡ 0
unfolding bit_of
bit_of-zeros k e = ap (λ w. bit_at w (e % 64)) (get_or-zeros k (e / 64)) ∙ bit_at-zero (e % 64)

pub bits-zeros : (n k : ℕ) → bits n (zeros k) ≡ zeros n
bits-zeros n k =
    ext_get_or 0 (bits n (zeros k)) (zeros n) (length-bits n (zeros k) ∙ sym (length-replicate n 0)) (λ e below.
    let inside : e < n = omega (arith, length-bits n (zeros k)) in
    get_or-bits n (zeros k) e inside ∙ bit_of-zeros k e ∙ sym (get_or-replicate n e 0 0 inside))

pub HoldsBits-zeros : (n k : ℕ) → n < 2 ^ 64 → k ≡ (n + 63) / 64 → HoldsBits n (zeros k)
HoldsBits-zeros n k h e = record {
  counted = h;
  long = length-replicate k 0 ∙ e;
  fits = λ i. let none = get_or-zeros k i in omega (arith, none);
  unused = λ i _. bit_of-zeros k i;
}

-- ---- another word in place of one

pub bit_of-set_same : (words : List ℕ) (i w d : ℕ) → i / 64 < length words → bit_at w (i % 64) ≡ d → bit_of (set words (i / 64) w) i ≡ d
unfolding bit_of
bit_of-set_same words i w d within e = ap (λ v. bit_at v (i % 64)) (get_or-set_same words (i / 64) w 0 within) ∙ e

pub bit_of-set_other : (words : List ℕ) (i w e : ℕ) → i / 64 < length words → e ≢ i →
    ((k : ℕ) → k < 64 → k ≢ i % 64 → bit_at w k ≡ bit_at (get_or words (i / 64) 0) k) →
    bit_of (set words (i / 64) w) e ≡ bit_of words e
unfolding bit_of
bit_of-set_other words i w e within other kept =
    elim (cases_eq (e / 64) (i / 64)) [
      | inl same ↦
          let place : e % 64 ≢ i % 64 = omega (arith, same) in
          let low : e % 64 < 64 = omega arith in
          ap (λ k. bit_at (get_or (set words (i / 64) w) k 0) (e % 64)) same
          ∙ ap (λ v. bit_at v (e % 64)) (get_or-set_same words (i / 64) w 0 within)
          ∙ kept (e % 64) low place ∙ ap (λ k. bit_at (get_or words k 0) (e % 64)) (sym same)
      | inr elsewhere ↦ ap (λ v. bit_at v (e % 64)) (get_or-set_other words (i / 64) (e / 64) w 0 elsewhere)
    ]

-- what a word has to be, that takes the place of one so that bit i becomes d
pub record IsWordWith (words : List ℕ) (i d w : ℕ) : Type 0 where
  pub within : i / 64 < length words
  pub fits : w < 2 ^ 64
  pub changed : bit_at w (i % 64) ≡ d
  pub kept : (k : ℕ) → k < 64 → k ≢ i % 64 → bit_at w k ≡ bit_at (get_or words (i / 64) 0) k

pub bits-set : (n : ℕ) (words : List ℕ) (i d w : ℕ) → i < n → IsWordWith words i d w →
    bits n (set words (i / 64) w) ≡ set (bits n words) i d
bits-set n words i d w below h =
    ext_get_or 0 (bits n after) (set (bits n words) i d) (length-bits n after ∙ sym long) (λ e inside.
    let small : e < n = omega (arith, length-bits n after) in get_or-bits n after e small ∙ at e small)
  where
    after : List ℕ
    after = set words (i / 64) w

    long : length (set (bits n words) i d) ≡ n
    long = length-set (bits n words) i d ∙ length-bits n words

    at : (e : ℕ) → e < n → bit_of after e ≡ get_or (set (bits n words) i d) e 0
    at e small = elim (cases_eq e i) [
      | inl same ↦
          let inside : i < length (bits n words) = omega (arith, length-bits n words) in
          ap (bit_of after) same ∙ bit_of-set_same words i w d h.within h.changed
          ∙ sym (get_or-set_same (bits n words) i d 0 inside) ∙ ap (λ k. get_or (set (bits n words) i d) k 0) (sym same)
      | inr other ↦
          bit_of-set_other words i w e h.within other h.kept ∙ sym (get_or-bits n words e small)
          ∙ sym (get_or-set_other (bits n words) i e d 0 other)
    ]

pub HoldsBits-set : (n : ℕ) (words : List ℕ) (i d w : ℕ) → i < n → IsWordWith words i d w → HoldsBits n words →
    HoldsBits n (set words (i / 64) w)
HoldsBits-set n words i d w below h held = record {
  counted = held.counted;
  fits = λ k. elim (cases_eq k (i / 64)) [
    | inl same ↦
        subst (λ x. x < 2 ^ 64) (sym (ap (λ j. get_or (set words (i / 64) w) j 0) same ∙ get_or-set_same words (i / 64) w 0 h.within)) h.fits
    | inr other ↦ subst (λ x. x < 2 ^ 64) (sym (get_or-set_other words (i / 64) k w 0 other)) (held.fits k)
  ];
  long = length-set words (i / 64) w ∙ held.long;
  unused = λ e past.
      let other : e ≢ i = omega arith in bit_of-set_other words i w e h.within other h.kept ∙ held.unused e past;
}

-- ---- sums

pub bit_of-xor : (a b : List ℕ) (e : ℕ) → length b ≡ length a → bit_of (zip2 bit_xor a b) e ≡ (bit_of a e + bit_of b e) % 2
unfolding bit_of
bit_of-xor a b e same = elim (dec_lt (e / 64) (length a)) [
  | yes inside ↦
      let fits : e / 64 < length b = omega (arith, same) in
      ap (λ w. bit_at w (e % 64)) (get_or-zip2 bit_xor a b (e / 64) 0 0 0 inside fits)
      ∙ bit_at_xor (get_or a (e / 64) 0) (get_or b (e / 64) 0) (e % 64)
  | no outside ↦
      let left : get_or a (e / 64) 0 ≡ 0 = get_or_past a (e / 64) 0 (omega arith) in
      let right : get_or b (e / 64) 0 ≡ 0 = get_or_past b (e / 64) 0 (omega (arith, same)) in
      let both : get_or (zip2 bit_xor a b) (e / 64) 0 ≡ 0 =
      get_or_past (zip2 bit_xor a b) (e / 64) 0 (omega (arith, length-zip2 bit_xor a b (sym same))) in
      let none = bit_at-zero (e % 64) in
      rw (left, right, both, none) refl
]

pub bits-xor : (n : ℕ) (a b : List ℕ) → HoldsBits n a → HoldsBits n b →
    bits n (zip2 bit_xor a b) ≡ digits_with_multiple 2 (bits n a) 1 (bits n b)
bits-xor n a b ha hb =
    ext_get_or 0 (bits n (zip2 bit_xor a b)) (digits_with_multiple 2 (bits n a) 1 (bits n b))
    (length-bits n _ ∙ sym (length-digits_with_multiple 2 (bits n a) 1 (bits n b) ∙ length-bits n a)) (λ e inside.
    let small : e < n = omega (arith, length-bits n (zip2 bit_xor a b)) in
    let here : e < length (bits n a) = omega (arith, length-bits n a) in
    let left = get_or-bits n a e small in
    let right = get_or-bits n b e small in
    let sum = bit_of-xor a b e (hb.long ∙ sym ha.long) in
    let one : 1 * bit_of b e ≡ bit_of b e = omega arith in
    get_or-bits n (zip2 bit_xor a b) e small ∙ sum ∙ sym (get_or-digits_with_multiple 2 (bits n a) 1 (bits n b) e here ∙ rw (left, right, one) refl))

pub HoldsBits-xor : (n : ℕ) (a b : List ℕ) → HoldsBits n a → HoldsBits n b → HoldsBits n (zip2 bit_xor a b)
HoldsBits-xor n a b ha hb = record {
  counted = ha.counted;
  fits = λ k. elim (dec_lt k (length a)) [
    | yes inside ↦
        let there : k < length b = omega (arith, ha.long, hb.long) in
        subst (λ x. x < 2 ^ 64) (sym (get_or-zip2 bit_xor a b k 0 0 0 inside there)) (xor_lt 64 (get_or a k 0) (get_or b k 0) (ha.fits k) (hb.fits k))
    | no outside ↦
        let both : get_or (zip2 bit_xor a b) k 0 ≡ 0 =
        get_or_past (zip2 bit_xor a b) k 0 (omega (arith, length-zip2 bit_xor a b (ha.long ∙ sym hb.long))) in
        omega (arith, both)
  ];
  long = length-zip2 bit_xor a b (ha.long ∙ sym hb.long) ∙ ha.long;
  unused = λ e past.
      let left = ha.unused e past in
      let right = hb.unused e past in
      bit_of-xor a b e (hb.long ∙ sym ha.long) ∙ rw (left, right) refl;
}

-- five rows of words
abbrev pub xor_of_five : List ℕ → List ℕ → List ℕ → List ℕ → List ℕ → List ℕ
xor_of_five x a b c d = zip2 bit_xor (zip2 bit_xor (zip2 bit_xor (zip2 bit_xor x a) b) c) d

module _ (n : ℕ) (x a b c d : List ℕ) (hx : HoldsBits n x) (ha : HoldsBits n a) (hb : HoldsBits n b) (hc : HoldsBits n c) (hd : HoldsBits n d) where
  one : HoldsBits n (zip2 bit_xor x a)
  one = HoldsBits-xor n x a hx ha

  two : HoldsBits n (zip2 bit_xor (zip2 bit_xor x a) b)
  two = HoldsBits-xor n _ b one hb

  three : HoldsBits n (zip2 bit_xor (zip2 bit_xor (zip2 bit_xor x a) b) c)
  three = HoldsBits-xor n _ c two hc

  pub HoldsBits-five : HoldsBits n (xor_of_five x a b c d)
  HoldsBits-five = HoldsBits-xor n _ d three hd

  pub bits-five : bits n (xor_of_five x a b c d) ≡ digits_with_four 2 (bits n x) (bits n a) (bits n b) (bits n c) (bits n d)
  bits-five =
      bits-xor n _ d three hd ∙ ap (λ (r : List ℕ). digits_with_multiple 2 r 1 (bits n d))
      (bits-xor n _ c two hc ∙ ap (λ (r : List ℕ). digits_with_multiple 2 r 1 (bits n c))
      (bits-xor n _ b one hb ∙ ap (λ (r : List ℕ). digits_with_multiple 2 r 1 (bits n b)) (bits-xor n x a hx ha)))

-- how many digits a plane of these words has
pub plane_long : (n : ℕ) (words self : List ℕ) → bits n words ≡ self → length self ≡ n
plane_long n words self is = sym (ap length is) ∙ length-bits n words

-- ---- words are determined by their bits

pub same_bits : (n : ℕ) (a b : List ℕ) → HoldsBits n a → HoldsBits n b → bits n a ≡ bits n b → (e : ℕ) → bit_of a e ≡ bit_of b e
same_bits n a b ha hb same e = elim (dec_lt e n) [
  | yes inside ↦ sym (get_or-bits n a e inside) ∙ ap (λ (x : List ℕ). get_or x e 0) same ∙ get_or-bits n b e inside
  | no outside ↦ ha.unused e (omega arith) ∙ sym (hb.unused e (omega arith))
]

pub bits-injective : (n : ℕ) (a b : List ℕ) → HoldsBits n a → HoldsBits n b →
    bits n a ≡ bits n b → a ≡ b
unfolding bit_of
bits-injective n a b ha hb same =
    ext_get_or 0 a b (ha.long ∙ sym hb.long) (λ k inside.
    same_from_bits_below 64 (get_or a k 0) (get_or b k 0) (ha.fits k) (hb.fits k) (λ i below.
    let word : (k * 64 + i) / 64 ≡ k = omega arith in
    let place : (k * 64 + i) % 64 ≡ i = omega arith in
    rw (word, place) at (same_bits n a b ha hb same (k * 64 + i))))

-- ---- digits

at-bits : (n : ℕ) (words : List ℕ) (k d : ℕ) → k < n → get_or (bits n words) k d ≡ bit_of words k
unfolding bits
at-bits n words k d small = listed_at n (bit_of words) k d small

pub AreDigits-bits : (n : ℕ) (words : List ℕ) → AreDigits 2 (bits n words)
AreDigits-bits n words k d inside =
    let small : k < n = omega (arith, length-bits n words) in
    subst (λ x. x < 2) (sym (at-bits n words k d small)) (bit_of-below words k)

-- what a list is, over which another of its length was written
pub written : (n : ℕ) (after before : List ℕ) → n ≡ length before → length after ≡ length before →
    take n (after ++ drop (length after) before) ≡ after
written n after before all same =
    ap (λ k. take k (after ++ drop (length after) before)) (all ∙ sym same) ∙ take-append_seam after (drop (length after) before)
