-- Lists of digits modulo 2 in which one word is replaced.
use Rattle.std.proofs.Common.{◌≡◌, ◌≢◌, ℕ, ◌+◌, ◌-◌, ◌*◌, ◌^◌, ◌/◌, ◌%◌, ◌<◌, ◌≤◌, List, length, get_or, set, cond, eqb, refl, sym, ap, subst, ◌∙◌, arith, inl, inr, get_or-set_other, get_or-set_same}
use Rattle.std.specs.Int.{bit_at}
use Rattle.std.proofs.lemmas.Bool.{cases_eq, eq-eqb, ne_eqb}
use Rattle.std.proofs.lemmas.List.{ext_get_or, get_or_past, length-set}
use native.Mathlib.Decide.{dec_lt}
use Rattle.axe_algebra.proofs.ListEntries.{listed_length, listed_at}
use Rattle.axe_lane.specs.Words.{bit_of}
use Rattle.axe_layer.specs.Bits.{bits, HoldsBits}
use Rattle.axe_lane.specs.Bytes.{AreDigits}
use Rattle.axe_layer.specs.Words.{digits_with_word}
use Rattle.axe_layer.proofs.BitLaws.{length-bits, get_or-bits, bit_of-word}

pub length-digits_with_word : (digits : List ℕ) (k : ℕ) (word : ℕ → ℕ) → length (digits_with_word digits k word) ≡ length digits
unfolding digits_with_word
length-digits_with_word digits k word = listed_length (length digits) (λ e. cond (eqb (e / 64) k) (word (e % 64)) (get_or digits e 0))

-- digit e of the list
abbrev digit_with_word : List ℕ → ℕ → (ℕ → ℕ) → ℕ → ℕ
digit_with_word digits k word e = cond (eqb (e / 64) k) (word (e % 64)) (get_or digits e 0)

at-digits_with_word : (digits : List ℕ) (k : ℕ) (word : ℕ → ℕ) (e d : ℕ) → e < length digits → get_or (digits_with_word digits k word) e d ≡ digit_with_word digits k word e
unfolding digits_with_word
at-digits_with_word digits k word e d below = listed_at (length digits) (digit_with_word digits k word) e d below

-- a digit of the word that is replaced
pub get_or-digits_with_word_same : (digits : List ℕ) (k : ℕ) (word : ℕ → ℕ) (e d : ℕ) → e < length digits → e / 64 ≡ k → get_or (digits_with_word digits k word) e d ≡ word (e % 64)
get_or-digits_with_word_same digits k word e d below same =
    at-digits_with_word digits k word e d below ∙ ap (λ b. cond b (word (e % 64)) (get_or digits e 0)) (eq-eqb (e / 64) k same)

-- a digit of another word
pub get_or-digits_with_word_other : (digits : List ℕ) (k : ℕ) (word : ℕ → ℕ) (e d : ℕ) → e < length digits → e / 64 ≢ k → get_or (digits_with_word digits k word) e d ≡ get_or digits e 0
get_or-digits_with_word_other digits k word e d below other =
    at-digits_with_word digits k word e d below ∙ ap (λ b. cond b (word (e % 64)) (get_or digits e 0)) (ne_eqb (e / 64) k other)

-- no digit stands in the word that is replaced
pub digits_with_word-past : (digits : List ℕ) (k : ℕ) (word : ℕ → ℕ) → length digits ≤ k * 64 → digits ≡ digits_with_word digits k word
digits_with_word-past digits k word past =
    ext_get_or 0 digits (digits_with_word digits k word) (sym (length-digits_with_word digits k word)) (λ e below.
    let other : e / 64 ≢ k = omega arith in
    sym (get_or-digits_with_word_other digits k word e 0 below other))

-- the bits of a word of a plane
pub word_of_digits : (n : ℕ) (words self : List ℕ) (k word i : ℕ) → HoldsBits n words → bits n words ≡ self → word ≡ get_or words k 0 → i < 64 →
    bit_at word i ≡ get_or self (k * 64 + i) 0
word_of_digits n words self k word i held is word_is low =
    ap (λ w. bit_at w i) word_is ∙ whole ∙ digit ∙ ap (λ (x : List ℕ). get_or x (k * 64 + i) 0) is
  where
    whole : bit_at (get_or words k 0) i ≡ bit_of words (k * 64 + i)
    whole =
        let place : (k * 64 + i) % 64 ≡ i = omega arith in
        let index : (k * 64 + i) / 64 ≡ k = omega arith in
        sym (bit_of-word words (k * 64 + i) ∙ rw (index, place) refl)

    digit : bit_of words (k * 64 + i) ≡ get_or (bits n words) (k * 64 + i) 0
    digit = elim (dec_lt (k * 64 + i) n) [
      | yes inside ↦ sym (get_or-bits n words (k * 64 + i) inside)
      | no outside ↦
          held.unused (k * 64 + i) (omega arith) ∙ sym (get_or_past (bits n words) (k * 64 + i) 0 (omega (arith, length-bits n words)))
    ]

-- what takes the place of word k so that it has the bits of another
pub record IsCutWord (n : ℕ) (words : List ℕ) (k word cut : ℕ) : Type 0 where
  pub within : k < length words
  pub fits : cut < 2 ^ 64
  pub kept : (i : ℕ) → i < 64 → i < n - k * 64 → bit_at cut i ≡ bit_at word i
  pub cleared : (i : ℕ) → i < 64 → n - k * 64 ≤ i → bit_at cut i ≡ 0

-- the bits of the words after
bit_of-cut : (words : List ℕ) (k cut e : ℕ) → k < length words → e / 64 ≡ k → bit_of (set words k cut) e ≡ bit_at cut (e % 64)
bit_of-cut words k cut e within same =
    bit_of-word (set words k cut) e
    ∙ ap (λ w. bit_at w (e % 64)) (ap (λ j. get_or (set words k cut) j 0) same ∙ get_or-set_same words k cut 0 within)

bit_of-kept : (words : List ℕ) (k cut e : ℕ) → e / 64 ≢ k → bit_of (set words k cut) e ≡ bit_of words e
bit_of-kept words k cut e other =
    bit_of-word (set words k cut) e ∙ ap (λ w. bit_at w (e % 64)) (get_or-set_other words k (e / 64) cut 0 other) ∙ sym (bit_of-word words e)

pub HoldsBits-cut : (n : ℕ) (words : List ℕ) (k word cut : ℕ) → IsCutWord n words k word cut → HoldsBits n words → HoldsBits n (set words k cut)
HoldsBits-cut n words k word cut h held = record {
  counted = held.counted;
  fits = λ j. elim (cases_eq j k) [
    | inl same ↦ subst (λ x. x < 2 ^ 64) (sym (ap (λ i. get_or (set words k cut) i 0) same ∙ get_or-set_same words k cut 0 h.within)) h.fits
    | inr other ↦ subst (λ x. x < 2 ^ 64) (sym (get_or-set_other words k j cut 0 other)) (held.fits j)
  ];
  long = length-set words k cut ∙ held.long;
  unused = λ e past. elim (cases_eq (e / 64) k) [
    | inl same ↦ bit_of-cut words k cut e h.within same ∙ h.cleared (e % 64) (omega arith) (omega (arith, same, past))
    | inr other ↦ bit_of-kept words k cut e other ∙ held.unused e past
  ];
}

pub bits-cut : (n : ℕ) (words self : List ℕ) (k word cut : ℕ) → IsCutWord n words k word cut → bits n words ≡ self →
    bits n (set words k cut) ≡ digits_with_word self k (bit_at word)
bits-cut n words self k word cut h is =
    ext_get_or 0 (bits n (set words k cut)) (digits_with_word self k (bit_at word)) (length-bits n (set words k cut) ∙ sym (length-digits_with_word self k (bit_at word) ∙ long))
    (λ e inside.
    let small : e < n = omega (arith, length-bits n (set words k cut)) in
    get_or-bits n (set words k cut) e small ∙ at e small)
  where
    long : length self ≡ n
    long = sym (ap length is) ∙ length-bits n words

    at : (e : ℕ) → e < n → bit_of (set words k cut) e ≡ get_or (digits_with_word self k (bit_at word)) e 0
    at e small = elim (cases_eq (e / 64) k) [
      | inl same ↦
          bit_of-cut words k cut e h.within same ∙ h.kept (e % 64) (omega arith) (omega (arith, same))
          ∙ sym (get_or-digits_with_word_same self k (bit_at word) e 0 (omega (arith, long)) same)
      | inr other ↦
          bit_of-kept words k cut e other ∙ sym (get_or-bits n words e small) ∙ ap (λ (x : List ℕ). get_or x e 0) is
          ∙ sym (get_or-digits_with_word_other self k (bit_at word) e 0 (omega (arith, long)) other)
    ]

pub AreDigits-digits_with_word : (p : ℕ) (digits : List ℕ) (k : ℕ) (word : ℕ → ℕ) → AreDigits p digits → ((i : ℕ) → i < 64 → word i < p) →
    AreDigits p (digits_with_word digits k word)
AreDigits-digits_with_word p digits k word all small e d inside =
    let below : e < length digits = omega (arith, length-digits_with_word digits k word) in
    elim (cases_eq (e / 64) k) [
      | inl same ↦ subst (λ x. x < p) (sym (get_or-digits_with_word_same digits k word e d below same)) (small (e % 64) (omega arith))
      | inr other ↦ subst (λ x. x < p) (sym (get_or-digits_with_word_other digits k word e d below other)) (all e 0 below)
    ]

-- the same list by the digits of a word in other words
pub digits_with_word-as : (digits : List ℕ) (k : ℕ) (f g : ℕ → ℕ) → ((i : ℕ) → i < 64 → f i ≡ g i) →
    digits_with_word digits k f ≡ digits_with_word digits k g
digits_with_word-as digits k f g same =
    ext_get_or 0 (digits_with_word digits k f) (digits_with_word digits k g)
    (length-digits_with_word digits k f ∙ sym (length-digits_with_word digits k g)) (λ e inside.
    let below : e < length digits = omega (arith, length-digits_with_word digits k f) in
    elim (cases_eq (e / 64) k) [
      | inl here ↦
          get_or-digits_with_word_same digits k f e 0 below here ∙ same (e % 64) (omega arith)
          ∙ sym (get_or-digits_with_word_same digits k g e 0 below here)
      | inr other ↦
          get_or-digits_with_word_other digits k f e 0 below other ∙ sym (get_or-digits_with_word_other digits k g e 0 below other)
    ])
