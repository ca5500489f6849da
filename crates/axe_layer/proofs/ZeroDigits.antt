-- The first digit of a plane that is not zero, by its words and bytes; and multiples of bits.
use Rattle.std.proofs.Common.{◌≡◌, ◌↔◌, ℕ, suc, ◌*◌, ◌+◌, ◌/◌, ◌%◌, ◌<◌, ◌≤◌, Bool, true, false, not, Option, Some, None, List, length, get_or, refl, sym, ap, ap₂, ◌∙◌, arith, IsTrue, MatchOption, lit<, inl, inr}
use Rattle.std.specs.List.{All}
use Rattle.std.specs.Int.{bit_at}
use Rattle.std.proofs.lemmas.List.{get_or_default, get_or_past}
use Rattle.std.proofs.lemmas.List.Elements.{All-get_or, All-from_get_or}
use Rattle.std.proofs.lemmas.Bool.{cases_eq}
use Rattle.std.proofs.lemmas.Nat.Bits.{bit_at-zero, same_from_bits_below}
use native.Mathlib.Decide.{dec_lt}
use Rattle.axe_lane.specs.Entries.{HasNonzero, IsFirstNonzero}
use Rattle.axe_lane.specs.Words.{bit_of, HasNoSetBitBefore, IsFirstSetBit}
use Rattle.axe_layer.specs.Bits.{bits, HoldsBits}
use Rattle.axe_layer.proofs.BitLaws.{length-bits, get_or-bits, bit_of-word}

abbrev IsZero : ℕ → Type 0
IsZero digit = digit ≡ 0

no_digit : (n end : ℕ) (words : List ℕ) → n ≤ end → HasNoSetBitBefore words end → All IsZero (bits n words)
no_digit n end words room none =
    All-from_get_or IsZero (bits n words) 0 (λ e inside.
    let within : e < n = omega (arith, length-bits n words) in
    get_or-bits n words e within ∙ none e (omega (arith, room)))

first_digit : (n : ℕ) (words : List ℕ) (index : ℕ) → HoldsBits n words → IsFirstSetBit words index → IsFirstNonzero (bits n words) index
first_digit n words index held h =
    let set : bit_of words index ≡ 1 = h.is_set in
    let within : index < n = elim (dec_lt index n) [
      | yes inside ↦ inside
      | no outside ↦ absurd (omega (arith, set, held.unused index (omega arith)))
    ] in
    record {
      within = omega (arith, length-bits n words);
      nonzero = λ none. absurd (omega (arith, none, set, get_or-bits n words index within));
      zeros_before = λ j before.
          let inside : j < n = omega arith in get_or-bits n words j inside ∙ h.unset_before j before;
    }

-- the first set bit is the first digit
pub first_of_bits : (r : Option ℕ) (n end : ℕ) (words : List ℕ) → HoldsBits n words → n ≤ end →
    MatchOption r (HasNoSetBitBefore words end) (IsFirstSetBit words) → MatchOption r (All IsZero (bits n words)) (IsFirstNonzero (bits n words))
first_of_bits None n end words held room none = no_digit n end words room none
first_of_bits (Some index) n end words held room h = first_digit n words index held h

-- where all digits are zero, so are all words
pub zero_word : (n : ℕ) (words : List ℕ) (k : ℕ) → HoldsBits n words → All IsZero (bits n words) → get_or words k 0 ≡ 0
zero_word n words k held zeros =
    same_from_bits_below 64 (get_or words k 0) 0 (held.fits k) (lit< tt) (λ i below.
    let word : (k * 64 + i) / 64 ≡ k = omega arith in
    let place : (k * 64 + i) % 64 ≡ i = omega arith in
    sym (bit_of-word words (k * 64 + i) ∙ ap₂ (λ w p. bit_at (get_or words w 0) p) word place)
    ∙ bit (k * 64 + i) ∙ sym (bit_at-zero i))
  where
    bit : (e : ℕ) → bit_of words e ≡ 0
    bit e = elim (dec_lt e n) [
      | yes inside ↦ sym (get_or-bits n words e inside) ∙ All-get_or IsZero (bits n words) e 0 (omega (arith, length-bits n words)) zeros
      | no outside ↦ held.unused e (omega arith)
    ]

no_word : (words : List ℕ) → ((k : ℕ) → get_or words k 0 ≡ 0) → HasNonzero words → 0 ≡ suc 0
no_word words zero some =
    absurd (some.4 (sym some.3 ∙ get_or_default words some.0 some.1 0 some.2 ∙ zero some.0))

no_other : (words : List ℕ) → (HasNonzero words → 0 ≡ suc 0) → (k : ℕ) → get_or words k 0 ≡ 0
no_other words none k = elim (cases_eq (get_or words k 0) 0) [
  | inl e ↦ e
  | inr nonzero ↦
      let within : k < length words = elim (dec_lt k (length words)) [
        | yes inside ↦ inside
        | no outside ↦ absurd (nonzero (get_or_past words k 0 (omega arith)))
      ] in
      absurd (omega (arith, none (k, get_or words k 0, within, get_or_default words k (get_or words k 0) 0 within, nonzero)))
]

pub no_bit : (n : ℕ) (words : List ℕ) → ((k : ℕ) → get_or words k 0 ≡ 0) → All IsZero (bits n words)
no_bit n words zero =
    All-from_get_or IsZero (bits n words) 0 (λ e inside.
    get_or-bits n words e (omega (arith, length-bits n words)) ∙ bit_of-word words e ∙ ap (λ w. bit_at w (e % 64)) (zero (e / 64)) ∙ bit_at-zero (e % 64))

not_true : false ≡ true → 0 ≡ suc 0
not_true bad = cc

-- no word is other than zero exactly where each is zero
pub zero_words : (some : Bool) (words : List ℕ) → IsTrue some ↔ HasNonzero words → IsTrue (not some) ↔ ((k : ℕ) → get_or words k 0 ≡ 0)
zero_words true words h = (λ bad. absurd (omega (arith, not_true bad)), λ zero. absurd (omega (arith, no_word words zero (h.0 refl))))
zero_words false words h = (λ _. no_other words (λ some. absurd (omega (arith, not_true (h.1 some)))), λ _. refl)

-- no word is other than zero exactly where all digits are zero
pub zero_bits : (some : Bool) (n : ℕ) (words : List ℕ) → HoldsBits n words → IsTrue some ↔ HasNonzero words → IsTrue (not some) ↔ All IsZero (bits n words)
zero_bits some n words held h = (
  λ none. no_bit n words ((zero_words some words h).0 none),
  λ zeros. (zero_words some words h).1 (λ k. zero_word n words k held zeros),
)
