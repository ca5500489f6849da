-- Lists of digits modulo 3 in which one word of each of the two layers is replaced.
use Rattle.std.proofs.Common.{◌≡◌, ℕ, ◌+◌, ◌*◌, ◌/◌, ◌%◌, ◌<◌, ◌≤◌, List, [], ◌∷◌, length, get_or, refl, sym, ◌∙◌, arith, inl, inr}
use Rattle.std.specs.Int.{bit_at}
use Rattle.std.proofs.lemmas.Bool.{cases_eq}
use Rattle.std.proofs.lemmas.Nat.Bits.{bit_at-lt}
use Rattle.axe_layer.specs.Bits.{bits}
use Rattle.axe_bits.specs.Trits.{trits, HoldLayers, HoldTrits}
use Rattle.axe_layer.specs.Words.{digit_of_words, digits_with_word}
use Rattle.axe_bits.proofs.TritPlaneLaws.{layers, trits_are, trits_at, trits_long}
use Rattle.axe_layer.proofs.WordWrites.{length-digits_with_word, get_or-digits_with_word_same, get_or-digits_with_word_other, word_of_digits}

-- the digits of a word of each layer
pub digit_of_layers : (n : ℕ) (ones twos self : List ℕ) (k one two i : ℕ) → HoldLayers n ones twos → trits (bits n ones) (bits n twos) ≡ self →
    one ≡ get_or ones k 0 → two ≡ get_or twos k 0 → i < 64 → digit_of_words (one ∷ two ∷ []) i ≡ get_or self (k * 64 + i) 0
digit_of_layers n ones twos self k one two i held is one_is two_is low =
    let first = word_of_digits n ones (bits n ones) k one i held.ones_held refl one_is low in
    let second = word_of_digits n twos (bits n twos) k two i held.twos_held refl two_is low in
    let both = trits_at (bits n ones) (bits n twos) self held.together is (k * 64 + i) in
    omega (arith, first, second, both)

-- no place has a bit in both of two words
one_bit : (words : List ℕ) (i : ℕ) → digit_of_words words i < 3 → bit_at (get_or words 0 0) i + bit_at (get_or words 1 0) i ≤ 1
one_bit words i small = omega (arith, small, bit_at-lt (get_or words 0 0) i, bit_at-lt (get_or words 1 0) i)

module _ (a b x : List ℕ) (k : ℕ) (words : List ℕ) (h : HoldTrits a b) (small : (i : ℕ) → i < 64 → digit_of_words words i < 3) where
  -- the layers after
  abbrev pub ones : List ℕ
  ones = digits_with_word a k (bit_at (get_or words 0 0))

  abbrev pub twos : List ℕ
  twos = digits_with_word b k (bit_at (get_or words 1 0))

  long_ones : length ones ≡ length a
  long_ones = length-digits_with_word a k (bit_at (get_or words 0 0))

  long_twos : length twos ≡ length b
  long_twos = length-digits_with_word b k (bit_at (get_or words 1 0))

  pub layers_with_words : HoldTrits ones twos
  layers_with_words =
      layers (length a) ones twos long_ones (long_twos ∙ h.as_long) (λ e below. elim (cases_eq (e / 64) k) [
        | inl same ↦
            let one = get_or-digits_with_word_same a k (bit_at (get_or words 0 0)) e 0 below same in
            let two = get_or-digits_with_word_same b k (bit_at (get_or words 1 0)) e 0 (omega (arith, h.as_long)) same in
            omega (arith, one, two, one_bit words (e % 64) (small (e % 64) (omega arith)))
        | inr other ↦
            let one = get_or-digits_with_word_other a k (bit_at (get_or words 0 0)) e 0 below other in
            let two = get_or-digits_with_word_other b k (bit_at (get_or words 1 0)) e 0 (omega (arith, h.as_long)) other in
            omega (arith, one, two, h.apart e)
      ])

  -- the digits after
  pub trits_with_words : trits a b ≡ x → trits ones twos ≡ digits_with_word x k (digit_of_words words)
  trits_with_words is =
      trits_are ones twos (digits_with_word x k (digit_of_words words)) layers_with_words
      (length-digits_with_word x k (digit_of_words words) ∙ trits_long a b x is ∙ sym long_ones) (λ e within.
      let below : e < length a = omega (arith, long_ones) in
      let inside : e < length x = omega (arith, below, trits_long a b x is) in
      elim (cases_eq (e / 64) k) [
        | inl same ↦
            let one = get_or-digits_with_word_same a k (bit_at (get_or words 0 0)) e 0 below same in
            let two = get_or-digits_with_word_same b k (bit_at (get_or words 1 0)) e 0 (omega (arith, below, h.as_long)) same in
            let new = get_or-digits_with_word_same x k (digit_of_words words) e 0 inside same in
            omega (arith, one, two, new)
        | inr other ↦
            let one = get_or-digits_with_word_other a k (bit_at (get_or words 0 0)) e 0 below other in
            let two = get_or-digits_with_word_other b k (bit_at (get_or words 1 0)) e 0 (omega (arith, below, h.as_long)) other in
            let new = get_or-digits_with_word_other x k (digit_of_words words) e 0 inside other in
            omega (arith, one, two, new, trits_at a b x h is e)
      ])
