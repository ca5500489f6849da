-- The bits of words in the opposite order, and of a word that is taken out of two.
use Rattle.std.proofs.Common.{◌≡◌, ℕ, zero, suc, ◌+◌, ◌-◌, ◌*◌, ◌/◌, ◌%◌, ◌^◌, ◌<◌, ◌≤◌, List, [], ◌∷◌, get_or, sym, ap, ap₂, ◌∙◌, arith, w64}
use Rattle.std.specs.Int.{bit_at, byte_at, bytes_high_first, to_be_bytes}
use Rattle.std.specs.Int.RustNames.{bit_or}
use Rattle.std.proofs.lemmas.Nat.Bits.{bit_at-suc, bit_at_above, bit_at_or}
use Rattle.axe_lane.proofs.ByteBits.{bit_of_byte}
use Rattle.axe_layer.specs.Packed.{packed_bit}
use Rattle.axe_layer.specs.Words.{digit_of_words}
use Rattle.axe_layer.proofs.BitLaws.{bit_at-shifted}
use Rattle.axe_layer.proofs.DigitWords.{shifted_up_low, shifted_up_high}

-- ---- the opposite order

byte_from_high : (k n j d : ℕ) → j < k → get_or (bytes_high_first k n) j d ≡ byte_at (k - 1 - j) n
byte_from_high zero n j d below = absurd (omega (arith, below))
byte_from_high (suc k) n zero d below = ap (λ b. byte_at b n) (let place : k ≡ suc k - 1 - 0 = omega arith in place)
byte_from_high (suc k) n (suc j) d below =
    let place : k - 1 - j ≡ suc k - 1 - suc j = omega arith in
    byte_from_high k n j d (omega (arith, below)) ∙ ap (λ b. byte_at b n) place

-- of the bytes of a number, highest first, the first digit is the most significant bit
pub packed_bit_from_high : (n e : ℕ) → e < 64 → packed_bit (to_be_bytes w64 n) e ≡ bit_at n (63 - e)
unfolding packed_bit
packed_bit_from_high n e low =
    let place : 8 * (8 - 1 - e / 8) + (7 - e % 8) ≡ 63 - e = omega (arith, low) in
    ap (λ b. bit_at b (7 - e % 8)) (byte_from_high 8 n (e / 8) 0 (omega (arith, low)))
    ∙ bit_of_byte (8 - 1 - e / 8) n (7 - e % 8) (omega arith) ∙ ap (bit_at n) place

-- so the digits of two words
pub digit_of_reversed : (words : List ℕ) (ones twos i : ℕ) → (i < 64 → bit_at ones i ≡ bit_at (get_or words 0 0) (63 - i)) →
    (i < 64 → bit_at twos i ≡ bit_at (get_or words 1 0) (63 - i)) → i < 64 → digit_of_words (ones ∷ twos ∷ []) i ≡ digit_of_words words (63 - i)
digit_of_reversed words ones twos i ones_are twos_are low = ap₂ (λ x y. x + 2 * y) (ones_are low) (twos_are low)

-- ---- a word out of two

-- the bits of two words that end with a bit of the second
abbrev pub bits_of_two : ℕ → ℕ → ℕ → ℕ
bits_of_two first second last = bit_or (first / 2 / 2 ^ last) (second * 2 ^ (63 - last) % 2 ^ 64)

module _ (first second last : ℕ) where
  lower : (i : ℕ) → bit_at (first / 2 / 2 ^ last) i ≡ bit_at first (last + 1 + i)
  lower i =
      let place : suc (last + i) ≡ last + 1 + i = omega arith in
      bit_at-shifted (first / 2) last i ∙ sym (bit_at-suc first (last + i)) ∙ ap (bit_at first) place

  pub bits_of_first : (i : ℕ) → last + 1 + i < 64 → bit_at (bits_of_two first second last) i ≡ bit_at first (last + 1 + i)
  bits_of_first i inside =
      let none = shifted_up_low second (63 - last) i (omega (arith, inside)) (omega (arith, inside)) in
      bit_at_or (first / 2 / 2 ^ last) (second * 2 ^ (63 - last) % 2 ^ 64) i ∙ omega (arith, none, lower i)

  pub bits_of_second : (i : ℕ) → first < 2 ^ 64 → last < 64 → i < 64 → 64 ≤ last + 1 + i → bit_at (bits_of_two first second last) i ≡ bit_at second (last + 1 + i - 64)
  bits_of_second i fits in_word low past =
      let none = bit_at_above first 64 (last + 1 + i) fits past in
      let place : i - (63 - last) ≡ last + 1 + i - 64 = omega (arith, past, in_word) in
      let upper = shifted_up_high second (63 - last) i low (omega (arith, past)) ∙ ap (bit_at second) place in
      bit_at_or (first / 2 / 2 ^ last) (second * 2 ^ (63 - last) % 2 ^ 64) i ∙ omega (arith, none, lower i, upper)
