-- The bits of each byte of a word in the opposite order, by exchanges of bits, of pairs and of halves.
use Rattle.std.proofs.Common.{◌≡◌, ℕ, zero, suc, ◌+◌, ◌-◌, ◌*◌, ◌/◌, ◌%◌, ◌^◌, ◌<◌, ◌≤◌, Bool, true, ◌&&◌, eqb, min, max, refl, sym, ap, ap₂, ◌∙◌, arith, inl, inr}
use Rattle.std.specs.Int.{bit_at}
use Rattle.std.specs.Int.Bits.{bit_and, bit_or}
use Rattle.std.proofs.lemmas.Bool.{and_parts, cases_eq, eqb-true}
use Rattle.std.proofs.lemmas.Nat.Bits.{bit_at-lt, bit_at_and, bit_at_or}
use native.Mathlib.Decide.{dec_lt}
use Rattle.axe_layer.proofs.BitLaws.{bit_at-shifted}
use Rattle.axe_layer.proofs.DigitWords.{shifted_up_low, shifted_up_high}

-- where a bit stands when the bits of its byte are in the opposite order
abbrev pub opposite : ℕ → ℕ
opposite i = i / 8 * 8 + (7 - i % 8)

-- ---- pieces of a word that are exchanged in pairs

-- in the first n bits of a mask every second piece of s bits is set
abbrev is_mask : ℕ → ℕ → ℕ → Bool
is_mask s mask zero = true
is_mask s mask (suc n) = eqb (bit_at mask n) (1 - n / s % 2) && is_mask s mask n

masked : (s mask n i : ℕ) → is_mask s mask n ≡ true → i < n → bit_at mask i ≡ 1 - i / s % 2
masked s mask zero i all below = absurd (omega arith)
masked s mask (suc n) i all below =
    let both = and_parts (eqb (bit_at mask n) (1 - n / s % 2)) (is_mask s mask n) all in
    elim (cases_eq i n) [
      | inl same ↦ ap (bit_at mask) same ∙ eqb-true _ _ both.0 ∙ ap (λ k. 1 - k / s % 2) (sym same)
      | inr other ↦ masked s mask n i both.1 (omega (arith, other))
    ]

-- a word with the pieces of s bits that a mask picks, each exchanged with the piece above it
abbrev pub exchanged : ℕ → ℕ → ℕ → ℕ
exchanged s mask w = bit_or (bit_and (w / 2 ^ s) mask) (bit_and w mask * 2 ^ s % 2 ^ 64)

picked : (w mask i : ℕ) → bit_at mask i ≡ 1 → bit_at (bit_and w mask) i ≡ bit_at w i
picked w mask i one =
    let bit = bit_at-lt w i in
    let least : min (bit_at w i) 1 ≡ bit_at w i = omega (arith, bit) in
    bit_at_and w mask i ∙ ap (min (bit_at w i)) one ∙ least

passed : (w mask i : ℕ) → bit_at mask i ≡ 0 → bit_at (bit_and w mask) i ≡ 0
passed w mask i none =
    let least : min (bit_at w i) 0 ≡ 0 = omega arith in
    bit_at_and w mask i ∙ ap (min (bit_at w i)) none ∙ least

exchanged_low : (s mask w i : ℕ) → i < 64 → bit_at mask i ≡ 1 → (s ≤ i → bit_at mask (i - s) ≡ 0) →
    bit_at (exchanged s mask w) i ≡ bit_at w (s + i)
exchanged_low s mask w i low here before =
    let down : bit_at (bit_and (w / 2 ^ s) mask) i ≡ bit_at w (s + i) = picked (w / 2 ^ s) mask i here ∙ bit_at-shifted w s i in
    let up : bit_at (bit_and w mask * 2 ^ s % 2 ^ 64) i ≡ 0 = elim (dec_lt i s) [
      | yes below ↦ shifted_up_low (bit_and w mask) s i low below
      | no above ↦ shifted_up_high (bit_and w mask) s i low (omega arith) ∙ passed w mask (i - s) (before (omega arith))
    ] in
    let most : max (bit_at w (s + i)) 0 ≡ bit_at w (s + i) = omega arith in
    bit_at_or _ _ i ∙ ap₂ max down up ∙ most

exchanged_high : (s mask w i : ℕ) → i < 64 → s ≤ i → bit_at mask i ≡ 0 → bit_at mask (i - s) ≡ 1 →
    bit_at (exchanged s mask w) i ≡ bit_at w (i - s)
exchanged_high s mask w i low above here before =
    let down : bit_at (bit_and (w / 2 ^ s) mask) i ≡ 0 = passed (w / 2 ^ s) mask i here in
    let up : bit_at (bit_and w mask * 2 ^ s % 2 ^ 64) i ≡ bit_at w (i - s) =
    shifted_up_high (bit_and w mask) s i low above ∙ picked w mask (i - s) before in
    let most : max 0 (bit_at w (i - s)) ≡ bit_at w (i - s) = omega arith in
    bit_at_or _ _ i ∙ ap₂ max down up ∙ most

-- the masks of every second bit, pair of bits and half of a byte, from the lowest on
abbrev pub every_second_bit : ℕ
every_second_bit = 6148914691236517205

abbrev pub every_second_pair : ℕ
every_second_pair = 3689348814741910323

abbrev pub every_second_half : ℕ
every_second_half = 1085102592571150095

even_bits : (i : ℕ) → i < 64 → bit_at every_second_bit i ≡ 1 - i / 1 % 2
even_bits i low = masked 1 every_second_bit 64 i refl low

even_pairs : (i : ℕ) → i < 64 → bit_at every_second_pair i ≡ 1 - i / 2 % 2
even_pairs i low = masked 2 every_second_pair 64 i refl low

even_halves : (i : ℕ) → i < 64 → bit_at every_second_half i ≡ 1 - i / 4 % 2
even_halves i low = masked 4 every_second_half 64 i refl low

by_one : (w i : ℕ) → i < 64 → bit_at (exchanged 1 every_second_bit w) i ≡ bit_at w (i + 1 - 2 * (i % 2))
by_one w i low = elim (cases_eq (i % 2) 0) [
  | inl even ↦
      let there : 1 + i ≡ i + 1 - 2 * (i % 2) = omega (arith, even) in
      exchanged_low 1 every_second_bit w i low (even_bits i low ∙ omega (arith, even))
      (λ past. even_bits (i - 1) (omega arith) ∙ omega (arith, even, past)) ∙ ap (bit_at w) there
  | inr odd ↦
      let there : i - 1 ≡ i + 1 - 2 * (i % 2) = omega (arith, odd) in
      exchanged_high 1 every_second_bit w i low (omega (arith, odd)) (even_bits i low ∙ omega (arith, odd))
      (even_bits (i - 1) (omega arith) ∙ omega (arith, odd)) ∙ ap (bit_at w) there
]

by_two : (w i : ℕ) → i < 64 → bit_at (exchanged 2 every_second_pair w) i ≡ bit_at w (i + 2 - 4 * (i / 2 % 2))
by_two w i low = elim (cases_eq (i / 2 % 2) 0) [
  | inl even ↦
      let there : 2 + i ≡ i + 2 - 4 * (i / 2 % 2) = omega (arith, even) in
      exchanged_low 2 every_second_pair w i low (even_pairs i low ∙ omega (arith, even))
      (λ past. even_pairs (i - 2) (omega arith) ∙ omega (arith, even, past)) ∙ ap (bit_at w) there
  | inr odd ↦
      let there : i - 2 ≡ i + 2 - 4 * (i / 2 % 2) = omega (arith, odd) in
      exchanged_high 2 every_second_pair w i low (omega (arith, odd)) (even_pairs i low ∙ omega (arith, odd))
      (even_pairs (i - 2) (omega arith) ∙ omega (arith, odd)) ∙ ap (bit_at w) there
]

by_four : (w i : ℕ) → i < 64 → bit_at (exchanged 4 every_second_half w) i ≡ bit_at w (i + 4 - 8 * (i / 4 % 2))
by_four w i low = elim (cases_eq (i / 4 % 2) 0) [
  | inl even ↦
      let there : 4 + i ≡ i + 4 - 8 * (i / 4 % 2) = omega (arith, even) in
      exchanged_low 4 every_second_half w i low (even_halves i low ∙ omega (arith, even))
      (λ past. even_halves (i - 4) (omega arith) ∙ omega (arith, even, past)) ∙ ap (bit_at w) there
  | inr odd ↦
      let there : i - 4 ≡ i + 4 - 8 * (i / 4 % 2) = omega (arith, odd) in
      exchanged_high 4 every_second_half w i low (omega (arith, odd)) (even_halves i low ∙ omega (arith, odd))
      (even_halves (i - 4) (omega arith) ∙ omega (arith, odd)) ∙ ap (bit_at w) there
]

pub turned_bit : (w i : ℕ) → i < 64 →
    bit_at (exchanged 4 every_second_half (exchanged 2 every_second_pair (exchanged 1 every_second_bit w))) i ≡ bit_at w (opposite i)
turned_bit w i low =
    let j = i + 4 - 8 * (i / 4 % 2) in
    let k = j + 2 - 4 * (j / 2 % 2) in
    let j_low : j < 64 = omega arith in
    let pair : j / 2 % 2 ≡ i / 2 % 2 = omega arith in
    let place : j % 2 ≡ i % 2 = omega arith in
    let k_low : k < 64 = omega (arith, j_low) in
    let same : k % 2 ≡ i % 2 = omega (arith, place) in
    let there : k + 1 - 2 * (k % 2) ≡ opposite i = omega (arith, pair, same) in
    by_four _ i low ∙ by_two _ j j_low ∙ by_one w k k_low ∙ ap (bit_at w) there
