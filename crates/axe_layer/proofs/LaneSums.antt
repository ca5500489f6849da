-- Sums of words of four lanes, and the numbers of pieces in them.
use Rattle.std.proofs.Common.{◌≡◌, ◌≢◌, ℕ, ◌+◌, ◌*◌, ◌/◌, ◌^◌, ◌<◌, ◌≤◌, List, [], ◌∷◌, refl, sym, ap, ap₂, ◌∙◌, arith}
use Rattle.std.specs.Int.{bit_at}
use Rattle.std.proofs.lemmas.Nat.Bits.{bit_at-suc}
use native.Mathlib.Nat.{mul_assoc, mul_comm, mul-add}
use Rattle.axe_lane.specs.Words.{bit_of}
use Rattle.axe_layer.specs.Bits.{bits}
use Rattle.axe_layer.specs.Digits.{numbers_from}
use Rattle.axe_layer.specs.Lanes.{in_lanes}
use Rattle.axe_layer.specs.Packed.{piece_in_base, pieces_in_base}
use Rattle.axe_layer.proofs.PieceBits.{number_of_listed, four_pieces}
use Rattle.axe_layer.proofs.PieceDigits.{same_four}

-- lanes are added, each with a multiple of another, where whole words are
pub lanes_sum : (p a b c d w x y z : ℕ) →
    in_lanes (a ∷ b ∷ c ∷ d ∷ []) + p * in_lanes (w ∷ x ∷ y ∷ z ∷ [])
    ≡ in_lanes ((a + p * w) ∷ (b + p * x) ∷ (c + p * y) ∷ (d + p * z) ∷ [])
lanes_sum p a b c d w x y z =
    let fourth = mul-add p (w + 2 ^ 16 * x + 2 ^ 32 * y) (2 ^ 48 * z) in
    let third = mul-add p (w + 2 ^ 16 * x) (2 ^ 32 * y) in
    let second = mul-add p w (2 ^ 16 * x) in
    omega (arith, fourth, third, second, moved (2 ^ 16) x, moved (2 ^ 32) y, moved (2 ^ 48) z)
  where
    moved : (k v : ℕ) → p * (k * v) ≡ k * (p * v)
    moved k v = sym (mul_assoc p k v) ∙ ap (λ m. m * v) (mul_comm p k) ∙ mul_assoc k p v

-- ---- pieces of one bit

pub single_pieces : (b word : ℕ) →
    bit_at word 0 ∷ bit_at word 1 ∷ bit_at word 2 ∷ bit_at word 3 ∷ [] ≡ pieces_in_base b word 1
single_pieces b word =
    same_four _ _ _ _ _ _ _ _ (at 0) (at 1) (at 2) (at 3)
  where
    at : (from : ℕ) → bit_at word from ≡ piece_in_base b word from 1
    at from = let here : from ≡ from + 0 = omega arith in
        sym (number_of_listed b (λ j. bit_at word (from + j)) 1 ∙ omega (arith, ap (bit_at word) here))

-- ---- pieces of two bits

pub double_pieces : (b word : ℕ) →
    (bit_at word 1 + b * bit_at word 0) ∷ (bit_at word 3 + b * bit_at word 2) ∷ (bit_at word 5 + b * bit_at word 4)
    ∷ (bit_at word 7 + b * bit_at word 6) ∷ [] ≡ pieces_in_base b word 2
double_pieces b word =
    same_four _ _ _ _ _ _ _ _ (at 0) (at 2) (at 4) (at 6)
  where
    at : (from : ℕ) → bit_at word (from + 1) + b * bit_at word from ≡ piece_in_base b word from 2
    at from = let here : from ≡ from + 0 = omega arith in
        sym (number_of_listed b (λ j. bit_at word (from + j)) 2
        ∙ omega (arith, ap (bit_at word) here, mul_comm b (bit_at word from), ap (λ k. b * bit_at word k) here))

-- ---- the pieces of a layer

abbrev pub HasDigitsFrom : ℕ → List ℕ → ℕ → Type 0
HasDigitsFrom word words at = (i : ℕ) → i < 64 → bit_at word i ≡ bit_of words (at + i)

pub packed_singles : (b size at n word result : ℕ) (words : List ℕ) → size ≡ 1 → at + 4 * size ≤ n → HasDigitsFrom word words at →
    result ≡ in_lanes (bit_at word 0 ∷ bit_at word 1 ∷ bit_at word 2 ∷ bit_at word 3 ∷ []) →
    result ≡ in_lanes (numbers_from b size at (bits n words))
packed_singles b size at n word result words one inside same is =
    is ∙ ap in_lanes (four_pieces b b size 1 at n word words _ refl one inside (omega arith) same (single_pieces b word))

pub packed_pairs : (b size at n word even odd : ℕ) (words : List ℕ) → 1 ≤ size → size ≤ 2 → size ≢ 1 → at + 4 * size ≤ n →
    HasDigitsFrom word words at →
    even ≡ in_lanes (bit_at word 0 ∷ bit_at word 2 ∷ bit_at word 4 ∷ bit_at word 6 ∷ []) →
    odd ≡ in_lanes (bit_at (word / 2) 0 ∷ bit_at (word / 2) 2 ∷ bit_at (word / 2) 4 ∷ bit_at (word / 2) 6 ∷ []) →
    even * b + odd ≡ in_lanes (numbers_from b size at (bits n words))
packed_pairs b size at n word even odd words some few other inside same even_is odd_is =
    let two : size ≡ 2 = omega arith in
    let turned : even * b + odd ≡ odd + b * even = omega (arith, mul_comm even b) in
    turned ∙ ap₂ (λ x y. x + b * y) (odd_is ∙ ap in_lanes (same_four _ _ _ _ _ _ _ _ (sym (bit_at-suc word 0)) (sym (bit_at-suc word 2)) (sym (bit_at-suc word 4)) (sym (bit_at-suc word 6)))) even_is
    ∙ lanes_sum b _ _ _ _ _ _ _ _
    ∙ ap in_lanes (four_pieces b b size 2 at n word words _ refl two inside (omega arith) same (double_pieces b word))
