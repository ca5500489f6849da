-- The entries of tables that the pieces of a plane name.
use Rattle.std.proofs.Common.{◌≡◌, ℕ, ◌+◌, ◌<◌, ◌≤◌, List, [], length, slice_index_or, refl, sym, ap, ap₂, subst, ◌∙◌, arith}
use Rattle.std.specs.Int.{bit_at}
use Rattle.axe_lane.specs.Words.{bit_of}
use Rattle.axe_layer.specs.Bits.{bits, HoldsBits}
use Rattle.axe_layer.specs.Digits.{digits_with_four, number_from}
use Rattle.axe_layer.specs.Packed.{number_of_piece}
use Rattle.axe_layer.proofs.BitLaws.{plane_long}
use Rattle.axe_layer.proofs.PieceBits.{number_of_part}
use Rattle.axe_bits.specs.Combinations.{HasEntryOf}

-- the number of a piece of the word from an index on is that of the plane's digits
pub number_of_digits : (size at p e len word number : ℕ) (words v self : List ℕ) → e ≡ at + p → bits len words ≡ self → v ≡ words →
    at + (p + size) ≤ length self → p + size ≤ 64 → ((i : ℕ) → i < 64 → bit_at word i ≡ bit_of v (at + i)) →
    number ≡ number_of_piece word p size → number ≡ number_from 2 size e self
number_of_digits size at p e len word number words v self place is read inside low same piece =
    number_of_part 2 2 size at p e len word number words self refl is place (omega (arith, inside, plane_long len words self is)) low
    (λ i small. same i small ∙ ap (λ w. bit_of w (at + i)) read) piece

-- the words of the entry that a number names are those of a plane of its length
pub HoldsBits-entry : (n x y : ℕ) (entries : List (List ℕ)) (words : List ℕ) → HasEntryOf n entries y → x ≡ y →
    HoldsBits (length (slice_index_or entries x [])) words → HoldsBits n words
HoldsBits-entry n x y entries words has same holds =
    subst (λ m. HoldsBits m words) (ap (λ k. length (slice_index_or entries k [])) same ∙ has.fits) holds

pub bits-entry : (n x y : ℕ) (entries : List (List ℕ)) (words : List ℕ) → HasEntryOf n entries y → x ≡ y →
    bits (length (slice_index_or entries x [])) words ≡ slice_index_or entries x [] → bits n words ≡ slice_index_or entries y []
bits-entry n x y entries words has same is =
    sym (ap (λ m. bits m words) (ap (λ k. length (slice_index_or entries k [])) same ∙ has.fits)) ∙ is ∙ ap (λ k. slice_index_or entries k []) same

pub four_entries_same : (x a b c d a' b' c' d' : List ℕ) → a ≡ a' → b ≡ b' → c ≡ c' → d ≡ d' → digits_with_four 2 x a b c d ≡ digits_with_four 2 x a' b' c' d'
four_entries_same x a b c d a' b' c' d' ea eb ec ed =
    ap₂ (λ (u v : List ℕ). digits_with_four 2 x u v c d) ea eb ∙ ap₂ (λ (u v : List ℕ). digits_with_four 2 x a' b' u v) ec ed
