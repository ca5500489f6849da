-- Lists of words that have no bit in common at the same index: rows over the field of order 3.
use Rattle.std.proofs.Common.{◌≡◌, ℕ, ◌+◌, ◌/◌, ◌%◌, ◌<◌, ◌≤◌, List, length, get_or, ap, ◌∙◌, arith, inl, inr, bit_and}
use Rattle.std.specs.Int.{bit_at}
use Rattle.std.specs.Int.Bits.{and_zero_l}
use Rattle.std.proofs.lemmas.Bool.{cases_lt}
use Rattle.std.proofs.lemmas.List.{get_or_past}
use Rattle.std.proofs.lemmas.Nat.Bits.{bit_at-lt, bit_at-zero, bit_at_and}
use Rattle.axe_lane.specs.Words.{bit_of}
use Rattle.axe_lane.specs.Trits.{AreTrits}

-- the words before an index have no bit in common
abbrev pub AreApartBefore : List ℕ → List ℕ → ℕ → Type 0
AreApartBefore ones twos n = (k : ℕ) → k < n → bit_and (get_or ones k 0) (get_or twos k 0) ≡ 0

apart_bits : (a b i : ℕ) → bit_and a b ≡ 0 → bit_at a i + bit_at b i ≤ 1
apart_bits a b i none = omega (arith, bit_at_and a b i, ap (λ n. bit_at n i) none, bit_at-zero i, bit_at-lt a i, bit_at-lt b i)

-- all words
pub apart_trits : (ones twos : List ℕ) (n : ℕ) → length twos ≡ length ones → length ones ≤ n → AreApartBefore ones twos n →
    AreTrits ones twos
unfolding bit_of
apart_trits ones twos n fits end before = record {
  as_long = fits;
  apart = λ i. apart_bits (get_or ones (i / 64) 0) (get_or twos (i / 64) 0) (i % 64) (elim (cases_lt (i / 64) n) [
    | inl inside ↦ before (i / 64) inside
    | inr past ↦
        ap (λ w. bit_and w (get_or twos (i / 64) 0)) (get_or_past ones (i / 64) 0 (omega arith)) ∙ and_zero_l (get_or twos (i / 64) 0)
  ]);
}
