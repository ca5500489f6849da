-- Numbers whose digits in base 3 are those of another number in base 2.
use Rattle.std.proofs.Common.{◌≡◌, ℕ, zero, suc, ◌+◌, ◌*◌, ◌/◌, ◌%◌, ◌^◌, ◌<◌, ◌≤◌, List, [], ◌∷◌, Bool, true, ◌&&◌, eqb, ltb, length, get_or, refl, sym, ap, ap₂, subst, ◌∙◌, arith, inl, inr, lit<}
use Rattle.std.specs.Int.{bit_at}
use Rattle.std.specs.List.{All}
use Rattle.std.proofs.lemmas.Bool.{and_parts, cases_eq, eqb-true, ltb-true}
use Rattle.std.proofs.lemmas.Nat.Bits.{bit_at-lt}
use Rattle.std.proofs.Math.Nat.{div-eq_of_lt}
use native.Mathlib.Nat.{pow-le-pow_right}
use Rattle.axe_algebra.specs.Digits.{digits, number_with_digits}
use Rattle.axe_algebra.specs.Lists.{listed}
use Rattle.axe_algebra.proofs.Digits.{digits_of_their_number, number_with_digits-below}
use Rattle.axe_algebra.proofs.ListEntries.{listed_length, listed_at}
use Rattle.axe_layer.specs.Packed.{number_of_piece}

-- the numbers of four bits
abbrev pub of_four_bits : List ℕ
of_four_bits = 0 ∷ 1 ∷ 3 ∷ 4 ∷ 9 ∷ 10 ∷ 12 ∷ 13 ∷ 27 ∷ 28 ∷ 30 ∷ 31 ∷ 36 ∷ 37 ∷ 39 ∷ 40 ∷ []

abbrev pub by_fours : ℕ → ℕ
by_fours n = get_or of_four_bits (n / 16) 0 * 81 + get_or of_four_bits (n % 16) 0

-- by fours, the numbers below n have the digits that they should have, and are below 3^8
abbrev are_right : ℕ → Bool
are_right zero = true
are_right (suc n) = eqb (by_fours n) (number_with_digits 3 (digits 2 8 n)) && (ltb (by_fours n) 6561 && are_right n)

record IsRight (n : ℕ) : Type 0 where
  value : by_fours n ≡ number_with_digits 3 (digits 2 8 n)
  small : by_fours n < 6561

right_at : (m n : ℕ) → are_right m ≡ true → n < m → IsRight n
right_at zero n all below = absurd (omega arith)
right_at (suc m) n all below =
    let first = and_parts (eqb (by_fours m) (number_with_digits 3 (digits 2 8 m))) (ltb (by_fours m) 6561 && are_right m) all in
    let second = and_parts (ltb (by_fours m) 6561) (are_right m) first.1 in
    elim (cases_eq n m) [
      | inl same ↦ subst IsRight (sym same) (record { value = eqb-true _ _ first.0; small = ltb-true _ _ second.0 })
      | inr other ↦ right_at m n second.1 (omega (arith, other))
    ]

all_right : are_right 256 ≡ true
unfolding digits number_with_digits
all_right = refl

-- zeros before the digits change nothing
one_zero : (q m x : ℕ) → x < 2 ^ m → number_with_digits q (digits 2 (suc m) x) ≡ number_with_digits q (digits 2 m x)
unfolding digits number_with_digits
one_zero q m x small =
    let above : x / 2 ^ m ≡ 0 = div-eq_of_lt small in
    let none : x / 2 ^ m % 2 ≡ 0 = ap (λ k. k % 2) above in
    ap (λ d. d * q ^ length (digits 2 m x) + number_with_digits q (digits 2 m x)) none ∙ omega arith

padded : (q m size x : ℕ) → size ≤ m → x < 2 ^ size → number_with_digits q (digits 2 m x) ≡ number_with_digits q (digits 2 size x)
padded q zero size x few small = let none : 0 ≡ size = omega (arith, few) in ap (λ k. number_with_digits q (digits 2 k x)) none
padded q (suc m) size x few small = elim (cases_eq size (suc m)) [
  | inl same ↦ ap (λ k. number_with_digits q (digits 2 k x)) (sym same)
  | inr other ↦
      let fewer : size ≤ m = omega (arith, few, other) in
      let most : 2 ^ size ≤ 2 ^ m = pow-le-pow_right {n = 2} (lit< tt) fewer in
      one_zero q m x (omega (arith, small, most)) ∙ padded q m size x fewer small
]

pub base_three_is : (number size : ℕ) → number < 256 → size ≤ 8 → number < 2 ^ size →
    by_fours number ≡ number_with_digits 3 (digits 2 size number)
base_three_is number size small few below = (right_at 256 number all_right small).value ∙ padded 3 8 size number few below

pub base_three_small : (number : ℕ) → number < 256 → by_fours number < 6561
base_three_small number small = (right_at 256 number all_right small).small

-- the number in base 3 that has the bits of a word as its digits
pub piece_in_base_three : (word from size piece number : ℕ) → size ≤ 8 → piece ≡ number_of_piece word from size →
    ((s : ℕ) → s ≤ 8 → piece < 2 ^ s → number ≡ number_with_digits 3 (digits 2 s piece)) →
    number ≡ number_with_digits 3 (listed size (λ j. bit_at word (from + j)))
piece_in_base_three word from size piece number few piece_is is =
    is size few (omega (arith, piece_is, subst (λ k. number_with_digits 2 ds < 2 ^ k) long (number_with_digits-below 2 ds bits)))
    ∙ ap₂ (λ k x. number_with_digits 3 (digits 2 k x)) (sym long) piece_is
    ∙ ap (number_with_digits 3) (digits_of_their_number 2 ds bits)
  where
    ds : List ℕ
    ds = listed size (λ j. bit_at word (from + j))

    long : length ds ≡ size
    long = listed_length size _

    bits : All (λ digit. digit < 2) ds
    bits j d inside =
        let below : j < size = omega (arith, inside, long) in
        subst (λ x. x < 2) (sym (listed_at size _ j d below)) (bit_at-lt word (from + j))
