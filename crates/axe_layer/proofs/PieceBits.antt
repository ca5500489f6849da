-- The number that has some bits of a word as its digits.
use Rattle.std.proofs.Common.{◌≡◌, ℕ, suc, ◌+◌, ◌-◌, ◌*◌, ◌/◌, ◌^◌, ◌<◌, ◌≤◌, List, length, get_or, min, bit_and, refl, sym, ap, ap₂, ◌∙◌, arith}
use Rattle.std.specs.Int.{bit_at}
use Rattle.std.proofs.lemmas.List.{take_all}
use Rattle.std.proofs.lemmas.Nat.Bits.{shr_and_one, bit_at-lt}
use native.Mathlib.Nat.{mul-le-mul_left}
use Rattle.axe_algebra.specs.Digits.{number_with_digits}
use Rattle.axe_algebra.specs.Lists.{listed}
use Rattle.axe_algebra.proofs.ListEntries.{listed_length, listed_at}
use Rattle.axe_lane.specs.Words.{bit_of}
use Rattle.axe_layer.specs.Bits.{bits}
use Rattle.axe_layer.specs.Digits.{number_bound, number_from, numbers_from}
use Rattle.axe_layer.specs.Packed.{piece_in_base, pieces_in_base}
use Rattle.axe_layer.proofs.BitLaws.{plane_long, get_or-bits, bit_at-shifted}
use Rattle.axe_layer.proofs.PieceDigits.{with_values, with_values-same, with_values-small, number_of_first, count_from, number_from-values, same_four}

-- the digits of a listed function
pub number_of_listed : (b : ℕ) (f : ℕ → ℕ) (n : ℕ) → number_with_digits b (listed n f) ≡ with_values b f n
number_of_listed b f n =
    let long : length (listed n f) ≡ n = listed_length n f in
    ap (number_with_digits b) (sym (take_all n (listed n f) (omega (arith, long))))
    ∙ number_of_first b (listed n f) n (omega (arith, long))
    ∙ with_values-same b _ f n (λ j below. listed_at n f j 0 below)

-- ---- a number of its lowest bits, one bit more at a time

-- the number that has the lowest bits of a word as its digits
abbrev pub IsNumberOfBits : ℕ → ℕ → ℕ → ℕ → Type 0
IsNumberOfBits b word count number = number ≡ with_values b (bit_at word) count

lowest_bit : (word : ℕ) → bit_and word 1 ≡ bit_at word 0
lowest_bit word =
    let whole : word ≡ word / 2 ^ 0 = omega arith in
    ap (λ w. bit_and w 1) whole ∙ shr_and_one word 0

pub one_bit : (b word : ℕ) → IsNumberOfBits b word 1 (bit_and word 1)
one_bit b word = lowest_bit word ∙ omega arith

pub bit_more : (b word count number : ℕ) → IsNumberOfBits b word count number →
    IsNumberOfBits b word (suc count) (number * b + bit_and (word / 2 ^ count) 1)
bit_more b word count number is = ap₂ (λ x y. x * b + y) is (shr_and_one word count)

pub two_bits : (b word : ℕ) → IsNumberOfBits b word 2 (bit_and word 1 * b + bit_and (word / 2) 1)
two_bits b word = bit_more b word 1 _ (one_bit b word)

pub three_bits : (b word : ℕ) → IsNumberOfBits b word 3 ((bit_and word 1 * b + bit_and (word / 2) 1) * b + bit_and (word / 4) 1)
three_bits b word = bit_more b word 2 _ (two_bits b word)

pub number_of_bits_is : (b word count digits number : ℕ) → IsNumberOfBits b word count number → digits ≡ count →
    number ≡ number_with_digits b (listed digits (bit_at word))
number_of_bits_is b word count digits number is same =
    is ∙ ap (with_values b (bit_at word)) (sym same) ∙ sym (number_of_listed b (bit_at word) digits)

-- ---- how large it is

pub number_of_bits_small : (b word count number : ℕ) → IsNumberOfBits b word count number → b ≤ 9 → count ≤ 8 → number < number_bound
number_of_bits_small b word count number is base few =
    omega (arith, is, with_values-small b (bit_at word) count base (λ j. omega (arith, bit_at-lt word j)) few)

pub next_number_fits : (b word count number place : ℕ) → IsNumberOfBits b word count number → b ≤ 9 → count ≤ 8 →
    number * b + bit_and (word / 2 ^ place) 1 < 2 ^ 64
next_number_fits b word count number place is base few =
    let product : number * b ≤ number * 9 = mul-le-mul_left number base in
    omega (arith, product, number_of_bits_small b word count number is base few, shr_and_one word place, bit_at-lt word place)

-- ---- the digits of a plane

-- from its length on there are none
pub no_bits : (b size at n : ℕ) (words self : List ℕ) → bits n words ≡ self → n ≤ at → 0 ≡ number_from b size at self
no_bits b size at n words self is past =
    let none : count_from size at (length self) ≡ 0 = omega (arith, plane_long n words self is) in
    sym (number_from-values b size at self ∙ ap (with_values b (λ j. get_or self (at + j) 0)) none)

-- those that a word holds
pub number_of_word : (b size at n word count number : ℕ) (words self : List ℕ) → bits n words ≡ self → count ≡ min size (n - at) →
    ((i : ℕ) → i < count → bit_at word i ≡ bit_of words (at + i)) → number ≡ number_with_digits b (listed count (bit_at word)) →
    number ≡ number_from b size at self
number_of_word b size at n word count number words self is all same number_is =
    let long : length self ≡ n = plane_long n words self is in
    let counted : count ≡ count_from size at (length self) = omega (arith, long, all) in
    number_is ∙ number_of_listed b (bit_at word) count
    ∙ with_values-same b _ _ count (λ j below.
    let inside : at + j < n = omega (arith, all) in
    same j below ∙ sym (get_or-bits n words (at + j) inside) ∙ ap (λ (x : List ℕ). get_or x (at + j) 0) is)
    ∙ ap (with_values b (λ j. get_or self (at + j) 0)) counted ∙ sym (number_from-values b size at self)

-- those of a piece that a word holds from one of its bits on
pub number_of_shifted : (b size at p n word number : ℕ) (words self : List ℕ) → bits n words ≡ self → at + (p + size) ≤ n → p + size ≤ 64 →
    ((i : ℕ) → i < 64 → bit_at word i ≡ bit_of words (at + i)) → number ≡ number_with_digits b (listed size (bit_at (word / 2 ^ p))) →
    number ≡ number_from b size (at + p) self
number_of_shifted b size at p n word number words self is inside low same =
    number_of_word b size (at + p) n (word / 2 ^ p) size number words self is (omega arith) (λ i below.
    let here : p + i < 64 = omega arith in
    let there : at + (p + i) ≡ at + p + i = omega arith in
    bit_at-shifted word p i ∙ same (p + i) here ∙ ap (bit_of words) there)

-- the same where the base and the place are known by what they equal
pub number_of_part : (b q size at p e n word number : ℕ) (words self : List ℕ) → b ≡ q → bits n words ≡ self → e ≡ at + p → at + (p + size) ≤ n →
    p + size ≤ 64 → ((i : ℕ) → i < 64 → bit_at word i ≡ bit_of words (at + i)) →
    number ≡ number_with_digits q (listed size (λ j. bit_at word (p + j))) → number ≡ number_from b size e self
number_of_part b q size at p e n word number words self base is place inside low same part =
    number_of_shifted q size at p n word number words self is inside low same
    (part ∙ number_of_listed q (λ j. bit_at word (p + j)) size ∙ with_values-same q _ _ size (λ j _. sym (bit_at-shifted word p j))
    ∙ sym (number_of_listed q (bit_at (word / 2 ^ p)) size))
    ∙ ap₂ (λ r a. number_from r size a self) (sym base) (sym place)

-- the bits of a word from one of them on are the lowest of the word that is shifted
pub piece_of_shifted : (b size p word number : ℕ) → number ≡ number_with_digits b (listed size (bit_at (word / 2 ^ p))) →
    number ≡ piece_in_base b word p size
piece_of_shifted b size p word number is =
    is ∙ number_of_listed b (bit_at (word / 2 ^ p)) size ∙ with_values-same b _ _ size (λ j _. bit_at-shifted word p j)
    ∙ sym (number_of_listed b (λ j. bit_at word (p + j)) size)

pub piece_of_word : (b size word number : ℕ) → number ≡ number_with_digits b (listed size (bit_at word)) → number ≡ piece_in_base b word 0 size
piece_of_word b size word number is =
    is ∙ number_of_listed b (bit_at word) size ∙ with_values-same b _ _ size (λ j _. ap (bit_at word) (omega arith))
    ∙ sym (number_of_listed b (λ j. bit_at word (0 + j)) size)

-- the four pieces of a word are the plane's, where the base and the size are known by what they equal
pub four_pieces : (b q size k at n word : ℕ) (words result : List ℕ) → b ≡ q → size ≡ k → at + 4 * size ≤ n → size ≤ 8 →
    ((i : ℕ) → i < 64 → bit_at word i ≡ bit_of words (at + i)) → result ≡ pieces_in_base q word k → result ≡ numbers_from b size at (bits n words)
four_pieces b q size k at n word words result base size_is inside few same is =
    is ∙ ap₂ (λ r s. pieces_in_base r word s) (sym base) (sym size_is)
    ∙ same_four _ _ _ _ _ _ _ _
    (number_of_part b b size at 0 at n word _ words (bits n words) refl refl (omega arith) (omega arith) (omega arith) same refl)
    (number_of_part b b size at size (at + size) n word _ words (bits n words) refl refl refl (omega arith) (omega arith) same refl)
    (number_of_part b b size at (2 * size) (at + 2 * size) n word _ words (bits n words) refl refl refl (omega arith) (omega arith) same refl)
    (number_of_part b b size at (3 * size) (at + 3 * size) n word _ words (bits n words) refl refl refl (omega arith) (omega arith) same refl)
