-- The first four places from an index on that a word of a support has.
use Rattle.std.proofs.Common.{◌≡◌, ◌≢◌, ◌↔◌, ℕ, ◌+◌, ◌-◌, ◌*◌, ◌/◌, ◌%◌, ◌^◌, ◌<◌, ◌≤◌, List, [], ◌∷◌, length, get_or, cond, eqb, subst, sym, ap, ◌∙◌, arith, inl, inr, w64}
use Rattle.std.specs.Int.{bit_at, trailing_zeros}
use Rattle.std.proofs.lemmas.Bool.{cases_eq, eq-eqb, ne_eqb}
use Rattle.std.proofs.lemmas.List.{get_or_past}
use Rattle.std.proofs.lemmas.Nat.Bits.{bit_at-zero, bit_at_above, bit_at-trailing_zeros}
use Rattle.std.proofs.Math.Nat.{div-le_self}
use native.Mathlib.Decide.{dec_lt}
use Rattle.axe_lane.specs.Entries.{IsNextNonzero}
use Rattle.axe_layer.specs.Supports.{AreFewerThanFour, AreNextFour, IsSupportWord}
use Rattle.axe_layer.proofs.BitLaws.{bit_at-shifted}
use Rattle.axe_layer.proofs.LowestBits.{zero_or_zero}
use Rattle.axe_layer.proofs.SupportLaws.{at_place}

-- a word without the lowest bit of another
pub record IsWithoutLowest (word rest : ℕ) : Type 0 where
  pub fits : rest < 18446744073709551616
  pub bit : (i : ℕ) → bit_at rest i ≡ cond (eqb i (trailing_zeros w64 word)) 0 (bit_at word i)

-- the bits of a word from the place of an index on
record IsPart (start rest : ℕ) : Type 0 where
  pub fits : rest < 18446744073709551616
  pub past : (i : ℕ) → 64 ≤ start % 64 + i → bit_at rest i ≡ 0

whole_part : (start word : ℕ) → word < 18446744073709551616 → IsPart start (word / 2 ^ (start % 64))
whole_part start word fits = record {
  fits = omega (arith, fits, div-le_self word (2 ^ (start % 64)));
  past = λ i high. bit_at-shifted word (start % 64) i ∙ bit_at_above word 64 (start % 64 + i) (omega (arith, fits)) high;
}

next_part : (start word rest : ℕ) → IsPart start word → IsWithoutLowest word rest → IsPart start rest
next_part start word rest part without = record {
  fits = without.fits;
  past = λ i high. without.bit i ∙ zero_or_zero (eqb i (trailing_zeros w64 word)) (bit_at word i) (part.past i high);
}

-- what the lowest bit of a word other than 0 is
lowest : (word : ℕ) → word < 18446744073709551616 → word ≢ 0 →
    (trailing_zeros w64 word < 64) × (bit_at word (trailing_zeros w64 word) ≡ 1) × ((i : ℕ) → i < trailing_zeros w64 word → bit_at word i ≡ 0)
lowest word fits some = bit_at-trailing_zeros w64 word (omega (arith, some)) (omega (arith, fits))

place_in_part : (start rest : ℕ) → IsPart start rest → rest ≢ 0 → start % 64 + trailing_zeros w64 rest < 64
place_in_part start rest part some = elim (dec_lt (start % 64 + trailing_zeros w64 rest) 64) [
  | yes inside ↦ inside
  | no outside ↦ absurd (omega (arith, (lowest rest part.fits some).1, part.past (trailing_zeros w64 rest) (omega (arith, outside))))
]

-- where a bit is left, there was one before
some_before : (word rest : ℕ) → IsWithoutLowest word rest → rest ≢ 0 → word ≢ 0
some_before word rest without some = λ none.
    let low = trailing_zeros w64 rest in
    let gone = without.bit low
    ∙ zero_or_zero (eqb low (trailing_zeros w64 word)) (bit_at word low) (ap (λ w. bit_at w low) none ∙ bit_at-zero low) in
    absurd (omega (arith, gone, (lowest rest without.fits some).1))

-- the places of the lowest bits of four words, which are numbers of the machine
pub record ArePlaces (start a b c d : ℕ) : Type 0 where
  pub first : start + trailing_zeros w64 a < 18446744073709551616
  pub second : start + trailing_zeros w64 b < 18446744073709551616
  pub third : start + trailing_zeros w64 c < 18446744073709551616
  pub fourth : start + trailing_zeros w64 d < 18446744073709551616

pub are_places : (start word second third fourth : ℕ) → start < 18446744073709551616 → word < 18446744073709551616 →
    IsWithoutLowest (word / 2 ^ (start % 64)) second → IsWithoutLowest second third → IsWithoutLowest third fourth → fourth ≢ 0 →
    ArePlaces start (word / 2 ^ (start % 64)) second third fourth
are_places start word second third fourth begun fits h2 h3 h4 n4 =
    let part = whole_part start word fits in
    let part2 = next_part start _ second part h2 in
    let part3 = next_part start second third part2 h3 in
    let n3 = some_before third fourth h4 n4 in
    let n2 = some_before second third h3 n3 in
    record {
      first = omega (arith, begun, place_in_part start _ part (some_before _ second h2 n2));
      second = omega (arith, begun, place_in_part start second part2 n2);
      third = omega (arith, begun, place_in_part start third part3 n3);
      fourth = omega (arith, begun, place_in_part start fourth (next_part start third fourth part3 h4) n4);
    }

-- the bits that are left are 0 before an index, and from there on those of the numbers that are 0
record AreLeft (numbers : List ℕ) (start from rest : ℕ) : Type 0 where
  pub part : IsPart start rest
  pub begun : start ≤ from
  pub before : (i : ℕ) → start + i < from → bit_at rest i ≡ 0
  pub later : (i : ℕ) → from ≤ start + i → start % 64 + i < 64 → bit_at rest i ≡ 0 ↔ get_or numbers (start + i) 0 ≡ 0

all_left : (numbers : List ℕ) (start word : ℕ) → IsSupportWord numbers (start / 64) word → word < 18446744073709551616 →
    AreLeft numbers start start (word / 2 ^ (start % 64))
all_left numbers start word support fits = record {
  part = whole_part start word fits;
  begun = omega arith;
  before = λ i less. absurd (omega (arith, less));
  later = λ i from low. at_place numbers start word support i low;
}

-- the next number other than 0 stands at the lowest of them
lowest_left : (numbers : List ℕ) (start from rest : ℕ) → AreLeft numbers start from rest → rest ≢ 0 →
    IsNextNonzero numbers from (start + trailing_zeros w64 rest)
lowest_left numbers start from rest left some = record {
  within = elim (dec_lt (start + low) (length numbers)) [
    | yes inside ↦ inside
    | no outside ↦ absurd (nonzero (get_or_past numbers (start + low) 0 (omega (arith, outside))))
  ];
  not_before = not_before;
  nonzero = nonzero;
  zeros_between = λ j after earlier.
      let there : start + (j - start) ≡ j = omega (arith, left.begun, after) in
      let place = (left.later (j - start) (omega (arith, there, after)) (omega (arith, place, earlier))).0 in
      sym (ap (λ k. get_or numbers k 0) there) ∙ place (bit.2 (j - start) (omega (arith, there, earlier)));
}
  where
    low : ℕ
    low = trailing_zeros w64 rest

    bit : (low < 64) × (bit_at rest low ≡ 1) × ((i : ℕ) → i < low → bit_at rest i ≡ 0)
    bit = lowest rest left.part.fits some

    place : start % 64 + low < 64
    place = place_in_part start rest left.part some

    not_before : from ≤ start + low
    not_before = elim (dec_lt (start + low) from) [
      | yes earlier ↦ absurd (omega (arith, bit.1, left.before low earlier))
      | no after ↦ omega (arith, after)
    ]

    nonzero : get_or numbers (start + low) 0 ≢ 0
    nonzero none = absurd (omega (arith, bit.1, (left.later low not_before place).1 none))

-- the bits that are left without the lowest of them
next_left : (numbers : List ℕ) (start from word rest : ℕ) → AreLeft numbers start from word → IsWithoutLowest word rest → word ≢ 0 →
    AreLeft numbers start (start + trailing_zeros w64 word + 1) rest
next_left numbers start from word rest left without some = record {
  part = next_part start word rest left.part without;
  begun = omega arith;
  before = λ i earlier. elim (cases_eq i low) [
    | inl same ↦ without.bit i ∙ ap (λ t. cond t 0 (bit_at word i)) (eq-eqb i low same)
    | inr other ↦ kept i other ∙ (lowest word left.part.fits some).2 i (omega (arith, earlier, other))
  ];
  later = λ i after inside.
      let same = kept i (λ e. absurd (omega (arith, after, e))) in
      let both = left.later i (omega (arith, after, (lowest_left numbers start from word left some).not_before)) inside in
      (λ none. both.0 (sym same ∙ none), λ none. same ∙ both.1 none);
}
  where
    low : ℕ
    low = trailing_zeros w64 word

    kept : (i : ℕ) → i ≢ low → bit_at rest i ≡ bit_at word i
    kept i other = without.bit i ∙ ap (λ t. cond t 0 (bit_at word i)) (ne_eqb i low other)

-- a bit is left where a number other than 0 is
some_left : (numbers : List ℕ) (start from rest i : ℕ) → AreLeft numbers start from rest → IsNextNonzero numbers from i →
    i < (start / 64 + 1) * 64 → rest ≢ 0
some_left numbers start from rest i left next inside = λ none.
    let there : start + (i - start) ≡ i = omega (arith, left.begun, next.not_before) in
    let both = left.later (i - start) (omega (arith, there, next.not_before)) (omega (arith, there, inside)) in
    absurd (next.nonzero (sym (ap (λ k. get_or numbers k 0) there) ∙ both.0 (ap (λ w. bit_at w (i - start)) none ∙ bit_at-zero (i - start))))

-- the next number other than 0 stands at one index
one_next : (numbers : List ℕ) (start i j : ℕ) → IsNextNonzero numbers start i → IsNextNonzero numbers start j → i ≡ j
one_next numbers start i j first second = elim (dec_lt i j) [
  | yes less ↦ absurd (first.nonzero (second.zeros_between i first.not_before less))
  | no after ↦ elim (dec_lt j i) [
    | yes more ↦ absurd (second.nonzero (first.zeros_between j second.not_before more))
    | no before ↦ omega (arith, after, before)
  ]
]

-- the bits that are left after the next number other than 0
left_after : (numbers : List ℕ) (start from word rest i : ℕ) → AreLeft numbers start from word → IsWithoutLowest word rest →
    IsNextNonzero numbers from i → i < (start / 64 + 1) * 64 → AreLeft numbers start (i + 1) rest
left_after numbers start from word rest i left without next inside =
    let some = some_left numbers start from word i left next inside in
    let same = one_next numbers from _ i (lowest_left numbers start from word left some) next in
    subst (λ k. AreLeft numbers start (k + 1) rest) same (next_left numbers start from word rest left without some)

-- the word from the place of an index on, and what is left of it without its lowest bit, the lowest two, the lowest three
module _ (numbers : List ℕ) (start word : ℕ) (support : IsSupportWord numbers (start / 64) word) (fits : word < 18446744073709551616)
    (second third fourth : ℕ) (h2 : IsWithoutLowest (word / 2 ^ (start % 64)) second) (h3 : IsWithoutLowest second third)
    (h4 : IsWithoutLowest third fourth) where
  abbrev pub first : ℕ
  first = word / 2 ^ (start % 64)

  left : AreLeft numbers start start first
  left = all_left numbers start word support fits

  pub four_places : fourth ≢ 0 → AreNextFour numbers start
      ((start + trailing_zeros w64 first) ∷ (start + trailing_zeros w64 second) ∷ (start + trailing_zeros w64 third)
      ∷ (start + trailing_zeros w64 fourth) ∷ [])
  four_places n4 =
      let n3 = some_before third fourth h4 n4 in
      let n2 = some_before second third h3 n3 in
      let n1 = some_before first second h2 n2 in
      let left2 = next_left numbers start _ first second left h2 n1 in
      let left3 = next_left numbers start _ second third left2 h3 n2 in
      let left4 = next_left numbers start _ third fourth left3 h4 n3 in
      record {
        first = lowest_left numbers start _ first left n1;
        second = lowest_left numbers start _ second left2 n2;
        third = lowest_left numbers start _ third left3 n3;
        fourth = lowest_left numbers start _ fourth left4 n4;
      }

  pub fewer_than_four : fourth ≡ 0 → AreFewerThanFour numbers start ((start / 64 + 1) * 64)
  fewer_than_four none = λ four next. elim (dec_lt (get_or four 3 0) ((start / 64 + 1) * 64)) [
    | no outside ↦ omega (arith, outside)
    | yes inside ↦
        let in2 : get_or four 2 0 < (start / 64 + 1) * 64 = omega (arith, inside, next.fourth.not_before) in
        let in1 : get_or four 1 0 < (start / 64 + 1) * 64 = omega (arith, in2, next.third.not_before) in
        let in0 : get_or four 0 0 < (start / 64 + 1) * 64 = omega (arith, in1, next.second.not_before) in
        let left2 = left_after numbers start _ first second _ left h2 next.first in0 in
        let left3 = left_after numbers start _ second third _ left2 h3 next.second in1 in
        let left4 = left_after numbers start _ third fourth _ left3 h4 next.third in2 in
        absurd (some_left numbers start _ fourth _ left4 next.fourth inside none)
  ]
