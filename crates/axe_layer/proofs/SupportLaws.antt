-- The words of supports, and the places that they have.
use Rattle.std.proofs.Common.{◌≡◌, ◌≢◌, ◌↔◌, ℕ, ◌+◌, ◌-◌, ◌*◌, ◌/◌, ◌%◌, ◌^◌, ◌<◌, ◌≤◌, List, length, get_or, take, cond, eqb, max, sym, ap, ◌∙◌, arith, inl, inr, w64}
use Rattle.std.specs.Int.{bit_at, trailing_zeros}
use Rattle.std.specs.Int.RustNames.{bit_or}
use Rattle.std.specs.Int.Bits.{bit_and}
use Rattle.std.proofs.lemmas.Bool.{cases_eq, eq-eqb, ne_eqb}
use Rattle.std.proofs.lemmas.List.{get_or_past, get_or-take, length-take}
use Rattle.std.proofs.lemmas.Nat.Bits.{bit_at-lt, bit_at-zero, bit_at_and, bit_at_or, bit_at-trailing_zeros}
use Rattle.std.proofs.Math.Nat.{div-le_self}
use native.Mathlib.Decide.{dec_lt}
use Rattle.axe_algebra.proofs.ListEntries.{listed_length, listed_at}
use Rattle.axe_lane.specs.Entries.{AreZerosBetween, AreZerosFrom, IsNextNonzero}
use Rattle.axe_layer.specs.Supports.{restricted, IsSupportWord}
use Rattle.axe_layer.proofs.BitLaws.{bit_at-shifted}
use Rattle.axe_layer.proofs.NextDigits.{within_word}

-- ---- the places of one word

module _ (numbers : List ℕ) (start word : ℕ) (h : IsSupportWord numbers (start / 64) word) where
  -- what is left of the word from an index on
  abbrev rest : ℕ
  rest = word / 2 ^ (start % 64)

  pub at_place : (i : ℕ) → start % 64 + i < 64 → bit_at rest i ≡ 0 ↔ get_or numbers (start + i) 0 ≡ 0
  at_place i low =
      let there : start / 64 * 64 + (start % 64 + i) ≡ start + i = omega arith in
      let number = ap (λ j. get_or numbers j 0) there in
      let bit = bit_at-shifted word (start % 64) i in
      let both = h (start % 64 + i) low in
      (λ none. sym number ∙ both.0 (sym bit ∙ none), λ none. bit ∙ both.1 (number ∙ none))

  -- the number at a later index of the word
  zero_at : (j : ℕ) → start ≤ j → j < (start / 64 + 1) * 64 → bit_at rest (j - start) ≡ 0 → get_or numbers j 0 ≡ 0
  zero_at j from before none =
      let there : start + (j - start) ≡ j = omega arith in
      sym (ap (λ k. get_or numbers k 0) there) ∙ (at_place (j - start) (omega arith)).0 none

  pub no_place : rest ≡ 0 → AreZerosBetween numbers start ((start / 64 + 1) * 64)
  no_place none = λ j from before.
      zero_at j from before (ap (λ w. bit_at w (j - start)) none ∙ bit_at-zero (j - start))

  pub first_place : word < 2 ^ 64 → rest ≢ 0 → IsNextNonzero numbers start (start + trailing_zeros w64 rest)
  first_place fits some = record {
    within = elim (dec_lt (start + low) (length numbers)) [
      | yes inside ↦ inside
      | no outside ↦ absurd (nonzero (get_or_past numbers (start + low) 0 (omega arith)))
    ];
    not_before = omega arith;
    nonzero = nonzero;
    zeros_between = λ j from before. zero_at j from (omega (arith, place)) (bit.2 (j - start) (omega arith));
  }
    where
      low : ℕ
      low = trailing_zeros w64 rest

      place : start % 64 + low < 64
      place = within_word word start fits some

      bit : (low < 64) × (bit_at rest low ≡ 1) × ((i : ℕ) → i < low → bit_at rest i ≡ 0)
      bit = bit_at-trailing_zeros w64 rest (omega arith) (omega (arith, fits, div-le_self word (2 ^ (start % 64))))

      nonzero : get_or numbers (start + low) 0 ≢ 0
      nonzero none = absurd (omega (arith, bit.1, (at_place low place).1 none))

-- a place that is next in every list with this word of its support stands in the word
pub stands_inside : (numbers : List ℕ) (start word i : ℕ) → IsSupportWord numbers (start / 64) word →
    ((list : List ℕ) → IsSupportWord list (start / 64) word → IsNextNonzero list start i) → i < (start / 64 + 1) * 64
stands_inside numbers start word i support next =
    let end = (start / 64 + 1) * 64 in
    let cut = next (take end numbers) (λ j low.
    let same = get_or-take end numbers (start / 64 * 64 + j) 0 (omega (arith, low)) in
    (λ none. same ∙ (support j low).0 none, λ none. (support j low).1 (sym same ∙ none))) in
    omega (arith, cut.within, length-take end numbers)

-- ---- word after word

module _ (numbers : List ℕ) (start k from : ℕ) (is : from ≡ max start (k * 64)) (begun : start / 64 ≤ k) where
  -- the index from which word k is looked at stands in it
  pub stands_in_word : from / 64 ≡ k
  stands_in_word = omega (arith, is)

  pub found_in_word : (i : ℕ) → AreZerosBetween numbers start (k * 64) → IsNextNonzero numbers from i → IsNextNonzero numbers start i
  found_in_word i before next = record {
    within = next.within;
    not_before = omega (arith, is, next.not_before);
    nonzero = next.nonzero;
    zeros_between = λ j after earlier. elim (dec_lt j from) [
      | yes first ↦ before j after (omega (arith, is))
      | no later ↦ next.zeros_between j (omega arith) earlier
    ];
  }

  pub none_in_word : AreZerosBetween numbers start (k * 64) → AreZerosBetween numbers from ((from / 64 + 1) * 64) →
      AreZerosBetween numbers start ((k + 1) * 64)
  none_in_word before zeros = λ j after earlier. elim (dec_lt j from) [
    | yes first ↦ before j after (omega (arith, is))
    | no later ↦ zeros j (omega arith) (omega (arith, stands_in_word))
  ]

-- no word is left
pub none_in_all : (numbers : List ℕ) (start k : ℕ) → AreZerosBetween numbers start (k * 64) → length numbers ≤ k * 64 → AreZerosFrom numbers start
none_in_all numbers start k zeros all = λ j from. elim (dec_lt j (k * 64)) [
  | yes inside ↦ zeros j from inside
  | no outside ↦ get_or_past numbers j 0 (omega arith)
]

-- ---- the words of supports

-- digits modulo 2 are their own support
pub support_of_bits : (numbers : List ℕ) (k word : ℕ) → ((i : ℕ) → i < 64 → bit_at word i ≡ get_or numbers (k * 64 + i) 0) → IsSupportWord numbers k word
support_of_bits numbers k word bit = λ i low. (λ none. sym (bit i low) ∙ none, λ none. bit i low ∙ none)

-- where the numbers are sums of bits of two words
pub support_of_both : (numbers : List ℕ) (k one two : ℕ) →
    ((i : ℕ) → i < 64 → get_or numbers (k * 64 + i) 0 ≡ bit_at one i + 2 * bit_at two i) → IsSupportWord numbers k (bit_or one two)
support_of_both numbers k one two sum = λ i low.
    let bit = bit_at_or one two i in
    (λ none. omega (arith, none, bit, sum i low), λ none. omega (arith, none, bit, sum i low))

-- where they are 0 exactly where the numbers of three lists are
pub support_of_three : (numbers a b c : List ℕ) (k u v w : ℕ) →
    ((e : ℕ) → get_or numbers e 0 ≡ 0 ↔ get_or a e 0 + (get_or b e 0 + get_or c e 0) ≡ 0) →
    IsSupportWord a k u → IsSupportWord b k v → IsSupportWord c k w → IsSupportWord numbers k (bit_or (bit_or u v) w)
support_of_three numbers a b c k u v w same hu hv hw = λ i low.
    let e = k * 64 + i in
    let two = bit_at_or u v i in
    let three = bit_at_or (bit_or u v) w i in (
      λ none.
          let one : get_or a e 0 ≡ 0 = (hu i low).0 (omega (arith, none, two, three)) in
          let other : get_or b e 0 ≡ 0 = (hv i low).0 (omega (arith, none, two, three)) in
          let last : get_or c e 0 ≡ 0 = (hw i low).0 (omega (arith, none, three)) in
          (same e).1 (omega (arith, one, other, last)),
      λ none.
          let sum = (same e).0 none in
          omega (arith, two, three, (hu i low).1 (omega (arith, sum)), (hv i low).1 (omega (arith, sum)), (hw i low).1 (omega (arith, sum))),
    )

-- ---- restricted lists

pub length-restricted : (support entries : List ℕ) → length (restricted support entries) ≡ length entries
unfolding restricted
length-restricted support entries = listed_length (length entries) _

-- a restricted list is 0 exactly where one of both is
restricted_at : (support entries : List ℕ) (e : ℕ) → e < length entries →
    get_or (restricted support entries) e 0 ≡ cond (eqb (get_or support e 0) 0) 0 (get_or entries e 0)
unfolding restricted
restricted_at support entries e inside = listed_at (length entries) _ e 0 inside

pub restricted_away : (support entries : List ℕ) (e : ℕ) → get_or support e 0 ≡ 0 → get_or (restricted support entries) e 0 ≡ 0
restricted_away support entries e none = elim (dec_lt e (length entries)) [
  | yes inside ↦ restricted_at support entries e inside ∙ ap (λ t. cond t 0 (get_or entries e 0)) (eq-eqb (get_or support e 0) 0 none)
  | no outside ↦ get_or_past (restricted support entries) e 0 (omega (arith, length-restricted support entries))
]

pub restricted_to : (support entries : List ℕ) (e : ℕ) → get_or support e 0 ≢ 0 → get_or (restricted support entries) e 0 ≡ get_or entries e 0
restricted_to support entries e some = elim (dec_lt e (length entries)) [
  | yes inside ↦ restricted_at support entries e inside ∙ ap (λ t. cond t 0 (get_or entries e 0)) (ne_eqb (get_or support e 0) 0 some)
  | no outside ↦
      get_or_past (restricted support entries) e 0 (omega (arith, length-restricted support entries))
      ∙ sym (get_or_past entries e 0 (omega arith))
]

-- its support is that of both
pub support_of_restricted : (support entries : List ℕ) (k u v : ℕ) → IsSupportWord entries k u →
    ((i : ℕ) → i < 64 → bit_at v i ≡ get_or support (k * 64 + i) 0) → IsSupportWord (restricted support entries) k (bit_and u v)
support_of_restricted support entries k u v first bit = λ i low.
    let e = k * 64 + i in
    let both = bit_at_and u v i in
    let small = bit_at-lt u i in
    elim (cases_eq (get_or support e 0) 0) [
      | inl none ↦ (λ _. restricted_away support entries e none, λ _. omega (arith, both, bit i low, none))
      | inr some ↦
          let same = restricted_to support entries e some in
          let one : bit_at v i ≡ 1 = omega (arith, bit i low, bit_at-lt v i, some) in (
            λ zero. same ∙ (first i low).0 (omega (arith, both, one, small, zero)),
            λ zero. omega (arith, both, (first i low).1 (sym same ∙ zero)),
          )
    ]
