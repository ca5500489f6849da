-- Blocks of 64 entries that are written to rows.
use Rattle.std.proofs.Common.{◌≡◌, ◌≢◌, ◌⊎◌, ℕ, ◌+◌, ◌*◌, ◌/◌, ◌%◌, ◌<◌, ◌≤◌, List, [], ◌∷◌, length, get_or, map, cond, refl, sym, ap, ap₂, subst, ◌∙◌, arith, inl, inr, lit<}
use Rattle.std.specs.List.{All}
use Rattle.std.specs.Int.{bit_at}
use Rattle.std.proofs.lemmas.Bool.{cases_eq, cases_lt, lt-ltb, le-ltb}
use Rattle.std.proofs.lemmas.Nat.Bits.{bit_at-zero}
use Rattle.std.proofs.lemmas.List.{ext_get_or, get_or_past, get_or-map, length-map}
use native.Mathlib.Decide.{dec_lt}
use Rattle.axe_field.specs.Order.{Order, Two, Three, Four, Five, Seven, Eight, Nine, IsElement, order_number, prime_of, degree_of}
use Rattle.axe_field.specs.Planes.{coefficient, element_of}
use Rattle.axe_field.proofs.CoefficientLaws.{coefficient-below, element_of-coefficients}
use Rattle.axe_field.proofs.Orders.{zero_is_element}
use Rattle.axe_layer.specs.Words.{digit_of_words}
use Rattle.axe_layer.proofs.WordWrites.{get_or-digits_with_word_same, get_or-digits_with_word_other}
use Rattle.axe_row.specs.BitBlocks.{elements_of_block, low_at, weight_of, IsBlock}
use Rattle.axe_row.specs.EntryWords.{entries_in_word}
use Rattle.axe_row.specs.HeldRows.{HasBlock}
use Rattle.axe_row.specs.Planes.{coefficients_at}
use Rattle.axe_row.specs.Rows.{RowValue, IsRow}
use Rattle.axe_row.specs.Words.{HasWords}
use Rattle.axe_row.specs.declared.bit_block.BitBlock.{BitBlock}
use Rattle.axe_row.proofs.BlockElements.{element-at, high_at, length-block, number_at, weight-even, weight-three}
use Rattle.axe_row.proofs.BlockLaws.{entry_in_word}
use Rattle.axe_row.proofs.HeldLaws.{degree_over_three, entry_element, word_elements}
use Rattle.axe_row.proofs.RowLaws.{same_row}
use Rattle.axe_row.proofs.RowPlanes.{element_value}

-- ---- rows that are written block by block

pub record IsHeldBelow (n : ℕ) (held self : RowValue) : Type 0 where
  pub order : self.order ≡ held.order
  pub as_long : length self.entries ≡ length held.entries
  pub written : (e : ℕ) → e / 64 < n → get_or self.entries e 0 ≡ get_or held.entries e 0

pub IsHeldBelow-more : (n : ℕ) (held self next : RowValue) (block : BitBlock) → IsHeldBelow n held self → IsBlock held.order (entries_in_word held.entries n) block →
    HasBlock n block self next → IsHeldBelow (n + 1) held next
IsHeldBelow-more n held self next block h is has = record {
  order = has.order ∙ h.order;
  as_long = has.as_long ∙ h.as_long;
  written = λ e below. elim (cases_eq (e / 64) n) [
    | inl same ↦ elim (dec_lt e (length self.entries)) [
      | yes inside ↦
          let there : n * 64 + e % 64 ≡ e = omega (arith, same) in
          has.written e same inside ∙ ap (λ o. get_or (elements_of_block o block) (e % 64) 0) h.order
          ∙ ap (λ (xs : List ℕ). get_or xs (e % 64) 0) is.numbers ∙ entry_in_word held.entries n (e % 64) (omega arith)
          ∙ ap (λ j. get_or held.entries j 0) there
      | no past ↦
          get_or_past next.entries e 0 (omega (arith, past, has.as_long)) ∙ sym (get_or_past held.entries e 0 (omega (arith, past, h.as_long)))
    ]
    | inr other ↦ has.kept e other ∙ h.written e (omega (arith, below, other))
  ];
}

pub IsHeldBelow-all : (n : ℕ) (held self : RowValue) → IsHeldBelow n held self → (length held.entries + 63) / 64 ≤ n → self ≡ held
IsHeldBelow-all n held self h all =
    same_row self held h.order (ext_get_or 0 self.entries held.entries h.as_long (λ e inside. h.written e (omega (arith, inside, all, h.as_long))))

-- a block of a row that is over the same field has elements, each by the lower number that is below the weight
pub block_elements : (o : Order) (held : RowValue) (k : ℕ) (block : BitBlock) → o ≡ held.order → IsRow held →
    IsBlock held.order (entries_in_word held.entries k) block → All (IsElement o) (elements_of_block o block)
block_elements o held k block same row is =
    subst (λ q. All (IsElement q) (elements_of_block q block)) (sym same)
    (subst (All (IsElement held.order)) (sym is.numbers) (word_elements held.order held.entries k row.elements))

pub block_low : (o : Order) (held : RowValue) (k : ℕ) (block : BitBlock) → o ≡ held.order → IsBlock held.order (entries_in_word held.entries k) block →
    (i : ℕ) → i < 64 → low_at block i < weight_of o
block_low o held k block same is i low = subst (λ q. low_at block i < weight_of q) (sym same) (is.low i low)

-- ---- blocks that are written to a row

module _ (o : Order) (k : ℕ) (power : k < degree_of o) (entries : List ℕ) where
  coefficients_all : coefficients_at o k entries ≡ map (λ a. coefficient o a k) entries
  coefficients_all = ap (λ t. cond t (map (λ a. coefficient o a k) entries) []) (lt-ltb k (degree_of o) power)

  length-all : length (coefficients_at o k entries) ≡ length entries
  length-all = ap length coefficients_all ∙ length-map entries (λ a. coefficient o a k)

  coefficient-at : (e : ℕ) → e < length entries → get_or (coefficients_at o k entries) e 0 ≡ coefficient o (get_or entries e 0) k
  coefficient-at e inside =
      ap (λ (x : List ℕ). get_or x e 0) coefficients_all ∙ get_or-map (λ a. coefficient o a k) entries e 0 0 inside

-- there is no coefficient from the degree on
no_coefficient : (o : Order) (a k : ℕ) → IsElement o a → k < 3 → degree_of o ≤ k → coefficient o a k ≡ 0
no_coefficient o a k element small past =
    let below : coefficient o a k < 1 =
    subst (λ t. coefficient o a k < cond t (prime_of o) 1) (le-ltb k (degree_of o) past) (coefficient-below o a k element small) in
    omega (arith, below)

same_element : (o : Order) (a b : ℕ) → IsElement o a → IsElement o b → ((k : ℕ) → k < degree_of o → coefficient o a k ≡ coefficient o b k) → a ≡ b
same_element o a b ha hb same =
    sym (element_of-coefficients o a ha)
    ∙ ap (λ x. element_of o x (coefficient o a 1) (coefficient o a 2)) (at 0 (lit< tt))
    ∙ ap₂ (element_of o (coefficient o b 0)) (at 1 (lit< tt)) (at 2 (lit< tt)) ∙ element_of-coefficients o b hb
  where
    at : (k : ℕ) → k < 3 → coefficient o a k ≡ coefficient o b k
    at k small = elim (cases_lt k (degree_of o)) [
      | inl power ↦ same k power
      | inr past ↦ no_coefficient o a k ha small past ∙ sym (no_coefficient o b k hb small past)
    ]

-- the digits of two words are the coefficients of x^j of the entries in word k, and all others stay, as far as the field
-- has the power
record IsPut (o : Order) (j k : ℕ) (words : List ℕ) (before after : RowValue) : Type 0 where
  order : after.order ≡ before.order
  as_long : length after.entries ≡ length before.entries
  here : (e : ℕ) → j < degree_of o → e / 64 ≡ k → e < length before.entries → coefficient o (get_or after.entries e 0) j ≡ digit_of_words words (e % 64)
  away : (i e : ℕ) → i < degree_of o → e < length before.entries → (i ≢ j) ⊎ (e / 64 ≢ k) →
      coefficient o (get_or after.entries e 0) i ≡ coefficient o (get_or before.entries e 0) i

module _ (j k : ℕ) (words : List ℕ) (before after : RowValue) (power : j < degree_of before.order) (h : HasWords j k words before after) where
  abbrev o : Order
  o = before.order

  put_here : (e : ℕ) → e / 64 ≡ k → e < length before.entries → coefficient o (get_or after.entries e 0) j ≡ digit_of_words words (e % 64)
  put_here e same inside =
      sym (coefficient-at o j power after.entries e (omega (arith, inside, h.as_long))) ∙ ap (λ (x : List ℕ). get_or x e 0) h.written
      ∙ get_or-digits_with_word_same (coefficients_at o j before.entries) k (digit_of_words words) e 0 (omega (arith, inside, length-all o j power before.entries)) same

  put_elsewhere : (e : ℕ) → e / 64 ≢ k → e < length before.entries → coefficient o (get_or after.entries e 0) j ≡ coefficient o (get_or before.entries e 0) j
  put_elsewhere e other inside =
      sym (coefficient-at o j power after.entries e (omega (arith, inside, h.as_long))) ∙ ap (λ (x : List ℕ). get_or x e 0) h.written
      ∙ get_or-digits_with_word_other (coefficients_at o j before.entries) k (digit_of_words words) e 0 (omega (arith, inside, length-all o j power before.entries)) other
      ∙ coefficient-at o j power before.entries e inside

  put_other : (i e : ℕ) → i < degree_of o → i ≢ j → e < length before.entries → coefficient o (get_or after.entries e 0) i ≡ coefficient o (get_or before.entries e 0) i
  put_other i e has other inside =
      sym (coefficient-at o i has after.entries e (omega (arith, inside, h.as_long))) ∙ ap (λ (x : List ℕ). get_or x e 0) (h.kept i other)
      ∙ coefficient-at o i has before.entries e inside

  put_away : (i e : ℕ) → i < degree_of o → e < length before.entries → (i ≢ j) ⊎ (e / 64 ≢ k) →
      coefficient o (get_or after.entries e 0) i ≡ coefficient o (get_or before.entries e 0) i
  put_away i e has inside (inl other) = put_other i e has other inside
  put_away i e has inside (inr other) = elim (cases_eq i j) [
    | inl same ↦ subst (λ x. coefficient o (get_or after.entries e 0) x ≡ coefficient o (get_or before.entries e 0) x) (sym same) (put_elsewhere e other inside)
    | inr different ↦ put_other i e has different inside
  ]

-- words are written as far as the field has the power, as the code says it
pub record PutsWords (j k : ℕ) (words : List ℕ) (before after : RowValue) : Type 0 where
  pub written : j < degree_of before.order → HasWords j k words before after
  pub kept : degree_of before.order ≤ j → after ≡ before

is_put : (j k : ℕ) (words : List ℕ) (before after : RowValue) → PutsWords j k words before after → IsPut before.order j k words before after
is_put j k words before after h = elim (cases_lt j (degree_of before.order)) [
  | inl power ↦ record {
    order = (h.written power).order;
    as_long = (h.written power).as_long;
    here = λ e has. put_here j k words before after power (h.written power) e;
    away = put_away j k words before after power (h.written power);
  }
  | inr past ↦ record {
    order = ap (λ (r : RowValue). r.order) (h.kept past);
    as_long = ap (λ (r : RowValue). length r.entries) (h.kept past);
    here = λ e has. absurd (omega (arith, has, past));
    away = λ i e has inside other. ap (λ (r : RowValue). coefficient before.order (get_or r.entries e 0) i) (h.kept past);
  }
]

degree_positive : (o : Order) → 0 < degree_of o
degree_positive Two = lit< tt
degree_positive Three = lit< tt
degree_positive Four = lit< tt
degree_positive Five = lit< tt
degree_positive Seven = lit< tt
degree_positive Eight = lit< tt
degree_positive Nine = lit< tt

-- the digits of three pairs of words are the coefficients of the numbers of a block over a field
record AreCoefficients (o : Order) (block : BitBlock) (u v w : List ℕ) : Type 0 where
  number : (i : ℕ) → i < 64 → number_at o block i ≡ element_of o (digit_of_words u i) (digit_of_words v i) (digit_of_words w i)
  no_linear : (i : ℕ) → i < 64 → degree_of o ≤ 1 → digit_of_words v i ≡ 0
  no_square : (i : ℕ) → i < 64 → degree_of o ≤ 2 → digit_of_words w i ≡ 0

-- what is put, power by power, is the block
module _ (k : ℕ) (block : BitBlock) (u v w : List ℕ) (r0 r1 r2 r3 : RowValue) (are : AreCoefficients r0.order block u v w)
    (row0 : IsRow r0) (row3 : IsRow r3) (p0 : PutsWords 0 k u r0 r1) (p1 : PutsWords 1 k v r1 r2) (p2 : PutsWords 2 k w r2 r3) where
  abbrev base : Order
  base = r0.order

  first : IsPut base 0 k u r0 r1
  first = is_put 0 k u r0 r1 p0

  second : IsPut base 1 k v r1 r2
  second = subst (λ q. IsPut q 1 k v r1 r2) first.order (is_put 1 k v r1 r2 p1)

  third : IsPut base 2 k w r2 r3
  third = subst (λ q. IsPut q 2 k w r2 r3) (second.order ∙ first.order) (is_put 2 k w r2 r3 p2)

  last_order : r3.order ≡ base
  last_order = third.order ∙ second.order ∙ first.order

  element_after : (e : ℕ) → IsElement base (get_or r3.entries e 0)
  element_after e = entry_element base r3.entries (subst (λ q. All (IsElement q) r3.entries) last_order row3.elements) e 0 (zero_is_element base)

  block_written : (e : ℕ) → e / 64 ≡ k → e < length r0.entries → get_or r3.entries e 0 ≡ get_or (elements_of_block base block) (e % 64) 0
  block_written e same inside =
      let in1 : e < length r1.entries = omega (arith, inside, first.as_long) in
      let in2 : e < length r2.entries = omega (arith, in1, second.as_long) in
      let i : ℕ = e % 64 in
      let low : i < 64 = omega arith in
      let a : ℕ = get_or r3.entries e 0 in
      let c : coefficient base a 0 ≡ digit_of_words u i =
      third.away 0 e (degree_positive base) in2 (inl (λ x. omega (arith, x)))
      ∙ second.away 0 e (degree_positive base) in1 (inl (λ x. omega (arith, x))) ∙ first.here e (degree_positive base) same inside in
      let l : coefficient base a 1 ≡ digit_of_words v i = elim (cases_lt 1 (degree_of base)) [
        | inl power ↦ third.away 1 e power in2 (inl (λ x. omega (arith, x))) ∙ second.here e power same in1
        | inr past ↦ no_coefficient base a 1 (element_after e) (lit< tt) past ∙ sym (are.no_linear i low past)
      ] in
      let q : coefficient base a 2 ≡ digit_of_words w i = elim (cases_lt 2 (degree_of base)) [
        | inl power ↦ third.here e power same in2
        | inr past ↦ no_coefficient base a 2 (element_after e) (lit< tt) past ∙ sym (are.no_square i low past)
      ] in
      sym (element_of-coefficients base a (element_after e))
      ∙ ap (λ x. element_of base x (coefficient base a 1) (coefficient base a 2)) c
      ∙ ap₂ (element_of base (digit_of_words u i)) l q
      ∙ sym (are.number i low) ∙ sym (element-at base block i low)

  block_kept : (e : ℕ) → e / 64 ≢ k → get_or r3.entries e 0 ≡ get_or r0.entries e 0
  block_kept e other = elim (dec_lt e (length r0.entries)) [
    | yes inside ↦
        let in1 : e < length r1.entries = omega (arith, inside, first.as_long) in
        let in2 : e < length r2.entries = omega (arith, in1, second.as_long) in
        same_element base (get_or r3.entries e 0) (get_or r0.entries e 0) (element_after e) (entry_element base r0.entries row0.elements e 0 (zero_is_element base))
        (λ i power. third.away i e power in2 (inr other) ∙ second.away i e power in1 (inr other) ∙ first.away i e power inside (inr other))
    | no past ↦
        get_or_past r3.entries e 0 (omega (arith, past, third.as_long, second.as_long, first.as_long)) ∙ sym (get_or_past r0.entries e 0 (omega (arith, past)))
  ]

  block_put : HasBlock k block r0 r3
  block_put = record {
    order = last_order;
    as_long = third.as_long ∙ second.as_long ∙ first.as_long;
    written = block_written;
    kept = block_kept;
  }

-- ---- the coefficients of the numbers of a block

-- a number of a field of characteristic 2 has the bits of its coefficients, and no others
record AreBits (o : Order) (a b c d : ℕ) : Type 0 where
  no_linear : degree_of o ≤ 1 → b ≡ 0
  no_square : degree_of o ≤ 2 → c ≡ 0
  no_cube : d ≡ 0

are_bits : (o : Order) (a b c d : ℕ) → prime_of o ≡ 2 → a + 2 * b + 4 * (c + 2 * d) < order_number o → AreBits o a b c d
are_bits Two a b c d two small = record {
  no_linear = λ low. omega (arith, small);
  no_square = λ low. omega (arith, small);
  no_cube = omega (arith, small);
}
are_bits Three a b c d two small = absurd (omega (arith, two))
are_bits Four a b c d two small = record {
  no_linear = λ low. absurd (omega (arith, low));
  no_square = λ low. omega (arith, small);
  no_cube = omega (arith, small);
}
are_bits Five a b c d two small = absurd (omega (arith, two))
are_bits Seven a b c d two small = absurd (omega (arith, two))
are_bits Eight a b c d two small = record {
  no_linear = λ low. absurd (omega (arith, low));
  no_square = λ low. absurd (omega (arith, low));
  no_cube = omega (arith, small);
}
are_bits Nine a b c d two small = absurd (omega (arith, two))

-- a number of a field of characteristic 3 has two coefficients modulo 3
record AreTrits (o : Order) (low high : ℕ) : Type 0 where
  no_high : degree_of o ≤ 1 → high ≡ 0
  small : high < 3

are_trits : (o : Order) (low high : ℕ) → prime_of o ≡ 3 → low + 3 * high < order_number o → AreTrits o low high
are_trits Two low high three small = absurd (omega (arith, three))
are_trits Three low high three small = record { no_high = λ _. omega (arith, small); small = omega (arith, small) }
are_trits Four low high three small = absurd (omega (arith, three))
are_trits Five low high three small = absurd (omega (arith, three))
are_trits Seven low high three small = absurd (omega (arith, three))
are_trits Eight low high three small = absurd (omega (arith, three))
are_trits Nine low high three small = record { no_high = λ past. absurd (omega (arith, past)); small = omega (arith, small) }

module _ (o : Order) (block : BitBlock) (all : All (IsElement o) (elements_of_block o block)) where
  number_small : (i : ℕ) → i < 64 → number_at o block i < order_number o
  number_small i low =
      subst (IsElement o) (element-at o block i low) (all i 0 (omega (arith, low, length-block o block)))

  weighted_small : (w i : ℕ) → weight_of o ≡ w → i < 64 → low_at block i + w * high_at block i < order_number o
  weighted_small w i is low = subst (λ x. low_at block i + x * high_at block i < order_number o) is (number_small i low)

  module _ (two : prime_of o ≡ 2) where
    bits_at : (i : ℕ) → i < 64 → AreBits o (bit_at block.ones i) (bit_at block.twos i) (bit_at block.high_ones i) (bit_at block.high_twos i)
    bits_at i low = are_bits o _ _ _ _ two (weighted_small 4 i (weight-even o two) low)

    bit_coefficients : AreCoefficients o block (block.ones ∷ 0 ∷ []) (block.twos ∷ 0 ∷ []) (block.high_ones ∷ 0 ∷ [])
    bit_coefficients = record {
      number = λ i low.
          let is : number_at o block i ≡ low_at block i + 4 * high_at block i = ap (λ x. low_at block i + x * high_at block i) (weight-even o two) in
          let c : ℕ = digit_of_words (block.ones ∷ 0 ∷ []) i in
          let l : ℕ = digit_of_words (block.twos ∷ 0 ∷ []) i in
          let q : ℕ = digit_of_words (block.high_ones ∷ 0 ∷ []) i in
          let value : c + prime_of o * (l + prime_of o * q) ≡ c + 2 * (l + 2 * q) = ap (λ p. c + p * (l + p * q)) two in
          let same : low_at block i + 4 * high_at block i ≡ c + 2 * (l + 2 * q) = omega (arith, bit_at-zero i, (bits_at i low).no_cube) in
          is ∙ same ∙ sym value ∙ sym (element_value o c l q);
      no_linear = λ i low past. omega (arith, bit_at-zero i, (bits_at i low).no_linear past);
      no_square = λ i low past. omega (arith, bit_at-zero i, (bits_at i low).no_square past);
    }

  module _ (three : prime_of o ≡ 3) where
    trits_in : (i : ℕ) → i < 64 → AreTrits o (low_at block i) (high_at block i)
    trits_in i low = are_trits o _ _ three (weighted_small 3 i (weight-three o three) low)

    high_is_trit : (i : ℕ) → i < 64 → high_at block i < 3
    high_is_trit i low = (trits_in i low).small

    trit_coefficients : AreCoefficients o block (block.ones ∷ block.twos ∷ []) (block.high_ones ∷ block.high_twos ∷ []) (0 ∷ 0 ∷ [])
    trit_coefficients = record {
      number = λ i low.
          let is : number_at o block i ≡ low_at block i + 3 * high_at block i = ap (λ x. low_at block i + x * high_at block i) (weight-three o three) in
          let q : ℕ = digit_of_words (0 ∷ 0 ∷ []) i in
          let value : low_at block i + prime_of o * (high_at block i + prime_of o * q) ≡ low_at block i + 3 * (high_at block i + 3 * q) =
          ap (λ p. low_at block i + p * (high_at block i + p * q)) three in
          let same : low_at block i + 3 * high_at block i ≡ low_at block i + 3 * (high_at block i + 3 * q) = omega (arith, bit_at-zero i) in
          is ∙ same ∙ sym value ∙ sym (element_value o (low_at block i) (high_at block i) q);
      no_linear = λ i low past. (trits_in i low).no_high past;
      no_square = λ i low past. omega (arith, bit_at-zero i);
    }

-- over a field of characteristic 3 there is no power of x from x^2 on, so the row stays as it is there
no_square_put : (k : ℕ) (r : RowValue) → prime_of r.order ≡ 3 → PutsWords 2 k (0 ∷ 0 ∷ []) r r
no_square_put k r three = record {
  written = λ power. absurd (omega (arith, degree_over_three r.order three, power));
  kept = λ past. refl;
}

pub trits_put : (k : ℕ) (block : BitBlock) (r0 r1 r2 : RowValue) → prime_of r0.order ≡ 3 → All (IsElement r0.order) (elements_of_block r0.order block) →
    IsRow r0 → IsRow r2 → PutsWords 0 k (block.ones ∷ block.twos ∷ []) r0 r1 →
    PutsWords 1 k (block.high_ones ∷ block.high_twos ∷ []) r1 r2 → HasBlock k block r0 r2
trits_put k block r0 r1 r2 three all row0 row2 p0 p1 =
    let same : r2.order ≡ r0.order = (is_put 1 k _ r1 r2 p1).order ∙ (is_put 0 k _ r0 r1 p0).order in
    block_put k block _ _ (0 ∷ 0 ∷ []) r0 r1 r2 r2 (trit_coefficients r0.order block all three) row0 row2 p0 p1
    (no_square_put k r2 (ap prime_of same ∙ three))

pub bits_put : (k : ℕ) (block : BitBlock) (r0 r1 r2 r3 : RowValue) → prime_of r0.order ≡ 2 → All (IsElement r0.order) (elements_of_block r0.order block) →
    IsRow r0 → IsRow r3 → PutsWords 0 k (block.ones ∷ 0 ∷ []) r0 r1 → PutsWords 1 k (block.twos ∷ 0 ∷ []) r1 r2 →
    PutsWords 2 k (block.high_ones ∷ 0 ∷ []) r2 r3 → HasBlock k block r0 r3
bits_put k block r0 r1 r2 r3 two all row0 row3 =
    block_put k block _ _ _ r0 r1 r2 r3 (bit_coefficients r0.order block all two) row0 row3

-- the coefficients of x are digits
pub high_digits : (k i : ℕ) (block : BitBlock) (r0 r1 : RowValue) → prime_of r0.order ≡ 3 → All (IsElement r0.order) (elements_of_block r0.order block) →
    PutsWords 0 k (block.ones ∷ block.twos ∷ []) r0 r1 → i < 64 →
    digit_of_words (block.high_ones ∷ block.high_twos ∷ []) i < prime_of r1.order
high_digits k i block r0 r1 three all p0 low =
    omega (arith, high_is_trit r0.order block all three i low, three, ap prime_of (is_put 0 k _ r0 r1 p0).order)
