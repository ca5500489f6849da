-- Blocks of 64 entries: those of rows, the next entry and the places of an element in them, and over fields of
-- characteristic 2 the sums of blocks.
use Rattle.std.proofs.Common.{◌≡◌, ◌≢◌, ℕ, zero, suc, ◌+◌, ◌-◌, ◌*◌, ◌/◌, ◌%◌, ◌^◌, ◌<◌, ◌≤◌, List, [], ◌∷◌, length, get_or, cond, ltb, eqb, inl, inr, refl, sym, ap, ap₂, subst, ◌∙◌, arith, lit<, add-one}
use Rattle.std.specs.List.{All}
use Rattle.std.specs.Int.{bit_at, w64}
use Rattle.std.specs.Int.RustNames.{bit_or, bit_xor}
use Rattle.std.specs.Int.Bits.{bit_and}
use Rattle.std.specs.Simd.Lanes.{zip2}
use Rattle.std.proofs.lemmas.Bool.{cases_eq, eq-eqb, lt-ltb, le-ltb, ne_eqb}
use Rattle.std.proofs.lemmas.List.{get_or_past}
use Rattle.std.proofs.lemmas.List.Elements.{All-get_or, All-nil}
use Rattle.std.proofs.lemmas.Nat.Bits.{bit_at-lt, bit_at-zero, bit_at_and, bit_at_not, bit_at_mask_inside, bit_at_mask_below, ones_shl}
use native.Mathlib.Decide.{dec_lt}
use Rattle.axe_algebra.proofs.ListEntries.{listed_length, listed_at}
use Rattle.axe_bits.proofs.MaskedBits.{mask_stands, bits-two, bits-three}
use Rattle.axe_bits.specs.Combinations.{digits_with_multiples}
use Rattle.axe_field.specs.NumberFields.{number_field}
use Rattle.axe_field.specs.Order.{Order, Two, Three, Four, Five, Seven, Eight, Nine, order_number, prime_of, IsElement}
use Rattle.axe_lane.specs.Entries.{AreZerosBetween, AreZerosFrom, IsNextNonzero}
use Rattle.axe_lane.specs.Multiples.{to_constant_of_two, to_linear_of_two, to_constant_of_three, to_linear_of_three, to_quadratic_of_three}
use Rattle.axe_lane.specs.Words.{masks_of, masked_sum_of_two, masked_sum_of_three}
use Rattle.axe_layer.specs.Bits.{bits, HoldsBits}
use Rattle.axe_layer.specs.Digits.{digits_with_multiple}
use Rattle.axe_layer.specs.Supports.{restricted, IsSupportWord}
use Rattle.axe_layer.specs.Words.{digit_of_words}
use Rattle.axe_layer.proofs.BitLaws.{length-bits, get_or-bits, bit_of-word, bit_of-past, bits-xor, AreDigits-bits}
use Rattle.axe_layer.proofs.SupportLaws.{length-restricted, none_in_all, support_of_restricted}
use Rattle.axe_plane.specs.Planes.{digits_of, IsPlane, IsPlaneOf}
use Rattle.axe_plane.specs.declared.Plane.{Plane}
use Rattle.axe_plane.specs.declared.Plane.TheVariants.{Bits}
use Rattle.axe_row.specs.BitBlocks.{bits_of_word, bits_after, elements_of_block, low_at, weight_of, IsBlock}
use Rattle.axe_row.specs.EntryWords.{entries_in_word, IsWeight}
use Rattle.axe_row.specs.Operations.{sum_with_multiple}
use Rattle.axe_row.specs.Planes.{ArePlanes}
use Rattle.axe_row.specs.Rows.{RowValue}
use Rattle.axe_row.specs.declared.bit_block.BitBlock.{BitBlock}
use Rattle.axe_row.proofs.AddedPlanes.{row_with_two, row_with_three}
use Rattle.axe_row.proofs.BlockElements.{high_at, length-block, element-at, elements-are, even-number, even-block, trit-block, weight-even, weight-is}
use Rattle.axe_row.proofs.EntryWordLaws.{plane_number-below, same_numbers, support_of_weighted}
use Rattle.axe_row.proofs.NextEntries.{entry_is, no_squares}
use Rattle.axe_row.proofs.PrimeRows.{prime_entries_sum}
use Rattle.axe_row.proofs.RowPlanes.{entries_of, length-entries, with_length}

-- the lower number of a block is made of two bits
pub below_four : (block : BitBlock) (i : ℕ) → low_at block i < 4
below_four block i = omega (arith, bit_at-lt block.ones i, bit_at-lt block.twos i)

-- ---- the block of a row

-- a plane of no digits has zeros
pub nothing_held : (plane : Plane) (e i : ℕ) → length (digits_of plane) ≡ 0 → bit_at 0 i ≡ get_or (digits_of plane) e 0
nothing_held plane e i none = bit_at-zero i ∙ sym (get_or_past (digits_of plane) e 0 (omega (arith, none)))

-- a prime is at most what the higher number counts
prime-within : (o : Order) → prime_of o ≤ 3 → prime_of o ≤ weight_of o
prime-within Two small = omega arith
prime-within Three small = omega arith
prime-within Four small = omega arith
prime-within Five small = absurd (omega (arith, small))
prime-within Seven small = absurd (omega (arith, small))
prime-within Eight small = omega arith
prime-within Nine small = omega arith

-- a number whose higher coefficients are 0
alone_number : (p a b d : ℕ) → b ≡ 0 → d ≡ 0 → a + p * (b + p * d) ≡ a
alone_number p a b d eb ed = rw (eb, ed) (omega arith)

none_higher : (w x y : ℕ) → y ≡ 0 → x + w * y ≡ x
none_higher w x y e = rw e (omega arith)

module _ (o : Order) (c l q : Plane) (self : RowValue) (h : ArePlanes o (length (digits_of c)) c l q)
    (self_is : record { order = o; entries = entries_of o c l q } ≡ self) (k : ℕ) (block : BitBlock) where
  long : length (entries_in_word self.entries k) ≡ 64
  long = listed_length 64 (λ i. get_or self.entries (k * 64 + i) 0)

  entry_there : (i : ℕ) → i < 64 → get_or self.entries (k * 64 + i) 0 ≡ get_or (entries_in_word self.entries k) i 0
  entry_there i low = sym (listed_at 64 (λ j. get_or self.entries (k * 64 + j) 0) i 0 low)

  of_row : IsBlock o (entries_in_word self.entries k) block → IsBlock self.order (entries_in_word self.entries k) block
  of_row = subst (λ p. IsBlock p (entries_in_word self.entries k) block) (ap (λ (r : RowValue). r.order) self_is)

  -- over a field of characteristic 2
  pub bit_block_of_planes : prime_of o ≡ 2 → ((i : ℕ) → i < 64 → bit_at block.ones i ≡ get_or (digits_of c) (k * 64 + i) 0) →
      ((i : ℕ) → i < 64 → bit_at block.twos i ≡ get_or (digits_of l) (k * 64 + i) 0) →
      ((i : ℕ) → i < 64 → bit_at block.high_ones i ≡ get_or (digits_of q) (k * 64 + i) 0) →
      ((i : ℕ) → i < 64 → bit_at block.high_twos i ≡ 0) → IsBlock self.order (entries_in_word self.entries k) block
  bit_block_of_planes two hc hl hq none =
      of_row (even-block o block (entries_in_word self.entries k) two long (λ i low.
      omega (arith, hc i low, hl i low, hq i low, none i low, entry_is o c l q self h self_is 2 (k * 64 + i) (h.constant.prime ∙ two)) ∙ entry_there i low)
      (λ i low. below_four block i))

  -- over a field of characteristic 3
  pub trit_block_of_planes : prime_of o ≡ 3 → ((i : ℕ) → i < 64 → low_at block i ≡ get_or (digits_of c) (k * 64 + i) 0) →
      ((i : ℕ) → i < 64 → high_at block i ≡ get_or (digits_of l) (k * 64 + i) 0) → IsBlock self.order (entries_in_word self.entries k) block
  trit_block_of_planes three hc hl =
      of_row (trit-block o block (entries_in_word self.entries k) three long (λ i low.
      let none = get_or_past (digits_of q) (k * 64 + i) 0 (omega (arith, h.quadratic.long, no_squares o (length (digits_of c)) three)) in
      omega (arith, hc i low, hl i low, none, entry_is o c l q self h self_is 3 (k * 64 + i) (h.constant.prime ∙ three)) ∙ entry_there i low)
      (λ i low. plane_number-below o 3 _ c (k * 64 + i) (low_at block i) three h.constant (hc i low)))

  -- over a prime field
  pub block_of_one_plane : prime_of o ≤ 3 → length (digits_of l) ≡ 0 → length (digits_of q) ≡ 0 →
      ((i : ℕ) → i < 64 → low_at block i ≡ get_or (digits_of c) (k * 64 + i) 0) → ((i : ℕ) → i < 64 → high_at block i ≡ 0) →
      IsBlock self.order (entries_in_word self.entries k) block
  block_of_one_plane small no_l no_q hc none = of_row (record {
    numbers = elements-are o block (entries_in_word self.entries k) long (λ i low.
        let e = k * 64 + i in
        let first = get_or_past (digits_of l) e 0 (omega (arith, no_l)) in
        let second = get_or_past (digits_of q) e 0 (omega (arith, no_q)) in
        none_higher (weight_of o) (low_at block i) (high_at block i) (none i low) ∙ hc i low
        ∙ sym (entry_is o c l q self h self_is (prime_of o) e h.constant.prime ∙ alone_number (prime_of o) _ _ _ first second)
        ∙ entry_there i low);
    low = λ i low.
        let below : low_at block i < prime_of o = plane_number-below o (prime_of o) _ c (k * 64 + i) (low_at block i) refl h.constant (hc i low) in
        omega (arith, below, prime-within o small);
  })

-- the first one of two words of a digit modulo 2
pub bit_of_plane : (o : Order) (n : ℕ) (plane : Plane) (words : List ℕ) (e i : ℕ) → prime_of o ≡ 2 → IsPlaneOf (prime_of o) n plane →
    digit_of_words words i ≡ get_or (digits_of plane) e 0 → bit_at (get_or words 0 0) i ≡ get_or (digits_of plane) e 0
bit_of_plane o n plane words e i two h is =
    let small = plane_number-below o 2 n plane e (digit_of_words words i) two h is in
    omega (arith, is, small, bit_at-lt (get_or words 0 0) i, bit_at-lt (get_or words 1 0) i)

-- ---- the next entry of a block

module _ (o : Order) (block : BitBlock) (places : ℕ) where
  pub support_of_block : IsSupportWord (restricted (bits_of_word places) (elements_of_block o block)) 0
      (bit_and (bit_or (bit_or (bit_or block.ones block.twos) block.high_ones) block.high_twos) places)
  support_of_block =
      support_of_restricted (bits_of_word places) (elements_of_block o block) 0 _ places
      (support_of_weighted block.ones block.twos block.high_ones block.high_twos (weight_of o) (weight-is o)) (λ i low.
      let here : 0 * 64 + i ≡ i = omega arith in
      sym (ap (λ j. get_or (bits_of_word places) j 0) here ∙ listed_at 64 (bit_at places) i 0 low))

  long_support : length (restricted (bits_of_word places) (elements_of_block o block)) ≡ 64
  long_support = length-restricted (bits_of_word places) (elements_of_block o block) ∙ length-block o block

  pub none_in_block : AreZerosBetween (restricted (bits_of_word places) (elements_of_block o block)) 0 64 →
      AreZerosFrom (restricted (bits_of_word places) (elements_of_block o block)) 0
  none_in_block zeros = none_in_all (restricted (bits_of_word places) (elements_of_block o block)) 0 1 zeros (omega (arith, long_support))

  pub place_in_block : (place : ℕ) → IsNextNonzero (restricted (bits_of_word places) (elements_of_block o block)) 0 place → place < 64
  place_in_block place next = omega (arith, next.within, long_support)

-- the mask of the places after a place
mask_after : (p : ℕ) → p < 64 → 18446744073709551614 * 2 ^ p % 18446744073709551616 ≡ 2 ^ 64 - 2 ^ (p + 1)
mask_after p low =
    let twice : 2 ^ (p + 1) ≡ 2 * 2 ^ p = rw (add-one p) (omega arith) in
    let same : 18446744073709551614 * 2 ^ p % 18446744073709551616 ≡ 18446744073709551615 * 2 ^ (p + 1) % 18446744073709551616 = omega (arith, twice) in
    same ∙ ones_shl 64 (p + 1) (omega (arith, low))

bit_after : (w p i : ℕ) → p < 64 → i < 64 →
    bit_at (bit_and w (18446744073709551614 * 2 ^ p % 18446744073709551616)) i ≡ cond (ltb p i) (bit_at w i) 0
bit_after w p i inside low = elim (dec_lt p i) [
  | yes past ↦
      let mask = ap (λ m. bit_at m i) (mask_after p inside) ∙ bit_at_mask_inside (p + 1) 64 i (omega (arith, past)) low in
      bit_at_and w _ i ∙ omega (arith, mask, bit_at-lt w i) ∙ sym (ap (λ b. cond b (bit_at w i) 0) (lt-ltb p i past))
  | no here ↦
      let mask = ap (λ m. bit_at m i) (mask_after p inside) ∙ bit_at_mask_below (p + 1) 64 i (omega (arith, here)) in
      bit_at_and w _ i ∙ omega (arith, mask) ∙ sym (ap (λ b. cond b (bit_at w i) 0) (le-ltb p i (omega (arith, here))))
]

pub bits_left : (w p : ℕ) → p < 64 → bits_of_word (bit_and w (18446744073709551614 * 2 ^ p % 18446744073709551616)) ≡ bits_after w p
bits_left w p inside = same_numbers _ _ (λ i low. bit_after w p i inside low)

-- ---- the places of an element

-- a number below a weight and another one, which that weight counts, are the remainder and the quotient of the number
-- that they make
abbrev PartsOf : ℕ → Type 0
PartsOf w = (x y e : ℕ) → x < w → x + w * y ≡ e → (x ≡ e % w) × (y ≡ e / w)

parts : (w : ℕ) → IsWeight w → PartsOf w
parts w (inl three) = subst PartsOf (sym three) (λ x y e small is. (omega (arith, small, is), omega (arith, small, is)))
parts w (inr four) = subst PartsOf (sym four) (λ x y e small is. (omega (arith, small, is), omega (arith, small, is)))

whole : (w e : ℕ) → IsWeight w → e % w + w * (e / w) ≡ e
whole w e (inl three) = rw three (omega arith)
whole w e (inr four) = rw four (omega arith)

pub lower-small : (w e : ℕ) → IsWeight w → e % w / 2 < 2
lower-small w e (inl three) = rw three (omega arith)
lower-small w e (inr four) = rw four (omega arith)

pub upper-small : (w e : ℕ) → IsWeight w → e < 9 → e / w / 2 < 2
upper-small w e (inl three) small = rw three (omega (arith, small))
upper-small w e (inr four) small = rw four (omega (arith, small))

-- the mark of a place at which two numbers are equal
mark-equal : (m u v : ℕ) → m ≡ cond (eqb u v) 1 0 → u ≡ v → m ≡ 1
mark-equal m u v is same = is ∙ ap (λ b. cond b 1 0) (eq-eqb u v same)

mark-one : (m u v : ℕ) → m ≡ cond (eqb u v) 1 0 → m ≡ 1 → u ≡ v
mark-one m u v is one = elim (cases_eq u v) [
  | inl same ↦ same
  | inr other ↦ absurd (omega (arith, one, is ∙ ap (λ b. cond b 1 0) (ne_eqb u v other)))
]

-- the bits of the other word mark the places of zeros
pub zeros_marked : (word bit i : ℕ) → word < 2 ^ 64 → bit < 2 → bit ≢ 1 → i < 64 →
    bit_at (18446744073709551615 - word) i ≡ cond (eqb (bit_at word i) bit) 1 0
zeros_marked word bit i fits small other low = elim (cases_eq (bit_at word i) bit) [
  | inl same ↦ bit_at_not w64 word i fits low ∙ omega (arith, same, small, other) ∙ sym (ap (λ b. cond b 1 0) (eq-eqb (bit_at word i) bit same))
  | inr away ↦
      let none : 1 - bit_at word i ≡ 0 = omega (arith, away, small, other, bit_at-lt word i) in
      bit_at_not w64 word i fits low ∙ none ∙ sym (ap (λ b. cond b 1 0) (ne_eqb (bit_at word i) bit away))
]

-- the marks of the four bits of a number below 9, together: those of the number
module _ (o : Order) (block : BitBlock) (element w : ℕ) (entries : List ℕ) (w_is : w ≡ weight_of o) (weight : IsWeight w)
    (h : IsBlock o entries block) (i : ℕ) (low : i < 64) (a b c d : ℕ)
    (ha : bit_at a i ≡ cond (eqb (bit_at block.ones i) (element % w % 2)) 1 0)
    (hb : bit_at b i ≡ cond (eqb (bit_at block.twos i) (element % w / 2)) 1 0)
    (hc : bit_at c i ≡ cond (eqb (bit_at block.high_ones i) (element / w % 2)) 1 0)
    (hd : bit_at d i ≡ cond (eqb (bit_at block.high_twos i) (element / w / 2)) 1 0) where
  entry_made : get_or entries i 0 ≡ low_at block i + w * high_at block i
  entry_made =
      ap (λ (xs : List ℕ). get_or xs i 0) (sym h.numbers) ∙ element-at o block i low
      ∙ ap (λ v. low_at block i + v * high_at block i) (sym w_is)

  -- all four are marked exactly where the number is that
  all_marked : get_or entries i 0 ≡ element → bit_at (bit_and (bit_and (bit_and a b) c) d) i ≡ 1
  all_marked same =
      let p = parts w weight (low_at block i) (high_at block i) element (omega (arith, h.low i low, w_is)) (sym entry_made ∙ same) in
      let one = mark-equal (bit_at a i) _ _ ha (omega (arith, p.0, bit_at-lt block.ones i, bit_at-lt block.twos i)) in
      let two = mark-equal (bit_at b i) _ _ hb (omega (arith, p.0, bit_at-lt block.ones i, bit_at-lt block.twos i)) in
      let three = mark-equal (bit_at c i) _ _ hc (omega (arith, p.1, bit_at-lt block.high_ones i, bit_at-lt block.high_twos i)) in
      let four = mark-equal (bit_at d i) _ _ hd (omega (arith, p.1, bit_at-lt block.high_ones i, bit_at-lt block.high_twos i)) in
      omega (arith, bit_at_and (bit_and (bit_and a b) c) d i, bit_at_and (bit_and a b) c i, bit_at_and a b i, one, two, three, four)

  marked_is : bit_at (bit_and (bit_and (bit_and a b) c) d) i ≡ 1 → get_or entries i 0 ≡ element
  marked_is marked =
      let all = bit_at_and (bit_and (bit_and a b) c) d i in
      let three = bit_at_and (bit_and a b) c i in
      let two = bit_at_and a b i in
      let one = mark-one (bit_at a i) _ _ ha (omega (arith, marked, all, three, two, bit_at-lt a i)) in
      let second = mark-one (bit_at b i) _ _ hb (omega (arith, marked, all, three, two, bit_at-lt b i)) in
      let third = mark-one (bit_at c i) _ _ hc (omega (arith, marked, all, three, two, bit_at-lt c i)) in
      let fourth = mark-one (bit_at d i) _ _ hd (omega (arith, marked, all, three, two, bit_at-lt d i)) in
      let lower : low_at block i ≡ element % w = omega (arith, one, second) in
      let higher : high_at block i ≡ element / w = omega (arith, third, fourth) in
      entry_made ∙ ap (λ x. x + w * high_at block i) lower ∙ ap (λ y. element % w + w * y) higher ∙ whole w element weight

  pub place_marked : bit_at (bit_and (bit_and (bit_and a b) c) d) i ≡ cond (eqb (get_or entries i 0) element) 1 0
  place_marked = elim (cases_eq (get_or entries i 0) element) [
    | inl same ↦ all_marked same ∙ sym (ap (λ b. cond b 1 0) (eq-eqb _ _ same))
    | inr other ↦
        let none : bit_at (bit_and (bit_and (bit_and a b) c) d) i ≢ 1 = λ one. other (marked_is one) in
        omega (arith, none, bit_at-lt (bit_and (bit_and (bit_and a b) c) d) i) ∙ sym (ap (λ b. cond b 1 0) (ne_eqb _ _ other))
  ]

-- ---- the digits of one word

module _ (w : ℕ) (small : w < 2 ^ 64) where
  one_word : HoldsBits 64 (w ∷ [])
  one_word = record {
    counted = lit< tt;
    fits = fits;
    long = refl;
    unused = λ e past. bit_of-past (w ∷ []) e (omega (arith, past));
  }
    where
      fits : (k : ℕ) → get_or (w ∷ []) k 0 < 2 ^ 64
      fits zero = small
      fits (suc k) = lit< tt

-- the first 64 digits of a list of words are the bits of its first word
first_word : (words : List ℕ) (i : ℕ) → i < 64 → get_or (bits 64 words) i 0 ≡ bit_at (get_or words 0 0) i
first_word words i low =
    let word : i / 64 ≡ 0 = omega arith in
    let place : i % 64 ≡ i = omega arith in
    get_or-bits 64 words i low ∙ bit_of-word words i ∙ ap₂ (λ k j. bit_at (get_or words k 0) j) word place

plane_of_bits : (n : ℕ) (words : List ℕ) → n ≡ 64 → IsPlaneOf 2 n (Bits (bits 64 words))
plane_of_bits n words is = record {
  prime = refl;
  long = length-bits 64 words ∙ sym is;
  digits = AreDigits-bits 64 words;
}

no_plane : IsPlaneOf 2 0 (Bits [])
no_plane = record { prime = refl; long = refl; digits = All-nil (λ x. x < 2) }

-- ---- blocks as planes of 64 digits

block_entries : (o : Order) (block : BitBlock) (c l q : Plane) → prime_of o ≡ 2 → ArePlanes o 64 c l q →
    ((i : ℕ) → i < 64 → bit_at block.ones i ≡ get_or (digits_of c) i 0) →
    ((i : ℕ) → i < 64 → bit_at block.twos i ≡ get_or (digits_of l) i 0) →
    ((i : ℕ) → i < 64 → bit_at block.high_ones i ≡ get_or (digits_of q) i 0) →
    ((i : ℕ) → i < 64 → bit_at block.high_twos i ≡ 0) → elements_of_block o block ≡ entries_of o c l q
block_entries o block c l q two h hc hl hq none =
    (even-block o block (entries_of o c l q) two (length-entries o (digits_of c) (digits_of l) (digits_of q) ∙ h.constant.long) (λ i low.
    let is = entry_is o c l q (record { order = o; entries = entries_of o c l q }) (with_length o 64 c l q h) refl 2 i (h.constant.prime ∙ two) in
    omega (arith, hc i low, hl i low, hq i low, none i low, is))
    (λ i low. below_four block i)).numbers

-- the bits of a block of small elements
small_number : (o : Order) (block : BitBlock) → prime_of o ≡ 2 → All (IsElement o) (elements_of_block o block) → (i : ℕ) → i < 64 →
    low_at block i + 4 * high_at block i < order_number o
small_number o block two all i low =
    let inside : i < length (elements_of_block o block) = omega (arith, low, length-block o block) in
    omega (arith, even-number o block two i low, All-get_or (IsElement o) (elements_of_block o block) i 0 inside all)

no_linear : (block : BitBlock) → All (IsElement Two) (elements_of_block Two block) → (i : ℕ) → i < 64 → bit_at block.twos i ≡ 0
no_linear block all i low = omega (arith, small_number Two block refl all i low)

no_quadratic : (o : Order) (block : BitBlock) → prime_of o ≡ 2 → order_number o ≤ 4 → All (IsElement o) (elements_of_block o block) → (i : ℕ) → i < 64 →
    bit_at block.high_ones i ≡ 0
no_quadratic o block two four all i low = omega (arith, four, small_number o block two all i low)

no_more : (o : Order) (block : BitBlock) → prime_of o ≡ 2 → order_number o ≤ 8 → All (IsElement o) (elements_of_block o block) → (i : ℕ) → i < 64 →
    bit_at block.high_twos i ≡ 0
no_more o block two eight all i low = omega (arith, eight, small_number o block two all i low)

-- ---- sums of blocks

-- over two elements
planes_over_two : (n : ℕ) (x : List ℕ) → n ≡ 64 → ArePlanes Two n (Bits (bits 64 x)) (Bits []) (Bits [])
planes_over_two n x is = record { constant = plane_of_bits n x is; linear = no_plane; quadratic = no_plane }

sum_in_two : (block other after : BitBlock) (k : ℕ) → k ≢ 0 → IsElement Two k → All (IsElement Two) (elements_of_block Two block) →
    All (IsElement Two) (elements_of_block Two other) → block.ones < 2 ^ 64 → other.ones < 2 ^ 64 →
    after.ones ≡ bit_xor block.ones other.ones → after.twos ≡ block.twos → after.high_ones ≡ block.high_ones → after.high_twos ≡ block.high_twos →
    elements_of_block Two after ≡ sum_with_multiple (number_field Two) (elements_of_block Two block) k (elements_of_block Two other)
sum_in_two block other after k some element all all' small small' first second third fourth =
    let x : List ℕ = block.ones ∷ [] in
    let a : List ℕ = other.ones ∷ [] in
    let one : k ≡ 1 = omega (arith, some, element) in
    let digits : (words : List ℕ) (i : ℕ) → i < 64 → bit_at (get_or words 0 0) i ≡ get_or (bits 64 words) i 0 =
    λ words i low. sym (first_word words i low) in
    block_entries Two after (Bits (bits 64 (zip2 bit_xor x a))) (Bits []) (Bits []) refl (planes_over_two 64 (zip2 bit_xor x a) refl)
    (λ i low. ap (λ w. bit_at w i) first ∙ digits (zip2 bit_xor x a) i low)
    (λ i low. ap (λ w. bit_at w i) second ∙ no_linear block all i low)
    (λ i low. ap (λ w. bit_at w i) third ∙ no_quadratic Two block refl (lit< tt) all i low)
    (λ i low. ap (λ w. bit_at w i) fourth ∙ no_more Two block refl (lit< tt) all i low)
    ∙ prime_entries_sum Two 64 64 k (Bits (bits 64 x)) (Bits []) (Bits []) (Bits (bits 64 a)) (Bits []) (Bits []) (Bits (bits 64 (zip2 bit_xor x a))) refl
    (planes_over_two 64 x refl) (planes_over_two 64 a refl) element
    (record {
      prime = refl;
      digits_are =
          bits-xor 64 x a (one_word block.ones small) (one_word other.ones small')
          ∙ ap (λ f. digits_with_multiple 2 (bits 64 x) f (bits 64 a)) (sym one);
    })
    ∙ sym (ap₂ (λ (u v : List ℕ). sum_with_multiple (number_field Two) u k v) (of_block block all) (of_block other all'))
  where
    of_block : (z : BitBlock) → All (IsElement Two) (elements_of_block Two z) →
        elements_of_block Two z ≡ entries_of Two (Bits (bits 64 (z.ones ∷ []))) (Bits []) (Bits [])
    of_block z less =
        block_entries Two z (Bits (bits 64 (z.ones ∷ []))) (Bits []) (Bits []) refl (planes_over_two 64 (z.ones ∷ []) refl)
        (λ i low. sym (first_word (z.ones ∷ []) i low)) (no_linear z less) (no_quadratic Two z refl (lit< tt) less)
        (no_more Two z refl (lit< tt) less)

pub sum_over_two : (o : Order) (block other after : BitBlock) (k : ℕ) → order_number o ≡ 2 → k ≢ 0 → IsElement o k →
    All (IsElement o) (elements_of_block o block) → All (IsElement o) (elements_of_block o other) → block.ones < 2 ^ 64 → other.ones < 2 ^ 64 →
    after.ones ≡ bit_xor block.ones other.ones → after.twos ≡ block.twos → after.high_ones ≡ block.high_ones → after.high_twos ≡ block.high_twos →
    elements_of_block o after ≡ sum_with_multiple (number_field o) (elements_of_block o block) k (elements_of_block o other)
sum_over_two Two block other after k is = sum_in_two block other after k
sum_over_two Three block other after k is = absurd (omega arith)
sum_over_two Four block other after k is = absurd (omega arith)
sum_over_two Five block other after k is = absurd (omega arith)
sum_over_two Seven block other after k is = absurd (omega arith)
sum_over_two Eight block other after k is = absurd (omega arith)
sum_over_two Nine block other after k is = absurd (omega arith)

-- the words of the planes of coefficients of a block
pub record HasWords (block : BitBlock) : Type 0 where
  pub ones : block.ones < 2 ^ 64
  pub twos : block.twos < 2 ^ 64
  pub high_ones : block.high_ones < 2 ^ 64

-- over four elements
planes_over_four : (n : ℕ) (x y : List ℕ) → n ≡ 64 → ArePlanes Four n (Bits (bits 64 x)) (Bits (bits 64 y)) (Bits [])
planes_over_four n x y is = record { constant = plane_of_bits n x is; linear = plane_of_bits n y is; quadratic = no_plane }

-- the words of the planes after
abbrev constant_of_two : (p q c a b : ℕ) → List ℕ
constant_of_two p q c a b = zip2 bit_xor (c ∷ []) (masked_sum_of_two (masks_of (to_constant_of_two p q)) (a ∷ []) (b ∷ []))

abbrev linear_of_two : (p q l a b : ℕ) → List ℕ
linear_of_two p q l a b = zip2 bit_xor (l ∷ []) (masked_sum_of_two (masks_of (to_linear_of_two 2 p q)) (a ∷ []) (b ∷ []))

module _ (k p q c l a b : ℕ) (element : k < 4) (p_is : p ≡ k % 2) (q_is : q ≡ k / 2 % 2) (hc : c < 2 ^ 64) (hl : l < 2 ^ 64)
    (ha : a < 2 ^ 64) (hb : b < 2 ^ 64) where
  sum_of_planes_in_four : entries_of Four (Bits (bits 64 (constant_of_two p q c a b))) (Bits (bits 64 (linear_of_two p q l a b))) (Bits [])
      ≡ sum_with_multiple (number_field Four) (entries_of Four (Bits (bits 64 (c ∷ []))) (Bits (bits 64 (l ∷ []))) (Bits [])) k
      (entries_of Four (Bits (bits 64 (a ∷ []))) (Bits (bits 64 (b ∷ []))) (Bits []))
  sum_of_planes_in_four =
      ap (λ (r : RowValue). r.entries) (row_with_two Four k p q refl element p_is (omega (arith, q_is, element))
      (Bits (bits 64 (c ∷ []))) (Bits (bits 64 (l ∷ []))) (Bits []) (Bits (bits 64 (a ∷ []))) (Bits (bits 64 (b ∷ []))) (Bits [])
      (Bits (bits 64 (constant_of_two p q c a b))) (Bits (bits 64 (linear_of_two p q l a b)))
      (planes_over_four _ (c ∷ []) (l ∷ []) (length-bits 64 (c ∷ []))) (planes_over_four _ (a ∷ []) (b ∷ []) (length-bits 64 (c ∷ [])))
      (record {
        prime = refl;
        digits_are =
            bits-two 64 (to_constant_of_two p q) (masks_of (to_constant_of_two p q)) (a ∷ []) (b ∷ []) (one_word a ha) (one_word b hb)
            (mask_stands (to_constant_of_two p q) 0 (lit< tt) small_p) (mask_stands (to_constant_of_two p q) 1 (lit< tt) small_q) (c ∷ []) (one_word c hc);
      })
      (record {
        prime = refl;
        digits_are =
            bits-two 64 (to_linear_of_two 2 p q) (masks_of (to_linear_of_two 2 p q)) (a ∷ []) (b ∷ []) (one_word a ha) (one_word b hb)
            (mask_stands (to_linear_of_two 2 p q) 0 (lit< tt) small_q) (mask_stands (to_linear_of_two 2 p q) 1 (lit< tt) (omega arith)) (l ∷ []) (one_word l hl);
      }))
    where
      small_p : p < 2
      small_p = omega (arith, p_is)

      small_q : q < 2
      small_q = omega (arith, q_is)

sum_in_four : (block other after : BitBlock) (k p q : ℕ) → IsElement Four k → p ≡ k % 2 → q ≡ k / 2 % 2 → All (IsElement Four) (elements_of_block Four block) →
    All (IsElement Four) (elements_of_block Four other) → block.ones < 2 ^ 64 → block.twos < 2 ^ 64 → other.ones < 2 ^ 64 → other.twos < 2 ^ 64 →
    after.ones ≡ get_or (constant_of_two p q block.ones other.ones other.twos) 0 0 →
    after.twos ≡ get_or (linear_of_two p q block.twos other.ones other.twos) 0 0 → after.high_ones ≡ block.high_ones → after.high_twos ≡ block.high_twos →
    elements_of_block Four after ≡ sum_with_multiple (number_field Four) (elements_of_block Four block) k (elements_of_block Four other)
sum_in_four block other after k p q element p_is q_is all all' hc hl ha hb first second third fourth =
    let x : List ℕ = constant_of_two p q block.ones other.ones other.twos in
    let y : List ℕ = linear_of_two p q block.twos other.ones other.twos in
    block_entries Four after (Bits (bits 64 x)) (Bits (bits 64 y)) (Bits []) refl (planes_over_four 64 x y refl)
    (λ i low. ap (λ w. bit_at w i) first ∙ sym (first_word x i low)) (λ i low. ap (λ w. bit_at w i) second ∙ sym (first_word y i low))
    (λ i low. ap (λ w. bit_at w i) third ∙ no_quadratic Four block refl (lit< tt) all i low)
    (λ i low. ap (λ w. bit_at w i) fourth ∙ no_more Four block refl (lit< tt) all i low)
    ∙ sum_of_planes_in_four k p q block.ones block.twos other.ones other.twos element p_is q_is hc hl ha hb
    ∙ sym (ap₂ (λ (u v : List ℕ). sum_with_multiple (number_field Four) u k v) (of_block block all) (of_block other all'))
  where
    of_block : (z : BitBlock) → All (IsElement Four) (elements_of_block Four z) →
        elements_of_block Four z ≡ entries_of Four (Bits (bits 64 (z.ones ∷ []))) (Bits (bits 64 (z.twos ∷ []))) (Bits [])
    of_block z small =
        block_entries Four z (Bits (bits 64 (z.ones ∷ []))) (Bits (bits 64 (z.twos ∷ []))) (Bits []) refl (planes_over_four 64 (z.ones ∷ []) (z.twos ∷ []) refl)
        (λ i low. sym (first_word (z.ones ∷ []) i low)) (λ i low. sym (first_word (z.twos ∷ []) i low)) (no_quadratic Four z refl (lit< tt) small)
        (no_more Four z refl (lit< tt) small)

pub sum_over_four : (o : Order) (block other after : BitBlock) (k p q : ℕ) → order_number o ≡ 4 → IsElement o k → p ≡ k % 2 → q ≡ k / 2 % 2 →
    All (IsElement o) (elements_of_block o block) → All (IsElement o) (elements_of_block o other) →
    block.ones < 2 ^ 64 → block.twos < 2 ^ 64 → other.ones < 2 ^ 64 → other.twos < 2 ^ 64 →
    after.ones ≡ get_or (constant_of_two p q block.ones other.ones other.twos) 0 0 →
    after.twos ≡ get_or (linear_of_two p q block.twos other.ones other.twos) 0 0 → after.high_ones ≡ block.high_ones → after.high_twos ≡ block.high_twos →
    elements_of_block o after ≡ sum_with_multiple (number_field o) (elements_of_block o block) k (elements_of_block o other)
sum_over_four Two block other after k p q is = absurd (omega arith)
sum_over_four Three block other after k p q is = absurd (omega arith)
sum_over_four Four block other after k p q is = sum_in_four block other after k p q
sum_over_four Five block other after k p q is = absurd (omega arith)
sum_over_four Seven block other after k p q is = absurd (omega arith)
sum_over_four Eight block other after k p q is = absurd (omega arith)
sum_over_four Nine block other after k p q is = absurd (omega arith)

-- over eight elements
planes_over_eight : (n : ℕ) (x y z : List ℕ) → n ≡ 64 → ArePlanes Eight n (Bits (bits 64 x)) (Bits (bits 64 y)) (Bits (bits 64 z))
planes_over_eight n x y z is = record { constant = plane_of_bits n x is; linear = plane_of_bits n y is; quadratic = plane_of_bits n z is }

-- the word of a plane after, where these are the factors
abbrev word_of_three : List ℕ → ℕ → BitBlock → List ℕ
word_of_three factors word other =
    zip2 bit_xor (word ∷ []) (masked_sum_of_three (masks_of factors) (other.ones ∷ []) (other.twos ∷ []) (other.high_ones ∷ []))

digits_of_three : (factors : List ℕ) (word : ℕ) (other : BitBlock) → 3 ≡ length factors → get_or factors 0 0 < 2 → get_or factors 1 0 < 2 →
    get_or factors 2 0 < 2 → word < 2 ^ 64 → HasWords other →
    IsPlane 2 (digits_with_multiples 2 (bits 64 (word ∷ [])) factors (bits 64 (other.ones ∷ [])) (bits 64 (other.twos ∷ []))
    (bits 64 (other.high_ones ∷ []))) (Bits (bits 64 (word_of_three factors word other)))
digits_of_three factors word other long h0 h1 h2 small h = record {
  prime = refl;
  digits_are =
      bits-three 64 factors (masks_of factors) (other.ones ∷ []) (other.twos ∷ []) (one_word other.ones h.ones) (one_word other.twos h.twos)
      (mask_stands factors 0 (omega (arith, long)) h0) (mask_stands factors 1 (omega (arith, long)) h1) (other.high_ones ∷ [])
      (one_word other.high_ones h.high_ones) (mask_stands factors 2 (omega (arith, long)) h2) (word ∷ []) (one_word word small);
}

sum_in_eight : (block other after : BitBlock) (k p q r : ℕ) → IsElement Eight k → p ≡ k % 2 → q ≡ k / 2 % 2 → r ≡ k / 4 % 2 →
    All (IsElement Eight) (elements_of_block Eight block) → All (IsElement Eight) (elements_of_block Eight other) → HasWords block → HasWords other →
    after.ones ≡ get_or (word_of_three (to_constant_of_three p q r) block.ones other) 0 0 →
    after.twos ≡ get_or (word_of_three (to_linear_of_three p q r) block.twos other) 0 0 →
    after.high_ones ≡ get_or (word_of_three (to_quadratic_of_three p q r) block.high_ones other) 0 0 → after.high_twos ≡ block.high_twos →
    elements_of_block Eight after ≡ sum_with_multiple (number_field Eight) (elements_of_block Eight block) k (elements_of_block Eight other)
sum_in_eight block other after k p q r element p_is q_is r_is all all' h h' first second third fourth =
    let small : k < 8 = element in
    let r_is' : r ≡ k / 4 = omega (arith, r_is, small) in
    let low_r : k / 4 < 2 = omega (arith, small) in
    let x : List ℕ = word_of_three (to_constant_of_three (k % 2) (k / 2 % 2) (k / 4)) block.ones other in
    let y : List ℕ = word_of_three (to_linear_of_three (k % 2) (k / 2 % 2) (k / 4)) block.twos other in
    let z : List ℕ = word_of_three (to_quadratic_of_three (k % 2) (k / 2 % 2) (k / 4)) block.high_ones other in
    let first' : after.ones ≡ get_or x 0 0 =
    first ∙ (λ i. get_or (word_of_three (to_constant_of_three (p_is i) (q_is i) (r_is' i)) block.ones other) 0 0) in
    let second' : after.twos ≡ get_or y 0 0 =
    second ∙ (λ i. get_or (word_of_three (to_linear_of_three (p_is i) (q_is i) (r_is' i)) block.twos other) 0 0) in
    let third' : after.high_ones ≡ get_or z 0 0 =
    third ∙ (λ i. get_or (word_of_three (to_quadratic_of_three (p_is i) (q_is i) (r_is' i)) block.high_ones other) 0 0) in
    block_entries Eight after (Bits (bits 64 x)) (Bits (bits 64 y)) (Bits (bits 64 z)) refl (planes_over_eight 64 x y z refl)
    (λ i low. ap (λ w. bit_at w i) first' ∙ sym (first_word x i low)) (λ i low. ap (λ w. bit_at w i) second' ∙ sym (first_word y i low))
    (λ i low. ap (λ w. bit_at w i) third' ∙ sym (first_word z i low))
    (λ i low. ap (λ w. bit_at w i) fourth ∙ no_more Eight block refl (lit< tt) all i low)
    ∙ ap (λ (r : RowValue). r.entries) (row_with_three Eight k refl element
    (Bits (bits 64 (block.ones ∷ []))) (Bits (bits 64 (block.twos ∷ []))) (Bits (bits 64 (block.high_ones ∷ [])))
    (Bits (bits 64 (other.ones ∷ []))) (Bits (bits 64 (other.twos ∷ []))) (Bits (bits 64 (other.high_ones ∷ [])))
    (Bits (bits 64 x)) (Bits (bits 64 y)) (Bits (bits 64 z))
    (planes_over_eight _ (block.ones ∷ []) (block.twos ∷ []) (block.high_ones ∷ []) (length-bits 64 (block.ones ∷ [])))
    (planes_over_eight _ (other.ones ∷ []) (other.twos ∷ []) (other.high_ones ∷ []) (length-bits 64 (block.ones ∷ [])))
    (digits_of_three (to_constant_of_three (k % 2) (k / 2 % 2) (k / 4)) block.ones other refl (omega arith) low_r (omega arith) h.ones h')
    (digits_of_three (to_linear_of_three (k % 2) (k / 2 % 2) (k / 4)) block.twos other refl (omega arith) (omega arith) (omega arith) h.twos h')
    (digits_of_three (to_quadratic_of_three (k % 2) (k / 2 % 2) (k / 4)) block.high_ones other refl low_r (omega arith) (omega arith) h.high_ones h'))
    ∙ sym (ap₂ (λ (u v : List ℕ). sum_with_multiple (number_field Eight) u k v) (of_block block all) (of_block other all'))
  where
    of_block : (w : BitBlock) → All (IsElement Eight) (elements_of_block Eight w) →
        elements_of_block Eight w ≡ entries_of Eight (Bits (bits 64 (w.ones ∷ []))) (Bits (bits 64 (w.twos ∷ []))) (Bits (bits 64 (w.high_ones ∷ [])))
    of_block w small =
        block_entries Eight w (Bits (bits 64 (w.ones ∷ []))) (Bits (bits 64 (w.twos ∷ []))) (Bits (bits 64 (w.high_ones ∷ []))) refl
        (planes_over_eight 64 (w.ones ∷ []) (w.twos ∷ []) (w.high_ones ∷ []) refl)
        (λ i low. sym (first_word (w.ones ∷ []) i low)) (λ i low. sym (first_word (w.twos ∷ []) i low)) (λ i low. sym (first_word (w.high_ones ∷ []) i low))
        (no_more Eight w refl (lit< tt) small)

pub sum_over_eight : (o : Order) (block other after : BitBlock) (k p q r : ℕ) → order_number o ≢ 2 → order_number o ≢ 4 → prime_of o ≡ 2 → IsElement o k →
    p ≡ k % 2 → q ≡ k / 2 % 2 → r ≡ k / 4 % 2 → All (IsElement o) (elements_of_block o block) → All (IsElement o) (elements_of_block o other) →
    HasWords block → HasWords other →
    after.ones ≡ get_or (word_of_three (to_constant_of_three p q r) block.ones other) 0 0 →
    after.twos ≡ get_or (word_of_three (to_linear_of_three p q r) block.twos other) 0 0 →
    after.high_ones ≡ get_or (word_of_three (to_quadratic_of_three p q r) block.high_ones other) 0 0 → after.high_twos ≡ block.high_twos →
    elements_of_block o after ≡ sum_with_multiple (number_field o) (elements_of_block o block) k (elements_of_block o other)
sum_over_eight Two block other after k p q r not_two not_four even = absurd (not_two refl)
sum_over_eight Three block other after k p q r not_two not_four even = absurd (omega arith)
sum_over_eight Four block other after k p q r not_two not_four even = absurd (not_four refl)
sum_over_eight Five block other after k p q r not_two not_four even = absurd (omega arith)
sum_over_eight Seven block other after k p q r not_two not_four even = absurd (omega arith)
sum_over_eight Eight block other after k p q r not_two not_four even = sum_in_eight block other after k p q r
sum_over_eight Nine block other after k p q r not_two not_four even = absurd (omega arith)

-- what is proved of the numbers of blocks is so of the entries that they have
pub sum_of_entries : (o : Order) (block other after : BitBlock) (k : ℕ) → prime_of o ≡ 2 → (All (IsElement o) (elements_of_block o block) →
    All (IsElement o) (elements_of_block o other) →
    elements_of_block o after ≡ sum_with_multiple (number_field o) (elements_of_block o block) k (elements_of_block o other)) →
    (entries others : List ℕ) → All (IsElement o) entries → All (IsElement o) others → IsBlock o entries block → IsBlock o others other →
    IsBlock o (sum_with_multiple (number_field o) entries k others) after
sum_of_entries o block other after k two sum entries others all all' h h' = record {
  numbers =
      sum (subst (All (IsElement o)) (sym h.numbers) all) (subst (All (IsElement o)) (sym h'.numbers) all')
      ∙ ap₂ (λ (u v : List ℕ). sum_with_multiple (number_field o) u k v) h.numbers h'.numbers;
  low = λ i low. omega (arith, weight-even o two, below_four after i);
}
