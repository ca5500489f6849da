-- The terms of the product of a row vector and a matrix that belong to the entries of one value, word by word.
use Rattle.std.proofs.Common.{◌≡◌, ◌≢◌, ℕ, ◌+◌, ◌-◌, ◌*◌, ◌%◌, ◌^◌, ◌<◌, ◌≤◌, List, length, get_or, cond, eqb, ltb, Bool, true, false, refl, sym, ap, ◌∙◌, arith, w64}
use Rattle.std.specs.Int.{bit_at, trailing_zeros}
use Rattle.std.specs.Int.Bits.{bit_and}
use Rattle.std.proofs.lemmas.Bool.{lt-ltb, le-ltb, eq-eqb, ne_eqb}
use Rattle.std.proofs.lemmas.List.{get_or_past}
use Rattle.std.proofs.lemmas.Nat.Bits.{bit_at-zero, bit_at-trailing_zeros}
use native.Mathlib.Decide.{dec_lt}
use Rattle.axe_layer.proofs.LowestBits.{bit_at-without_lowest, zero_or_zero}
use Rattle.std.specs.List.{All}
use Rattle.axe_field.specs.Arithmetic.{field_mul}
use Rattle.axe_field.specs.CheckedLaws.{field_mul-one}
use Rattle.axe_field.specs.NumberFields.{number_field}
use Rattle.axe_field.specs.Order.{Order, IsElement}
use Rattle.axe_lane.specs.Entries.{AreZerosBetween, IsNextNonzero}
use Rattle.axe_row.specs.EntryWords.{entries_in_word}
use Rattle.axe_row.specs.Operations.{row_with_multiple}
use Rattle.axe_row.specs.Rows.{RowValue}
use Rattle.axe_row.proofs.RowLaws.{same_row}
use Rattle.axe_matrix.specs.Matrices.{MatrixValue, IsMatrix, row_of}
use Rattle.axe_matrix.specs.Products.{row_with_terms}
use Rattle.axe_matrix.specs.ValueTerms.{places_of_value, vector_of_places, row_with_waiting}
use Rattle.axe_matrix.specs.VectorTerms.{row_with_terms_between}
use Rattle.axe_matrix.specs.declared.by_values.Waiting.{Waiting}
use Rattle.axe_matrix.proofs.DirectRows.{terms_from, zeros_from, one_more_from}
use Rattle.axe_matrix.proofs.ValueDigits.{place_of_entry}
use Rattle.axe_matrix.proofs.ValuePowers.{places-elements}
use Rattle.axe_matrix.proofs.WaitingRows.{order-row_with_rows_at}
use Rattle.axe_matrix.proofs.WordTerms.{word-at}

-- what is left of a word of places: those from an index on
abbrev pub AreLeft : List ℕ → ℕ → ℕ → ℕ → Type 0
AreLeft places at start word = (i : ℕ) → i < 64 → bit_at word i ≡ cond (ltb (at * 64 + i) start) 0 (get_or places (at * 64 + i) 0)

bit_before : (a b x : ℕ) → a < b → cond (ltb a b) 0 x ≡ 0
bit_before a b x less = ap (λ (t : Bool). cond t 0 x) (lt-ltb a b less)

bit_from : (a b x : ℕ) → b ≤ a → cond (ltb a b) 0 x ≡ x
bit_from a b x more = ap (λ (t : Bool). cond t 0 x) (le-ltb a b more)

-- all places of a word are left at its beginning
pub all_left : (places : List ℕ) (at word : ℕ) → ((i : ℕ) → i < 64 → bit_at word i ≡ get_or places (at * 64 + i) 0) → AreLeft places at (at * 64) word
all_left places at word bits = λ i low. bits i low ∙ sym (bit_from (at * 64 + i) (at * 64) (get_or places (at * 64 + i) 0) (omega arith))

-- the bits of the places of a value in a word's entries are those of its places among all
pub places_in_word : (value at word : ℕ) (v : List ℕ) → value ≢ 0 →
    ((i : ℕ) → i < 64 → bit_at word i ≡ cond (eqb (get_or (entries_in_word v at) i 0) value) 1 0) →
    (i : ℕ) → i < 64 → bit_at word i ≡ get_or (places_of_value value v) (at * 64 + i) 0
places_in_word value at word v nonzero bits = λ i low.
    bits i low ∙ ap (λ a. cond (eqb a value) 1 0) (word-at v at (entries_in_word v at) refl i low)
    ∙ sym (place_of_entry value (at * 64 + i) v nonzero)

-- none is left in a word that is 0
pub none_left : (places : List ℕ) (at start word : ℕ) → word ≡ 0 → at * 64 ≤ start → AreLeft places at start word → AreZerosBetween places start (at * 64 + 64)
none_left places at start word none begun left = λ j from before.
    let same : at * 64 + (j - at * 64) ≡ j = omega (arith, begun, from) in
    let bit = left (j - at * 64) (omega (arith, begun, from, before)) in
    ap (λ k. get_or places k 0) (sym same)
    ∙ sym (bit_from (at * 64 + (j - at * 64)) start (get_or places (at * 64 + (j - at * 64)) 0) (omega (arith, same, from)))
    ∙ sym bit ∙ ap (λ w. bit_at w (j - at * 64)) none ∙ bit_at-zero (j - at * 64)

module _ (places : List ℕ) (at start word : ℕ) (begun : at * 64 ≤ start) (left : AreLeft places at start word) (small : word < 2 ^ 64) (some : word ≢ 0) where
  abbrev low : ℕ
  low = trailing_zeros w64 word

  abbrev index : ℕ
  index = at * 64 + low

  bit : (low < 64) × (bit_at word low ≡ 1) × ((i : ℕ) → i < low → bit_at word i ≡ 0)
  bit = bit_at-trailing_zeros w64 word (omega (arith, some)) small

  pub lowest_inside : low < 64
  lowest_inside = bit.0

  lowest_not_before : start ≤ index
  lowest_not_before = elim (dec_lt index start) [
    | yes less ↦ absurd (omega (arith, bit.1, left low bit.0 ∙ bit_before index start (get_or places index 0) less))
    | no more ↦ omega (arith, more)
  ]

  lowest_place : get_or places index 0 ≡ 1
  lowest_place = sym (left low bit.0 ∙ bit_from index start (get_or places index 0) lowest_not_before) ∙ bit.1

  -- the lowest bit is that of the next place
  pub next_left : IsNextNonzero places start index
  next_left = record {
    within = elim (dec_lt index (length places)) [
      | yes inside ↦ inside
      | no outside ↦ absurd (omega (arith, lowest_place, get_or_past places index 0 (omega (arith, outside))))
    ];
    not_before = lowest_not_before;
    nonzero = λ none. absurd (omega (arith, lowest_place, none));
    zeros_between = λ j from before.
        let same : at * 64 + (j - at * 64) ≡ j = omega (arith, begun, from) in
        let i = j - at * 64 in
        let earlier : i < low = omega (arith, before, begun, from) in
        ap (λ k. get_or places k 0) (sym same)
        ∙ sym (bit_from (at * 64 + i) start (get_or places (at * 64 + i) 0) (omega (arith, same, from)))
        ∙ sym (left i (omega (arith, earlier, bit.0))) ∙ bit.2 i earlier;
  }

  -- those after it are left without that bit
  pub left_after : AreLeft places at (index + 1) (bit_and word (word - 1))
  left_after = λ i below.
      let x = get_or places (at * 64 + i) 0 in
      let same : word - 1 ≡ (word + 18446744073709551615) % 18446744073709551616 = omega (arith, small, some) in
      let cut = ap (λ w. bit_at (bit_and word w) i) same ∙ bit_at-without_lowest word i (omega (arith, small)) in
      elim (dec_lt low i) [
        | yes past ↦
            let other : i ≢ low = λ equal. absurd (omega (arith, past, equal)) in
            cut ∙ ap (λ (t : Bool). cond t 0 (bit_at word i)) (ne_eqb i low other) ∙ left i below
            ∙ bit_from (at * 64 + i) start x (omega (arith, past, lowest_not_before))
            ∙ sym (bit_from (at * 64 + i) (index + 1) x (omega (arith, past)))
        | no earlier ↦
            cut
            ∙ elim (dec_lt i low) [
              | yes less ↦ zero_or_zero (eqb i low) (bit_at word i) (bit.2 i less)
              | no more ↦ ap (λ (t : Bool). cond t 0 (bit_at word i)) (eq-eqb i low (omega (arith, more, earlier)))
            ]
            ∙ sym (bit_before (at * 64 + i) (index + 1) x (omega (arith, earlier)))
      ]

-- a multiple of each row of the places in a word before an index was added, and those from it on are left
pub record AreAdded (b : MatrixValue) (r places : List ℕ) (scalar at word : ℕ) (entries : List ℕ) : Type 0 where
  pub start : ℕ
  pub begun : at * 64 ≤ start
  pub fits : start ≤ at * 64 + 64
  pub left : AreLeft places at start word
  pub so_far : entries ≡ terms_from b r scalar places (at * 64) (start - at * 64)

one_where_some : (b : Bool) (a : ℕ) → a ≡ cond b 1 0 → a ≢ 0 → 1 ≡ a
one_where_some true a is some = sym is
one_where_some false a is some = absurd (some is)

-- an entry of the places that is not 0 is 1
one_at_place : (value e : ℕ) (v : List ℕ) → value ≢ 0 → get_or (places_of_value value v) e 0 ≢ 0 → 1 ≡ get_or (places_of_value value v) e 0
one_at_place value e v nonzero some =
    one_where_some (eqb (get_or v e 0) value) (get_or (places_of_value value v) e 0) (place_of_entry value e v nonzero) some

-- the multiple of the row of the next place was added
pub next_place : (b : MatrixValue) (r : List ℕ) (scalar value : ℕ) (v : List ℕ) (at start index : ℕ) (before : RowValue) → IsMatrix b →
    IsElement b.order scalar → value ≢ 0 → All (IsElement b.order) r → before.order ≡ b.order → at ≤ start →
    before.entries ≡ terms_from b r scalar (places_of_value value v) at (start - at) → IsNextNonzero (places_of_value value v) start index →
    (row_with_multiple before scalar (row_of b index)).entries ≡ terms_from b r scalar (places_of_value value v) at (index + 1 - at)
next_place b r scalar value v at start index before hb small nonzero over_r field begun so_far next =
    let places = places_of_value value v in
    let over = places-elements b.order value v in
    let there : at + (index - at) ≡ index = omega (arith, begun, next.not_before) in
    let all : index - at + 1 ≡ index + 1 - at = omega (arith, begun, next.not_before) in
    let more : start - at ≤ index - at = omega (arith, begun, next.not_before) in
    let zeros = zeros_from b r scalar places at hb over (start - at) (index - at) more (λ t past below.
    next.zeros_between (at + t) (omega (arith, past, begun)) (omega (arith, below))) in
    one_more_from b r scalar places at hb over (index - at) index scalar before (row_of b index) there small over_r field (so_far ∙ zeros)
    (sym (ap (field_mul b.order scalar) (sym (one_at_place value index v nonzero next.nonzero)) ∙ field_mul-one b.order scalar small)) refl
    ∙ ap (terms_from b r scalar places at) all

-- no place is left in a word
pub end_of_places : (b : MatrixValue) (first : RowValue) (w : Waiting) (row : RowValue) (waiting : Waiting) (value : ℕ) (vector : RowValue) (at start : ℕ) →
    IsMatrix b → first.order ≡ b.order → row.order ≡ b.order → at * 64 ≤ start → start ≤ at * 64 + 64 →
    (row_with_waiting b row waiting).entries ≡ terms_from b (row_with_waiting b first w).entries 1 (places_of_value value vector.entries) (at * 64) (start - at * 64) →
    AreZerosBetween (places_of_value value vector.entries) start (at * 64 + 64) →
    row_with_waiting b row waiting ≡ row_with_terms_between (row_with_waiting b first w) 1 (vector_of_places value vector) b (at * 64) (at * 64 + 64)
end_of_places b first w row waiting value vector at start hb first_field field begun fits so_far zeros =
    let places = places_of_value value vector.entries in
    let before = row_with_waiting b first w in
    let before_field : before.order ≡ b.order = order-row_with_rows_at b first w.indices w.count ∙ first_field in
    same_row (row_with_waiting b row waiting) (row_with_terms_between before 1 (vector_of_places value vector) b (at * 64) (at * 64 + 64))
    (order-row_with_rows_at b row waiting.indices waiting.count ∙ field ∙ sym before_field)
    (so_far
    ∙ zeros_from b before.entries 1 places (at * 64) hb (places-elements b.order value vector.entries) (start - at * 64) (at * 64 + 64 - at * 64)
    (omega (arith, begun, fits)) (λ t past below. zeros (at * 64 + t) (omega (arith, past, begun)) (omega (arith, below)))
    ∙ ap (λ (o : Order). row_with_terms (number_field o) b.cols before.entries 1 places b.rows (at * 64) (at * 64 + 64 - at * 64)) (sym before_field))
