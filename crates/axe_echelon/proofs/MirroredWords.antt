-- Rows whose entries stand in the opposite order, by the words of the coefficients of each power of x.
use Rattle.std.proofs.Common.{◌≡◌, ◌≢◌, ℕ, ◌+◌, ◌-◌, ◌*◌, ◌/◌, ◌%◌, ◌<◌, ◌≤◌, Bool, List, [], ◌∷◌, length, get_or, map, cond, refl, sym, ap, ap₂, subst, ◌∙◌, arith, inl, inr}
use Rattle.std.specs.Int.{bit_at}
use Rattle.std.specs.Prelude.{replicate, reverse}
use Rattle.std.proofs.lemmas.Bool.{cases_eq, lt-ltb, le-ltb}
use Rattle.std.proofs.lemmas.List.{ext_get_or, get_or_past, get_or-map, get_or-reverse, length-map, length-replicate, length-reverse}
use native.Mathlib.Decide.{dec_lt}
use Rattle.axe_field.specs.Order.{Order, prime_of, degree_of, IsElement}
use Rattle.axe_field.specs.Planes.{coefficient, element_of}
use Rattle.axe_field.proofs.CoefficientLaws.{coefficient-below, element_of-coefficients}
use Rattle.axe_layer.specs.Words.{digit_of_words, digits_with_word}
use Rattle.axe_layer.proofs.WordWrites.{get_or-digits_with_word_same, get_or-digits_with_word_other}
use Rattle.axe_row.specs.Planes.{coefficients_at}
use Rattle.axe_row.specs.Rows.{RowValue, IsRow}
use Rattle.axe_row.specs.Words.{HasWords}
use Rattle.axe_row.proofs.RowLaws.{same_row}
use Rattle.axe_row.proofs.RowPlanes.{prime-positive}
use Rattle.axe_row.proofs.RowWords.{degree_small}
use Rattle.axe_echelon.specs.Mirrored.{mirrored_row, AreDigitsBefore, HasMirroredCoefficients}
use Rattle.axe_echelon.proofs.MirroredLists.{is_row_mirrored}

-- ---- coefficients of the entries of a row

module _ (o : Order) (k : ℕ) (power : k < degree_of o) where
  coefficients_all : (entries : List ℕ) → coefficients_at o k entries ≡ map (λ a. coefficient o a k) entries
  coefficients_all entries = ap (λ (t : Bool). cond t (map (λ a. coefficient o a k) entries) []) (lt-ltb k (degree_of o) power)

  length-all : (entries : List ℕ) → length (coefficients_at o k entries) ≡ length entries
  length-all entries = ap length (coefficients_all entries) ∙ length-map entries (λ a. coefficient o a k)

  coefficient-at : (entries : List ℕ) (e : ℕ) → e < length entries → get_or (coefficients_at o k entries) e 0 ≡ coefficient o (get_or entries e 0) k
  coefficient-at entries e inside =
      ap (λ (x : List ℕ). get_or x e 0) (coefficients_all entries) ∙ get_or-map (λ a. coefficient o a k) entries e 0 0 inside

  coefficient-past : (entries : List ℕ) (e : ℕ) → length entries ≤ e → get_or (coefficients_at o k entries) e 0 ≡ 0
  coefficient-past entries e past = get_or_past (coefficients_at o k entries) e 0 (omega (arith, past, length-all entries))

  -- they are digits, and 0 past the last entry
  coefficient-small : (entries : List ℕ) (e : ℕ) → IsRow (record { order = o; entries = entries }) → get_or (coefficients_at o k entries) e 0 < prime_of o
  coefficient-small entries e h = elim (dec_lt e (length entries)) [
    | yes inside ↦
        let small = coefficient-below o (get_or entries e 0) k (h.elements e 0 inside) (omega (arith, power, degree_small o)) in
        subst (λ x. x < prime_of o) (sym (coefficient-at entries e inside))
        (subst (λ (t : Bool). coefficient o (get_or entries e 0) k < cond t (prime_of o) 1) (lt-ltb k (degree_of o) power) small)
    | no past ↦ subst (λ x. x < prime_of o) (sym (coefficient-past entries e (omega (arith, past)))) (prime-positive o)
  ]

  -- those of the entries in the opposite order
  coefficient-reversed : (entries : List ℕ) (e : ℕ) → e < length entries →
      get_or (coefficients_at o k (reverse entries)) e 0 ≡ get_or (coefficients_at o k entries) (length entries - 1 - e) 0
  coefficient-reversed entries e inside =
      coefficient-at (reverse entries) e (omega (arith, inside, length-reverse entries)) ∙ ap (λ a. coefficient o a k) (get_or-reverse entries e 0 inside)
      ∙ sym (coefficient-at entries (length entries - 1 - e) (omega (arith, inside)))

  -- the digits that end before an index, in the opposite order
  pub digit-reversed : (entries words : List ℕ) (at end i : ℕ) → AreDigitsBefore (coefficients_at o k entries) end words → at * 64 < length entries →
      end ≡ length entries - at * 64 → i < 64 → digit_of_words words (63 - i) ≡ get_or (coefficients_at o k (reverse entries)) (at * 64 + i) 0
  digit-reversed entries words at end i h within end_is low = elim (dec_lt (at * 64 + i) (length entries)) [
    | yes inside ↦
        let place : end + (63 - i) - 64 ≡ length entries - 1 - (at * 64 + i) = omega (arith, end_is, inside, low) in
        h.are_last (63 - i) (omega arith) (omega (arith, end_is, inside, low)) ∙ ap (λ e. get_or (coefficients_at o k entries) e 0) place
        ∙ sym (coefficient-reversed entries (at * 64 + i) inside)
    | no past ↦
        h.zeros (63 - i) (omega (arith, end_is, past, low, within))
        ∙ sym (coefficient-past (reverse entries) (at * 64 + i) (omega (arith, past, length-reverse entries)))
  ]

-- elements are equal where their coefficients are, and so are lists of them
module _ (o : Order) (entries others : List ℕ) (e : ℕ) (a_is : IsElement o (get_or entries e 0)) (b_is : IsElement o (get_or others e 0))
    (inside : e < length entries) (within : e < length others)
    (same : (k : ℕ) → k < degree_of o → coefficients_at o k entries ≡ coefficients_at o k others) where
  no_coefficient : (a k : ℕ) → IsElement o a → k < 3 → degree_of o ≤ k → coefficient o a k ≡ 0
  no_coefficient a k is small past =
      let below : coefficient o a k < 1 = subst (λ (t : Bool). coefficient o a k < cond t (prime_of o) 1) (le-ltb k (degree_of o) past) (coefficient-below o a k is small) in
      omega (arith, below)

  same_coefficient : (k : ℕ) → k < 3 → coefficient o (get_or entries e 0) k ≡ coefficient o (get_or others e 0) k
  same_coefficient k small = elim (dec_lt k (degree_of o)) [
    | yes power ↦
        sym (coefficient-at o k power entries e inside) ∙ ap (λ (x : List ℕ). get_or x e 0) (same k power) ∙ coefficient-at o k power others e within
    | no past ↦
        no_coefficient (get_or entries e 0) k a_is small (omega (arith, past)) ∙ sym (no_coefficient (get_or others e 0) k b_is small (omega (arith, past)))
  ]

  same_entry : get_or entries e 0 ≡ get_or others e 0
  same_entry =
      sym (element_of-coefficients o (get_or entries e 0) a_is)
      ∙ ap (λ x. element_of o x (coefficient o (get_or entries e 0) 1) (coefficient o (get_or entries e 0) 2)) (same_coefficient 0 (omega arith))
      ∙ ap₂ (element_of o (coefficient o (get_or others e 0) 0)) (same_coefficient 1 (omega arith)) (same_coefficient 2 (omega arith))
      ∙ element_of-coefficients o (get_or others e 0) b_is

-- ---- the digits that end before an index, out of two pairs of words

module _ (digits first second : List ℕ) (end ones twos : ℕ) (some : 0 < end) (before : AreDigitsBefore digits ((end - 1) / 64 * 64) first)
    (then : (i : ℕ) → i < 64 → digit_of_words second i ≡ get_or digits ((end - 1) / 64 * 64 + i) 0) where
  abbrev last : ℕ
  last = (end - 1) % 64

  pub digits_of_two :
      ((i : ℕ) → last + 1 + i < 64 → bit_at ones i ≡ bit_at (get_or first 0 0) (last + 1 + i)) →
      ((i : ℕ) → i < 64 → 64 ≤ last + 1 + i → bit_at ones i ≡ bit_at (get_or second 0 0) (last + 1 + i - 64)) →
      ((i : ℕ) → last + 1 + i < 64 → bit_at twos i ≡ bit_at (get_or first 1 0) (last + 1 + i)) →
      ((i : ℕ) → i < 64 → 64 ≤ last + 1 + i → bit_at twos i ≡ bit_at (get_or second 1 0) (last + 1 + i - 64)) →
      AreDigitsBefore digits end (ones ∷ twos ∷ [])
  digits_of_two ones_of_first ones_of_second twos_of_first twos_of_second = record {
    are_last = λ i low within. elim (dec_lt (last + 1 + i) 64) [
      | yes inside ↦
          let place : (end - 1) / 64 * 64 + (last + 1 + i) - 64 ≡ end + i - 64 = omega (arith, some) in
          of_first i inside ∙ before.are_last (last + 1 + i) inside (omega (arith, some, within)) ∙ ap (λ e. get_or digits e 0) place
      | no past ↦
          let place : (end - 1) / 64 * 64 + (last + 1 + i - 64) ≡ end + i - 64 = omega (arith, some, past) in
          ap₂ (λ x y. x + 2 * y) (ones_of_second i low (omega (arith, past))) (twos_of_second i low (omega (arith, past)))
          ∙ then (last + 1 + i - 64) (omega (arith, low)) ∙ ap (λ e. get_or digits e 0) place
    ];
    zeros = λ i none. of_first i (omega (arith, none, some)) ∙ before.zeros (last + 1 + i) (omega (arith, none, some));
  }
    where
      of_first : (i : ℕ) → last + 1 + i < 64 → digit_of_words (ones ∷ twos ∷ []) i ≡ digit_of_words first (last + 1 + i)
      of_first i inside = ap₂ (λ x y. x + 2 * y) (ones_of_first i inside) (twos_of_first i inside)

-- ---- word after word of the coefficients of one power of x

-- the row after is the one before with the coefficients of x^k of another in the opposite order in the words before one
pub record HasMirroredWords (k at : ℕ) (row before after : RowValue) : Type 0 where
  pub order : after.order ≡ before.order
  pub as_long : length after.entries ≡ length before.entries
  pub done : (e : ℕ) → e < at * 64 → e < length row.entries →
      get_or (coefficients_at row.order k after.entries) e 0 ≡ get_or (coefficients_at row.order k (reverse row.entries)) e 0
  pub kept : (i : ℕ) → i ≢ k → coefficients_at row.order i after.entries ≡ coefficients_at row.order i before.entries

pub mirrored_words_none : (k : ℕ) (row before : RowValue) → HasMirroredWords k 0 row before before
mirrored_words_none k row before = record {
  order = refl;
  as_long = refl;
  done = λ e below. absurd (omega (arith, below));
  kept = λ i other. refl;
}

module _ (k at : ℕ) (row before self : RowValue) (power : k < degree_of row.order) (same_order : before.order ≡ row.order)
    (fits : length before.entries ≡ length row.entries) (so_far : HasMirroredWords k at row before self) where
  own_order : self.order ≡ row.order
  own_order = so_far.order ∙ same_order

  pub mirrored_words_more : (words : List ℕ) (next : RowValue) → HasWords k at words self next →
      ((i : ℕ) → i < 64 → digit_of_words words i ≡ get_or (coefficients_at row.order k (reverse row.entries)) (at * 64 + i) 0) →
      HasMirroredWords k (at + 1) row before next
  mirrored_words_more words next has digits = record {
    order = has.order ∙ so_far.order;
    as_long = has.as_long ∙ so_far.as_long;
    done = λ e below inside.
        let within : e < length old = omega (arith, inside, length-all row.order k power self.entries, so_far.as_long, fits) in
        ap (λ (x : List ℕ). get_or x e 0) written ∙ elim (cases_eq (e / 64) at) [
          | inl same ↦
              let here : at * 64 + e % 64 ≡ e = omega (arith, same) in
              get_or-digits_with_word_same old at (digit_of_words words) e 0 within same ∙ digits (e % 64) (omega arith)
              ∙ ap (λ j. get_or (coefficients_at row.order k (reverse row.entries)) j 0) here
          | inr other ↦
              get_or-digits_with_word_other old at (digit_of_words words) e 0 within other ∙ so_far.done e (omega (arith, below, other)) inside
        ];
    kept = λ i other.
        subst (λ o. coefficients_at o i next.entries ≡ coefficients_at o i self.entries) own_order (has.kept i other) ∙ so_far.kept i other;
  }
    where
      old : List ℕ
      old = coefficients_at row.order k self.entries

      written : coefficients_at row.order k next.entries ≡ digits_with_word old at (digit_of_words words)
      written =
          subst (λ o. coefficients_at o k next.entries ≡ digits_with_word (coefficients_at o k self.entries) at (digit_of_words words)) own_order has.written

  pub mirrored_words_all : length row.entries ≤ at * 64 → HasMirroredCoefficients k row before self
  mirrored_words_all all = record {
    order = so_far.order;
    as_long = so_far.as_long;
    written =
        let long = length-all row.order k power self.entries ∙ so_far.as_long ∙ fits in
        ext_get_or 0 (coefficients_at row.order k self.entries) (coefficients_at row.order k (reverse row.entries))
        (long ∙ sym (length-all row.order k power (reverse row.entries) ∙ length-reverse row.entries)) (λ e below.
        so_far.done e (omega (arith, below, long, all)) (omega (arith, below, long)));
    kept = so_far.kept;
  }

  -- digits of the entries in the opposite order can be written
  pub reversed_digit_small : (e : ℕ) → IsRow row → get_or (coefficients_at row.order k (reverse row.entries)) e 0 < prime_of self.order
  reversed_digit_small e h =
      subst (λ o. get_or (coefficients_at row.order k (reverse row.entries)) e 0 < prime_of o) (sym own_order)
      (coefficient-small row.order k power (reverse row.entries) e (is_row_mirrored row h))

-- ---- the powers of x one after another

-- a row over the field of another and of its length, with its coefficients of x^k in the opposite order for k below n
pub record IsMirroredBelow (n : ℕ) (row other : RowValue) : Type 0 where
  pub order : other.order ≡ row.order
  pub as_long : length other.entries ≡ length row.entries
  pub well_formed : IsRow other
  pub done : (k : ℕ) → k < n → coefficients_at row.order k other.entries ≡ coefficients_at row.order k (reverse row.entries)

pub mirrored_below_none : (row other : RowValue) (o : Order) (n : ℕ) → other ≡ record { order = o; entries = replicate n 0 } → o ≡ row.order →
    n ≡ length row.entries → IsRow other → IsMirroredBelow 0 row other
mirrored_below_none row other o n is order count well_formed = record {
  order = ap (λ (r : RowValue). r.order) is ∙ order;
  as_long = ap (λ (r : RowValue). length r.entries) is ∙ length-replicate n 0 ∙ count;
  well_formed = well_formed;
  done = λ k below. absurd (omega (arith, below));
}

pub mirrored_below_more : (n : ℕ) (row other next : RowValue) → IsMirroredBelow n row other → HasMirroredCoefficients n row other next → IsRow next →
    IsMirroredBelow (n + 1) row next
mirrored_below_more n row other next h has well_formed = record {
  order = has.order ∙ h.order;
  as_long = has.as_long ∙ h.as_long;
  well_formed = well_formed;
  done = λ k below. elim (cases_eq k n) [
    | inl same ↦
        subst (λ j. coefficients_at row.order j next.entries ≡ coefficients_at row.order j (reverse row.entries)) (sym same) has.written
    | inr different ↦ has.kept k different ∙ h.done k (omega (arith, below, different))
  ];
}

pub mirrored_below_all : (n : ℕ) (row other : RowValue) → IsMirroredBelow n row other → IsRow row → degree_of row.order ≤ n → other ≡ mirrored_row row
mirrored_below_all n row other h well_formed all =
    same_row other (mirrored_row row) h.order
    (ext_get_or 0 other.entries (reverse row.entries) (h.as_long ∙ sym (length-reverse row.entries)) (λ e below.
    let inside : e < length (reverse row.entries) = omega (arith, below, h.as_long, length-reverse row.entries) in
    same_entry row.order other.entries (reverse row.entries) e
    (subst (λ o. IsElement o (get_or other.entries e 0)) h.order (h.well_formed.elements e 0 below))
    ((is_row_mirrored row well_formed).elements e 0 inside) below inside (λ k power. h.done k (omega (arith, power, all)))))
