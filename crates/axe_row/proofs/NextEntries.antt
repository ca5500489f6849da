-- The next entries of a row among places, by words of 64 entries.
use Rattle.std.proofs.Common.{◌≡◌, ◌≢◌, ℕ, ◌+◌, ◌*◌, ◌/◌, ◌%◌, ◌<◌, List, [], ◌∷◌, length, get_or, cond, ltb, refl, sym, ap, ◌∙◌, arith, inl, inr}
use Rattle.std.specs.Int.{bit_at}
use Rattle.std.specs.Int.RustNames.{bit_or}
use Rattle.std.specs.Int.Bits.{bit_and}
use Rattle.std.proofs.lemmas.Bool.{cases_eq}
use Rattle.std.proofs.lemmas.List.{get_or_past}
use Rattle.std.proofs.lemmas.Nat.Bits.{bit_at-zero, bit_at_or}
use native.Mathlib.Decide.{dec_lt}
use Rattle.axe_field.specs.Order.{Order, Two, Three, Four, Five, Seven, Eight, Nine, prime_of, degree_of}
use Rattle.axe_lane.specs.Entries.{AreZerosBetween, IsNextNonzero}
use Rattle.axe_layer.specs.Supports.{restricted, IsSupportWord}
use Rattle.axe_layer.specs.Words.{digit_of_words}
use Rattle.axe_layer.proofs.SupportLaws.{restricted_away, restricted_to, stands_inside, support_of_bits, support_of_restricted}
use Rattle.axe_plane.specs.Planes.{prime_of_plane, digits_of}
use Rattle.axe_plane.specs.declared.Plane.{Plane}
use Rattle.axe_plane.specs.declared.Plane.TheVariants.{Bits, Trits}
use Rattle.axe_row.specs.FoundEntries.{IsNextEntry, TellsNextEntry, HoldBitWords, HoldTritWords}
use Rattle.axe_row.specs.Planes.{ArePlanes}
use Rattle.axe_row.specs.Rows.{RowValue}
use Rattle.axe_row.proofs.FirstEntries.{digits_past}
use Rattle.axe_row.proofs.RowPlanes.{entries_of, length-entries, entries-at, element_value}

-- ---- what a search tells

module _ (places entries : List ℕ) (start : ℕ) where
  -- an entry that is found is not 0
  pub found_nonzero : (index entry : ℕ) → IsNextEntry places entries start index entry → entry ≢ 0
  found_nonzero index entry h none = elim (cases_eq (get_or places index 0) 0) [
    | inl away ↦ h.next.nonzero (restricted_away places entries index away)
    | inr some ↦ h.next.nonzero (restricted_to places entries index some ∙ sym h.entry_is ∙ none)
  ]

  pub tells_found : (index entry : ℕ) → IsNextNonzero (restricted places entries) start index → entry ≡ get_or entries index 0 →
      TellsNextEntry places entries start index entry
  tells_found index entry next is = record {
    none = λ zero. absurd (found_nonzero index entry (record { next = next; entry_is = is }) zero);
    found = λ _. record { next = next; entry_is = is };
  }

  pub tells_later : (index entry : ℕ) → AreZerosBetween (restricted places entries) start ((start / 64 + 1) * 64) →
      TellsNextEntry places entries ((start / 64 + 1) * 64) index entry → TellsNextEntry places entries start index entry
  tells_later index entry before later = record {
    none = λ zero j from. elim (dec_lt j ((start / 64 + 1) * 64)) [
      | yes inside ↦ before j from inside
      | no outside ↦ later.none zero j (omega arith)
    ];
    found = λ some.
        let next = (later.found some).next in
        record {
          next = record {
            within = next.within;
            not_before = omega (arith, next.not_before);
            nonzero = next.nonzero;
            zeros_between = λ j from earlier. elim (dec_lt j ((start / 64 + 1) * 64)) [
              | yes inside ↦ before j from inside
              | no outside ↦ next.zeros_between j (omega arith) earlier
            ];
          };
          entry_is = (later.found some).entry_is;
        };
  }

-- ---- the word in which the index stands

module _ (places entries : List ℕ) (start support marks : ℕ) (of_entries : IsSupportWord entries (start / 64) support)
    (of_places : (i : ℕ) → i < 64 → bit_at marks i ≡ get_or places (start / 64 * 64 + i) 0) where
  both : IsSupportWord (restricted places entries) (start / 64) (bit_and support marks)
  both = support_of_restricted places entries (start / 64) support marks of_entries of_places

  pub found_in_support : (index entry : ℕ) →
      ((numbers : List ℕ) → IsSupportWord numbers (start / 64) (bit_and support marks) → IsNextNonzero numbers start index) →
      (start / 64 * 64 + index % 64 ≡ index → entry ≡ get_or entries index 0) → TellsNextEntry places entries start index entry
  found_in_support index entry finds is =
      let next = finds (restricted places entries) both in
      let inside = stands_inside (restricted places entries) start (bit_and support marks) index both finds in
      tells_found places entries start index entry next (is (omega (arith, next.not_before, inside)))

  pub found_later : (index entry : ℕ) →
      ((numbers : List ℕ) → IsSupportWord numbers (start / 64) (bit_and support marks) →
      AreZerosBetween numbers start ((start / 64 + 1) * 64)) →
      TellsNextEntry places entries ((start / 64 + 1) * 64) index entry → TellsNextEntry places entries start index entry
  found_later index entry none later = tells_later places entries start index entry (none (restricted places entries) both) later

-- ---- words of coefficients

pub support_of_held_bits : (entries : List ℕ) (k c l q : ℕ) → HoldBitWords entries k c l q → IsSupportWord entries k (bit_or (bit_or c l) q)
support_of_held_bits entries k c l q held = λ i low.
    let two = bit_at_or c l i in
    let three = bit_at_or (bit_or c l) q i in
    (λ none. omega (arith, none, held i low, two, three), λ none. omega (arith, none, held i low, two, three))

pub support_of_held_trits : (entries : List ℕ) (k : ℕ) (c l : List ℕ) → HoldTritWords entries k c l →
    IsSupportWord entries k (bit_or (bit_or (bit_or (get_or c 0 0) (get_or c 1 0)) (get_or l 0 0)) (get_or l 1 0))
support_of_held_trits entries k c l held = λ i low.
    let two = bit_at_or (get_or c 0 0) (get_or c 1 0) i in
    let three = bit_at_or (bit_or (get_or c 0 0) (get_or c 1 0)) (get_or l 0 0) i in
    let four = bit_at_or (bit_or (bit_or (get_or c 0 0) (get_or c 1 0)) (get_or l 0 0)) (get_or l 1 0) i in
    (λ none. omega (arith, none, held i low, two, three, four), λ none. omega (arith, none, held i low, two, three, four))

-- the entry that the words have at a place
pub entry_of_held_bits : (entries : List ℕ) (start c l q index entry : ℕ) → HoldBitWords entries (start / 64) c l q →
    entry ≡ bit_at c (index % 64) + 2 * bit_at l (index % 64) + 4 * bit_at q (index % 64) → start / 64 * 64 + index % 64 ≡ index →
    entry ≡ get_or entries index 0
entry_of_held_bits entries start c l q index entry held is there =
    is ∙ sym (held (index % 64) (omega arith)) ∙ ap (λ j. get_or entries j 0) there

pub entry_of_held_trits : (entries : List ℕ) (start : ℕ) (c l : List ℕ) (index entry : ℕ) → HoldTritWords entries (start / 64) c l →
    entry ≡ digit_of_words c (index % 64) + 3 * digit_of_words l (index % 64) → start / 64 * 64 + index % 64 ≡ index →
    entry ≡ get_or entries index 0
entry_of_held_trits entries start c l index entry held is there =
    is ∙ sym (held (index % 64) (omega arith)) ∙ ap (λ j. get_or entries j 0) there

-- ---- the planes of a row

pub no_squares : (o : Order) (n : ℕ) → prime_of o ≡ 3 → cond (ltb 2 (degree_of o)) n 0 ≡ 0
no_squares Two n three = refl
no_squares Three n three = refl
no_squares Four n three = refl
no_squares Five n three = refl
no_squares Seven n three = refl
no_squares Eight n three = absurd (omega arith)
no_squares Nine n three = refl

module _ (o : Order) (c l q : Plane) (self : RowValue) (h : ArePlanes o (length (digits_of c)) c l q)
    (self_is : record { order = o; entries = entries_of o c l q } ≡ self) where
  -- an entry is put together from the digits at its index, also where there is none
  digits_make : (e : ℕ) → get_or (entries_of o c l q) e 0 ≡
      get_or (digits_of c) e 0 + prime_of o * (get_or (digits_of l) e 0 + prime_of o * get_or (digits_of q) e 0)
  digits_make e = elim (dec_lt e (length (digits_of c))) [
    | yes inside ↦ entries-at o (digits_of c) (digits_of l) (digits_of q) e 0 inside ∙ element_value o _ _ _
    | no outside ↦
        let none = digits_past o (length (digits_of c)) c l q e h (omega arith) in
        let first : get_or (digits_of c) e 0 ≡ 0 = omega (arith, none) in
        let second : get_or (digits_of l) e 0 ≡ 0 = omega (arith, none) in
        let third : get_or (digits_of q) e 0 ≡ 0 = omega (arith, none) in
        get_or_past (entries_of o c l q) e 0 (omega (arith, length-entries o (digits_of c) (digits_of l) (digits_of q)))
        ∙ zero_of (prime_of o) _ _ _ first second third
  ]
    where
      zero_of : (p a b d : ℕ) → a ≡ 0 → b ≡ 0 → d ≡ 0 → 0 ≡ a + p * (b + p * d)
      zero_of p a b d ea eb ed = rw (ea, eb, ed) (omega arith)

  pub entry_is : (p e : ℕ) → prime_of_plane c ≡ p → get_or self.entries e 0 ≡
      get_or (digits_of c) e 0 + p * (get_or (digits_of l) e 0 + p * get_or (digits_of q) e 0)
  entry_is p e prime =
      ap (λ (r : RowValue). get_or r.entries e 0) (sym self_is) ∙ digits_make e
      ∙ ap (λ d. get_or (digits_of c) e 0 + d * (get_or (digits_of l) e 0 + d * get_or (digits_of q) e 0)) (sym h.constant.prime ∙ prime)

  pub planes_hold_bits : (x y z : List ℕ) (k u v w : ℕ) → c ≡ Bits x → l ≡ Bits y → q ≡ Bits z →
      ((i : ℕ) → i < 64 → bit_at u i ≡ get_or x (k * 64 + i) 0) → ((i : ℕ) → i < 64 → bit_at v i ≡ get_or y (k * 64 + i) 0) →
      ((i : ℕ) → i < 64 → bit_at w i ≡ get_or z (k * 64 + i) 0) → HoldBitWords self.entries k u v w
  planes_hold_bits x y z k u v w c_is l_is q_is hu hv hw = λ i low.
      let e = k * 64 + i in
      let first = ap (λ (p : Plane). get_or (digits_of p) e 0) c_is in
      let second = ap (λ (p : Plane). get_or (digits_of p) e 0) l_is in
      let third = ap (λ (p : Plane). get_or (digits_of p) e 0) q_is in
      omega (arith, entry_is 2 e (ap prime_of_plane c_is), first, second, third, hu i low, hv i low, hw i low)

  pub planes_hold_trits : (x y : List ℕ) (k : ℕ) (u v : List ℕ) → c ≡ Trits x → l ≡ Trits y →
      ((i : ℕ) → i < 64 → digit_of_words u i ≡ get_or x (k * 64 + i) 0) →
      ((i : ℕ) → i < 64 → digit_of_words v i ≡ get_or y (k * 64 + i) 0) → HoldTritWords self.entries k u v
  planes_hold_trits x y k u v c_is l_is hu hv = λ i low.
      let e = k * 64 + i in
      let prime = ap prime_of_plane c_is in
      let first = ap (λ (p : Plane). get_or (digits_of p) e 0) c_is in
      let second = ap (λ (p : Plane). get_or (digits_of p) e 0) l_is in
      let third = get_or_past (digits_of q) e 0 (omega (arith, h.quadratic.long, no_squares o (length (digits_of c)) (sym h.constant.prime ∙ prime))) in
      omega (arith, entry_is 3 e prime, first, second, third, hu i low, hv i low)

-- one plane alone
pub bits_hold_alone : (c : Plane) (x entries : List ℕ) (k u : ℕ) → digits_of c ≡ entries → c ≡ Bits x →
    ((i : ℕ) → i < 64 → bit_at u i ≡ get_or x (k * 64 + i) 0) → HoldBitWords entries k u 0 0
bits_hold_alone c x entries k u alone c_is hu = λ i low.
    let first = ap (λ (p : Plane). get_or (digits_of p) (k * 64 + i) 0) c_is in
    let same = ap (λ (d : List ℕ). get_or d (k * 64 + i) 0) alone in
    omega (arith, first, same, hu i low, bit_at-zero i)

pub trits_hold_alone : (c : Plane) (x entries : List ℕ) (k : ℕ) (u : List ℕ) → digits_of c ≡ entries → c ≡ Trits x →
    ((i : ℕ) → i < 64 → digit_of_words u i ≡ get_or x (k * 64 + i) 0) → HoldTritWords entries k u (0 ∷ 0 ∷ [])
trits_hold_alone c x entries k u alone c_is hu = λ i low.
    let first = ap (λ (p : Plane). get_or (digits_of p) (k * 64 + i) 0) c_is in
    let same = ap (λ (d : List ℕ). get_or d (k * 64 + i) 0) alone in
    omega (arith, first, same, hu i low, bit_at-zero i)

-- the very next place, where the entry is not 0
pub first_place_found : (places entries : List ℕ) (start marks index entry : ℕ) →
    ((i : ℕ) → i < 64 → bit_at marks i ≡ get_or places (start / 64 * 64 + i) 0) →
    ((numbers : List ℕ) → IsSupportWord numbers (start / 64) marks → IsNextNonzero numbers start index) →
    entry ≡ get_or entries index 0 → entry ≢ 0 → TellsNextEntry places entries start index entry
first_place_found places entries start marks index entry of_places finds is some =
    let next = finds places (support_of_bits places (start / 64) marks of_places) in
    let here = restricted_to places entries index next.nonzero in
    tells_found places entries start index entry (record {
      within = elim (dec_lt index (length (restricted places entries))) [
        | yes inside ↦ inside
        | no outside ↦ absurd (some (is ∙ sym here ∙ get_or_past (restricted places entries) index 0 (omega arith)))
      ];
      not_before = next.not_before;
      nonzero = λ none. some (is ∙ sym here ∙ none);
      zeros_between = λ j from before. restricted_away places entries j (next.zeros_between j from before);
    }) is
