-- Rows over a field of odd characteristic that is known: the words of their coefficients, and the entries of a word.
use Rattle.std.proofs.Common.{◌≡◌, ◌≢◌, ℕ, ◌+◌, ◌*◌, ◌<◌, ◌≤◌, List, [], ◌∷◌, length, get_or, refl, sym, ap, ◌∙◌, arith}
use Rattle.std.specs.Int.{bit_at}
use Rattle.std.specs.Int.Bits.{bit_and}
use Rattle.std.proofs.lemmas.List.{get_or_past}
use Rattle.std.proofs.lemmas.Nat.Bits.{bit_at-zero}
use Rattle.axe_algebra.proofs.ListEntries.{listed_length, listed_at}
use Rattle.axe_field.specs.Order.{Order, Two, Three, Four, Five, Seven, Eight, Nine, order_number, prime_of, degree_of}
use Rattle.axe_lane.specs.Entries.{AreZerosBetween, AreZerosFrom, IsNextNonzero}
use Rattle.axe_layer.specs.Supports.{restricted, IsSupportWord}
use Rattle.axe_layer.specs.Words.{digit_of_words}
use Rattle.axe_layer.proofs.SupportLaws.{length-restricted, none_in_all, support_of_restricted}
use Rattle.axe_plane.specs.Planes.{digits_of}
use Rattle.axe_plane.specs.declared.Plane.{Plane}
use Rattle.axe_row.specs.BitBlocks.{bits_of_word}
use Rattle.axe_row.specs.EntryWords.{entries_in_word}
use Rattle.axe_row.specs.FoundEntries.{IsNextEntry, HoldTritWords}
use Rattle.axe_row.specs.Planes.{ArePlanes}
use Rattle.axe_row.specs.Rows.{RowValue}
use Rattle.axe_row.proofs.NextEntries.{entry_is}
use Rattle.axe_row.proofs.RowPlanes.{entries_of, no_quadratic}

-- ---- the fields by their orders

-- of odd characteristic one alone is not prime
pub degree_of_odd : (o : Order) → prime_of o ≢ 2 → order_number o ≢ 9 → degree_of o ≡ 1
degree_of_odd Two odd not_nine = absurd (odd refl)
degree_of_odd Three odd not_nine = refl
degree_of_odd Four odd not_nine = absurd (odd refl)
degree_of_odd Five odd not_nine = refl
degree_of_odd Seven odd not_nine = refl
degree_of_odd Eight odd not_nine = absurd (odd refl)
degree_of_odd Nine odd not_nine = absurd (not_nine refl)

-- the odd characteristics are 3, of which there are two fields, and 5 and 7
pub prime_from_five : (o : Order) → prime_of o ≢ 2 → order_number o ≢ 3 → order_number o ≢ 9 → 5 ≤ prime_of o
prime_from_five Two odd not_three not_nine = absurd (odd refl)
prime_from_five Three odd not_three not_nine = absurd (not_three refl)
prime_from_five Four odd not_three not_nine = absurd (odd refl)
prime_from_five Five odd not_three not_nine = omega arith
prime_from_five Seven odd not_three not_nine = omega arith
prime_from_five Eight odd not_three not_nine = absurd (odd refl)
prime_from_five Nine odd not_three not_nine = absurd (not_nine refl)

-- and of these fields all are prime
pub degree_from_five : (o : Order) → 5 ≤ prime_of o → degree_of o ≡ 1
degree_from_five Two five = absurd (omega (arith, five))
degree_from_five Three five = absurd (omega (arith, five))
degree_from_five Four five = absurd (omega (arith, five))
degree_from_five Five five = refl
degree_from_five Seven five = refl
degree_from_five Eight five = absurd (omega (arith, five))
degree_from_five Nine five = absurd (omega (arith, five))

-- modulo 3 there are no coefficients of x^2
no_squares : (o : Order) → prime_of o ≡ 3 → degree_of o ≢ 3
no_squares Two three cube = absurd (omega arith)
no_squares Three three cube = absurd (omega arith)
no_squares Four three cube = absurd (omega arith)
no_squares Five three cube = absurd (omega arith)
no_squares Seven three cube = absurd (omega arith)
no_squares Eight three cube = absurd (omega arith)
no_squares Nine three cube = absurd (omega arith)

-- ---- the words of a row's planes modulo 3

-- those of the coefficients of 1 and of x
pub digits_hold_trits : (o : Order) (c l q : Plane) (self : RowValue) → ArePlanes o (length (digits_of c)) c l q →
    record { order = o; entries = entries_of o c l q } ≡ self → (k : ℕ) (u v : List ℕ) → prime_of o ≡ 3 →
    ((i : ℕ) → i < 64 → digit_of_words u i ≡ get_or (digits_of c) (k * 64 + i) 0) →
    ((i : ℕ) → i < 64 → digit_of_words v i ≡ get_or (digits_of l) (k * 64 + i) 0) → HoldTritWords self.entries k u v
digits_hold_trits o c l q self h self_is k u v three hu hv = λ i low.
    let e = k * 64 + i in
    let none = get_or_past (digits_of q) e 0 (omega (arith, no_quadratic o (length (digits_of c)) q h.quadratic (no_squares o three))) in
    omega (arith, entry_is o c l q self h self_is 3 e (h.constant.prime ∙ three), none, hu i low, hv i low)

-- over a prime field the words of one plane alone
pub digits_hold_alone : (digits entries : List ℕ) (k : ℕ) (u : List ℕ) → digits ≡ entries →
    ((i : ℕ) → i < 64 → digit_of_words u i ≡ get_or digits (k * 64 + i) 0) → HoldTritWords entries k u (0 ∷ 0 ∷ [])
digits_hold_alone digits entries k u alone hu = λ i low.
    let same = ap (λ (d : List ℕ). get_or d (k * 64 + i) 0) alone in
    omega (arith, same, hu i low, bit_at-zero i)

-- ---- the next entry of a word of a row

module _ (entries : List ℕ) (k support places : ℕ) (of_row : IsSupportWord entries k support) where
  -- the entry at a place of the word
  entry_in_word : (i : ℕ) → i < 64 → get_or (entries_in_word entries k) i 0 ≡ get_or entries (k * 64 + i) 0
  entry_in_word i low = listed_at 64 (λ j. get_or entries (k * 64 + j) 0) i 0 low

  -- the row's support in the word is that of the word's entries
  support_of_word : IsSupportWord (entries_in_word entries k) 0 support
  support_of_word = λ i low.
      let here : 0 * 64 + i ≡ i = omega arith in
      let same = ap (λ j. get_or (entries_in_word entries k) j 0) here ∙ entry_in_word i low in
      (λ none. same ∙ (of_row i low).0 none, λ none. (of_row i low).1 (sym same ∙ none))

  -- and so is that at the places
  pub support_at_places : IsSupportWord (restricted (bits_of_word places) (entries_in_word entries k)) 0 (bit_and support places)
  support_at_places =
      support_of_restricted (bits_of_word places) (entries_in_word entries k) 0 support places support_of_word (λ i low.
      let here : 0 * 64 + i ≡ i = omega arith in
      sym (ap (λ j. get_or (bits_of_word places) j 0) here ∙ listed_at 64 (bit_at places) i 0 low))

  long : length (restricted (bits_of_word places) (entries_in_word entries k)) ≡ 64
  long = length-restricted (bits_of_word places) (entries_in_word entries k) ∙ listed_length 64 (λ j. get_or entries (k * 64 + j) 0)

  -- there is none at the places
  pub none_in_word : AreZerosBetween (restricted (bits_of_word places) (entries_in_word entries k)) 0 64 →
      AreZerosFrom (restricted (bits_of_word places) (entries_in_word entries k)) 0
  none_in_word zeros = none_in_all (restricted (bits_of_word places) (entries_in_word entries k)) 0 1 zeros (omega (arith, long))

  -- the place of one that is found
  pub place_in_word : (place : ℕ) → IsNextNonzero (restricted (bits_of_word places) (entries_in_word entries k)) 0 place → place < 64
  place_in_word place next = omega (arith, next.within, long)

  -- it is the entry of the row there
  pub found_in_word : (place entry : ℕ) → IsNextNonzero (restricted (bits_of_word places) (entries_in_word entries k)) 0 place →
      entry ≡ get_or entries (k * 64 + place) 0 → IsNextEntry (bits_of_word places) (entries_in_word entries k) 0 place entry
  found_in_word place entry next is = record {
    next = next;
    entry_is = is ∙ sym (entry_in_word place (place_in_word place next));
  }
