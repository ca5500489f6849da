-- The entries of a row in words of 64.
use Rattle.std.proofs.Common.{◌≡◌, ◌≢◌, ℕ, ◌+◌, ◌*◌, ◌/◌, ◌<◌, ◌≤◌, List, length, get_or, Box, Global, Some, MatchOption, refl, sym, ap, subst, ◌∙◌, arith, inl, inr}
use Rattle.std.specs.Int.{bit_at}
use Rattle.std.specs.Int.RustNames.{bit_or}
use Rattle.std.proofs.lemmas.List.{ext_get_or, get_or_past}
use Rattle.std.proofs.lemmas.Nat.Bits.{bit_at-zero, bit_at_or}
use native.Mathlib.Decide.{dec_lt}
use Rattle.axe_algebra.specs.Lists.{listed}
use Rattle.axe_field.specs.Order.{Order, Two, Three, Four, Five, Seven, Eight, Nine, order_number, prime_of, degree_of}
use Rattle.axe_layer.proofs.DigitLaws.{digit-below}
use Rattle.axe_plane.specs.Planes.{digits_of, IsPlaneOf}
use Rattle.axe_plane.specs.declared.Plane.{Plane}
use Rattle.axe_row.specs.HigherPlanes.{HigherPlanes, AreKeptPlanes}
use Rattle.axe_row.specs.Planes.{ArePlanes}
use Rattle.axe_row.specs.Rows.{RowValue}
use Rattle.axe_row.specs.declared.higher.Higher.{Higher}
use Rattle.axe_row.proofs.NextEntries.{entry_is}
use Rattle.axe_row.proofs.RowPlanes.{entries_of, no_quadratic, prime-positive}
use Rattle.axe_algebra.proofs.ListEntries.{listed_length, listed_at}
use Rattle.axe_lane.specs.Entries.{AreZerosBetween, AreZerosFrom}
use Rattle.axe_layer.specs.Supports.{IsSupportWord}
use Rattle.axe_plane.specs.NumberWords.{number_of_words}
use Rattle.axe_row.specs.EntryWords.{entries_in_word, weighted_numbers, IsWeight}

-- ---- lists of 64 numbers

pub same_numbers : (f g : ℕ → ℕ) → ((i : ℕ) → i < 64 → f i ≡ g i) → listed 64 f ≡ listed 64 g
same_numbers f g same =
    ext_get_or 0 (listed 64 f) (listed 64 g) (listed_length 64 f ∙ sym (listed_length 64 g)) (λ i inside.
    let low : i < 64 = omega (arith, inside, listed_length 64 f) in
    listed_at 64 f i 0 low ∙ same i low ∙ sym (listed_at 64 g i 0 low))

-- ---- the numbers that four words make with a weight

module _ (a b c d w : ℕ) where
  abbrev weighted : ℕ → ℕ
  weighted i = bit_at a i + 2 * bit_at b i + w * (bit_at c i + 2 * bit_at d i)

  pub length-weighted_numbers : length (weighted_numbers a b c d w) ≡ 64
  unfolding weighted_numbers
  length-weighted_numbers = listed_length 64 weighted

  pub weighted_number-at : (i : ℕ) → i < 64 → get_or (weighted_numbers a b c d w) i 0 ≡ weighted i
  unfolding weighted_numbers
  weighted_number-at i low = listed_at 64 weighted i 0 low

  pub weighted_numbers-are : (f : ℕ → ℕ) → ((i : ℕ) → i < 64 → weighted i ≡ f i) → weighted_numbers a b c d w ≡ listed 64 f
  unfolding weighted_numbers
  weighted_numbers-are f same = same_numbers weighted f same

-- what the higher number counts is not 0, and small
counted : (w x : ℕ) → IsWeight w → w * x ≡ 0 → x ≡ 0
counted w x (inl three) none = let same : 3 * x ≡ 0 = ap (λ v. v * x) (sym three) ∙ none in omega (arith, same)
counted w x (inr four) none = let same : 4 * x ≡ 0 = ap (λ v. v * x) (sym four) ∙ none in omega (arith, same)

pub weighted-small : (w x : ℕ) → IsWeight w → x < 4 → w * x < 16
weighted-small w x (inl three) small = rw three (omega (arith, small))
weighted-small w x (inr four) small = rw four (omega (arith, small))

-- their support is that of the words
pub support_of_weighted : (a b c d w : ℕ) → IsWeight w → IsSupportWord (weighted_numbers a b c d w) 0 (bit_or (bit_or (bit_or a b) c) d)
support_of_weighted a b c d w weight = λ i low.
    let here : 0 * 64 + i ≡ i = omega arith in
    let number = ap (λ j. get_or (weighted_numbers a b c d w) j 0) here ∙ weighted_number-at a b c d w i low in
    let two = bit_at_or a b i in
    let three = bit_at_or (bit_or a b) c i in
    let four = bit_at_or (bit_or (bit_or a b) c) d i in (
      λ none.
          let last : bit_at c i + 2 * bit_at d i ≡ 0 = omega (arith, none, three, four) in
          let higher : w * (bit_at c i + 2 * bit_at d i) ≡ 0 = rw last (omega arith) in
          number ∙ omega (arith, none, two, three, four, higher),
      λ none.
          let sum = sym number ∙ none in
          let last = counted w (bit_at c i + 2 * bit_at d i) weight (omega (arith, sum)) in
          omega (arith, sum, last, two, three, four),
    )

-- ---- the next entry of a word

module _ (numbers : List ℕ) (place : ℕ) (long : length numbers ≡ 64) where
  pub none_found : 64 ≤ place → AreZerosFrom numbers place
  none_found past = λ j from. get_or_past numbers j 0 (omega (arith, long))

  pub none_left : AreZerosBetween numbers place ((place / 64 + 1) * 64) → AreZerosFrom numbers place
  none_left zeros = λ j from. elim (dec_lt j 64) [
    | yes inside ↦ zeros j from (omega arith)
    | no outside ↦ get_or_past numbers j 0 (omega (arith, long))
  ]

-- the word in which a place stands
pub support_at_place : (numbers : List ℕ) (place word : ℕ) → place < 64 → IsSupportWord numbers 0 word → IsSupportWord numbers (place / 64) word
support_at_place numbers place word inside h =
    let first : 0 ≡ place / 64 = omega (arith, inside) in
    subst (λ k. IsSupportWord numbers k word) first h

-- the entry at a place
pub weighted_entry : (a b c d w place low high : ℕ) (numbers : List ℕ) → weighted_numbers a b c d w ≡ numbers → place < 64 →
    low ≡ bit_at a place + 2 * bit_at b place + 4 * bit_at 0 place → high ≡ bit_at c place + 2 * bit_at d place + 4 * bit_at 0 place →
    low + w * high ≡ get_or numbers place 0
weighted_entry a b c d w place low high numbers view_is inside low_is high_is =
    let one : low ≡ bit_at a place + 2 * bit_at b place = omega (arith, low_is, bit_at-zero place) in
    let two : high ≡ bit_at c place + 2 * bit_at d place = omega (arith, high_is, bit_at-zero place) in
    ap (λ x. x + w * high) one ∙ ap (λ x. bit_at a place + 2 * bit_at b place + w * x) two
    ∙ sym (weighted_number-at a b c d w place inside) ∙ ap (λ (xs : List ℕ). get_or xs place 0) view_is

-- ---- words of coefficients

pub weighted_by_numbers : (x : List ℕ) → weighted_numbers (get_or x 0 0) (get_or x 1 0) (get_or x 2 0) 0 4 ≡ listed 64 (number_of_words x)
weighted_by_numbers x = weighted_numbers-are _ _ _ _ _ (number_of_words x) (λ i low. omega (arith, bit_at-zero i))

pub weighted_by_bits : (x y z : List ℕ) → ((i : ℕ) → i < 64 → number_of_words x i < 2) → ((i : ℕ) → i < 64 → number_of_words y i < 2) →
    ((i : ℕ) → i < 64 → number_of_words z i < 2) → weighted_numbers (get_or x 0 0) (get_or y 0 0) (get_or z 0 0) 0 4
    ≡ listed 64 (λ i. number_of_words x i + 2 * (number_of_words y i + 2 * number_of_words z i))
weighted_by_bits x y z hx hy hz =
    weighted_numbers-are _ _ _ _ _ (λ i. number_of_words x i + 2 * (number_of_words y i + 2 * number_of_words z i))
    (λ i low. omega (arith, bit_at-zero i, hx i low, hy i low, hz i low))

pub weighted_by_trits : (x y : List ℕ) → ((i : ℕ) → i < 64 → number_of_words x i < 3) → ((i : ℕ) → i < 64 → number_of_words y i < 3) →
    weighted_numbers (get_or x 0 0) (get_or x 1 0) (get_or y 0 0) (get_or y 1 0) 3
    ≡ listed 64 (λ i. number_of_words x i + 3 * number_of_words y i)
weighted_by_trits x y hx hy =
    weighted_numbers-are _ _ _ _ _ (λ i. number_of_words x i + 3 * number_of_words y i) (λ i low. omega (arith, hx i low, hy i low))

-- ---- the words of a row's planes

pub three_of_nine : (o : Order) → order_number o ≡ 9 → prime_of o ≡ 3
three_of_nine Two nine = absurd (omega arith)
three_of_nine Three nine = absurd (omega arith)
three_of_nine Four nine = absurd (omega arith)
three_of_nine Five nine = absurd (omega arith)
three_of_nine Seven nine = absurd (omega arith)
three_of_nine Eight nine = absurd (omega arith)
three_of_nine Nine nine = refl

no_squares : (o : Order) → order_number o ≡ 9 → degree_of o ≢ 3
no_squares Two nine three = absurd (omega arith)
no_squares Three nine three = absurd (omega arith)
no_squares Four nine three = absurd (omega arith)
no_squares Five nine three = absurd (omega arith)
no_squares Seven nine three = absurd (omega arith)
no_squares Eight nine three = absurd (omega arith)
no_squares Nine nine three = absurd (omega arith)

two_of_others : (o : Order) → order_number o ≢ 9 → degree_of o ≢ 1 → prime_of o ≡ 2
two_of_others Two other higher = absurd (higher refl)
two_of_others Three other higher = absurd (higher refl)
two_of_others Four other higher = refl
two_of_others Five other higher = absurd (higher refl)
two_of_others Seven other higher = absurd (higher refl)
two_of_others Eight other higher = refl
two_of_others Nine other higher = absurd (other refl)

-- where the planes above the first are kept
pub two_of_kept : (o : Order) (n : ℕ) (c : Plane) (higher : HigherPlanes) (kept : Box Higher Global) → AreKeptPlanes o n c higher → higher ≡ Some kept →
    order_number o ≢ 9 → prime_of o ≡ 2
two_of_kept o n c higher kept h is other =
    two_of_others o other (subst (λ (z : HigherPlanes). MatchOption z (degree_of o ≡ 1) (λ planes. degree_of o ≢ 1)) is h.needed)

-- what the words of a plane's digits are below
pub plane_number-below : (o : Order) (p n : ℕ) (plane : Plane) (e number : ℕ) → prime_of o ≡ p → IsPlaneOf (prime_of o) n plane →
    number ≡ get_or (digits_of plane) e 0 → number < p
plane_number-below o p n plane e number prime h is =
    omega (arith, prime, is, digit-below (prime_of o) (digits_of plane) e (prime-positive o) h.digits)

module _ (o : Order) (c l q : Plane) (self : RowValue) (h : ArePlanes o (length (digits_of c)) c l q)
    (self_is : record { order = o; entries = entries_of o c l q } ≡ self) (k : ℕ) where
  pub words_of_trits_make : (x y : List ℕ) → order_number o ≡ 9 → ((i : ℕ) → i < 64 → number_of_words x i ≡ get_or (digits_of c) (k * 64 + i) 0) →
      ((i : ℕ) → i < 64 → number_of_words y i ≡ get_or (digits_of l) (k * 64 + i) 0) →
      listed 64 (λ i. number_of_words x i + 3 * number_of_words y i) ≡ entries_in_word self.entries k
  words_of_trits_make x y nine hx hy =
      same_numbers (λ i. number_of_words x i + 3 * number_of_words y i) (λ i. get_or self.entries (k * 64 + i) 0) (λ i low.
      let e = k * 64 + i in
      let none = get_or_past (digits_of q) e 0 (omega (arith, no_quadratic o (length (digits_of c)) q h.quadratic (no_squares o nine))) in
      omega (arith, hx i low, hy i low, none, entry_is o c l q self h self_is 3 e (h.constant.prime ∙ three_of_nine o nine)))

  pub words_of_bits_make : (x y z : List ℕ) → prime_of o ≡ 2 → ((i : ℕ) → i < 64 → number_of_words x i ≡ get_or (digits_of c) (k * 64 + i) 0) →
      ((i : ℕ) → i < 64 → number_of_words y i ≡ get_or (digits_of l) (k * 64 + i) 0) →
      ((i : ℕ) → i < 64 → number_of_words z i ≡ get_or (digits_of q) (k * 64 + i) 0) →
      listed 64 (λ i. number_of_words x i + 2 * (number_of_words y i + 2 * number_of_words z i)) ≡ entries_in_word self.entries k
  words_of_bits_make x y z two hx hy hz =
      same_numbers (λ i. number_of_words x i + 2 * (number_of_words y i + 2 * number_of_words z i)) (λ i. get_or self.entries (k * 64 + i) 0)
      (λ i low. omega (arith, hx i low, hy i low, hz i low, entry_is o c l q self h self_is 2 (k * 64 + i) (h.constant.prime ∙ two)))

pub words_alone_make : (digits entries x : List ℕ) (k : ℕ) → digits ≡ entries → ((i : ℕ) → i < 64 → number_of_words x i ≡ get_or digits (k * 64 + i) 0) →
    listed 64 (number_of_words x) ≡ entries_in_word entries k
words_alone_make digits entries x k alone hx = same_numbers _ _ (λ i low. hx i low ∙ ap (λ (d : List ℕ). get_or d (k * 64 + i) 0) alone)
