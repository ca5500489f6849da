-- Sums of rows of digits modulo 3 of which the other is 0 before a word: the words before that stay.
use Rattle.std.proofs.Common.{◌≡◌, ℕ, ◌+◌, ◌-◌, ◌*◌, ◌/◌, ◌%◌, ◌^◌, ◌<◌, ◌≤◌, List, ◌++◌, length, get_or, take, drop, sym, ap, ap₂, subst, ◌∙◌, arith, inl, inr}
use Rattle.std.specs.Int.{bit_at}
use Rattle.std.proofs.lemmas.Bool.{cases_lt}
use Rattle.std.proofs.lemmas.List.{get_or-drop, length-drop, length-take}
use Rattle.std.proofs.lemmas.Nat.Bits.{bit_at-zero}
use Rattle.std.proofs.Math.Seq.{drop-append_seam, take-append_seam}
use Rattle.axe_lane.specs.Entries.{AreZerosBefore}
use Rattle.axe_lane.specs.Trits.{AreTrits, AreTritsOf, FitAt, IsTritSum, IsTritSumOfThree}
use Rattle.axe_lane.specs.Words.{bit_of}
use Rattle.axe_layer.specs.Bits.{bits}
use Rattle.axe_bits.specs.Trits.{trits, AreZeroLayersBefore, HoldLayers}
use Rattle.axe_layer.proofs.EndLaws.{end-before, end-after, end_is, end_written, length-end, zero_words_before}
use Rattle.axe_bits.proofs.TritLaws.{get_or-trits}

-- ---- the words from one on

-- a bit of them
bit-drop : (a : ℕ) (words : List ℕ) (i : ℕ) → a * 64 ≤ i → bit_of (drop a words) (i - a * 64) ≡ bit_of words i
unfolding bit_of
bit-drop a words i from =
    let word : a + (i - a * 64) / 64 ≡ i / 64 = omega arith in
    let place : (i - a * 64) % 64 ≡ i % 64 = omega arith in
    ap (λ w. bit_at w ((i - a * 64) % 64)) (get_or-drop a words ((i - a * 64) / 64) 0)
    ∙ ap₂ (λ k p. bit_at (get_or words k 0) p) word place

word-drop : (a : ℕ) (words : List ℕ) (k : ℕ) → a ≤ k → get_or (drop a words) (k - a) 0 ≡ get_or words k 0
word-drop a words k from =
    let there : a + (k - a) ≡ k = omega arith in get_or-drop a words (k - a) 0 ∙ ap (λ j. get_or words j 0) there

pub AreTrits-drop : (a : ℕ) (ones twos : List ℕ) → AreTrits ones twos → AreTrits (drop a ones) (drop a twos)
AreTrits-drop a ones twos h = record {
  as_long = omega (arith, length-drop a ones, length-drop a twos, h.as_long);
  apart = λ i.
      let back : i + a * 64 - a * 64 ≡ i = omega arith in
      let one = ap (bit_of (drop a ones)) (sym back) ∙ bit-drop a ones (i + a * 64) (omega arith) in
      let two = ap (bit_of (drop a twos)) (sym back) ∙ bit-drop a twos (i + a * 64) (omega arith) in
      omega (arith, one, two, h.apart (i + a * 64));
}

-- ---- words with another end

module _ (a : ℕ) (words new : List ℕ) (room : a ≤ length words) where
  bit-before : (i : ℕ) → i < a * 64 → bit_of (take a words ++ new) i ≡ bit_of words i
  unfolding bit_of
  bit-before i before = ap (λ w. bit_at w (i % 64)) (end-before a words new room (i / 64) (omega arith))

  bit-after : (i : ℕ) → a * 64 ≤ i → bit_of (take a words ++ new) i ≡ bit_of new (i - a * 64)
  unfolding bit_of
  bit-after i from =
      let word : i / 64 - a ≡ (i - a * 64) / 64 = omega arith in
      let place : i % 64 ≡ (i - a * 64) % 64 = omega arith in
      ap (λ w. bit_at w (i % 64)) (end-after a words new room (i / 64) (omega arith))
      ∙ ap₂ (λ k p. bit_at (get_or new k 0) p) word place

-- words that are 0 have no bit
no_bit_before : (a : ℕ) (words : List ℕ) (i : ℕ) → AreZerosBefore words a → i < a * 64 → bit_of words i ≡ 0
unfolding bit_of
no_bit_before a words i zeros before = ap (λ w. bit_at w (i % 64)) (zeros (i / 64) (omega arith)) ∙ bit_at-zero (i % 64)

-- ---- the sum

module _ (a : ℕ) (o t x y p q : List ℕ) (room : a ≤ length o) (row : AreTrits o t) (zero_x : AreZerosBefore x a) (zero_y : AreZerosBefore y a)
    (sum : IsTritSum (drop a o) (drop a t) (drop a x) (drop a y) p q) where
  twos_room : a ≤ length t
  twos_room = omega (arith, row.as_long)

  ones_long : length (take a o ++ p) ≡ length o
  ones_long = length-end a o p room sum.long

  twos_long : length (take a t ++ q) ≡ length t
  twos_long = length-end a t q twos_room (sum.are_trits.as_long ∙ sum.long ∙ sym (AreTrits-drop a o t row).as_long)

  fits_after : (k : ℕ) → a ≤ k → FitAt k o t x y → FitAt (k - a) (drop a o) (drop a t) (drop a x) (drop a y)
  fits_after k from h = record {
    ones_fit = subst (λ w. w < 2 ^ 64) (sym (word-drop a o k from)) h.ones_fit;
    twos_fit = subst (λ w. w < 2 ^ 64) (sym (word-drop a t k from)) h.twos_fit;
    more_ones_fit = subst (λ w. w < 2 ^ 64) (sym (word-drop a x k from)) h.more_ones_fit;
    more_twos_fit = subst (λ w. w < 2 ^ 64) (sym (word-drop a y k from)) h.more_twos_fit;
  }

  pub IsTritSum-end : IsTritSum o t x y (take a o ++ p) (take a t ++ q)
  IsTritSum-end = record {
    long = ones_long;
    are_trits = record {
      as_long = twos_long ∙ row.as_long ∙ sym ones_long;
      apart = λ i. elim (cases_lt i (a * 64)) [
        | inl before ↦ omega (arith, row.apart i, bit-before a o p room i before, bit-before a t q twos_room i before)
        | inr from ↦
            omega (arith, sum.are_trits.apart (i - a * 64), bit-after a o p room i from, bit-after a t q twos_room i from)
      ];
    };
    entries = λ i. elim (cases_lt i (a * 64)) [
      | inl before ↦
          let one = bit-before a o p room i before in
          let two = bit-before a t q twos_room i before in
          let none = no_bit_before a x i zero_x before in
          let no_other = no_bit_before a y i zero_y before in
          omega (arith, one, two, none, no_other, row.apart i)
      | inr from ↦
          let one = bit-after a o p room i from in
          let two = bit-after a t q twos_room i from in
          let digit = sum.entries (i - a * 64) in
          omega (arith, one, two, digit, bit-drop a o i from, bit-drop a t i from, bit-drop a x i from, bit-drop a y i from)
    ];
    ones_fit = λ k h. elim (cases_lt k a) [
      | inl before ↦ subst (λ w. w < 2 ^ 64) (sym (end-before a o p room k before)) h.ones_fit
      | inr from ↦ subst (λ w. w < 2 ^ 64) (sym (end-after a o p room k from)) (sum.ones_fit (k - a) (fits_after k from h))
    ];
    twos_fit = λ k h. elim (cases_lt k a) [
      | inl before ↦ subst (λ w. w < 2 ^ 64) (sym (end-before a t q twos_room k before)) h.twos_fit
      | inr from ↦ subst (λ w. w < 2 ^ 64) (sym (end-after a t q twos_room k from)) (sum.twos_fit (k - a) (fits_after k from h))
    ];
  }

-- two rows are added one after another, to the words from one on
module _ (a : ℕ) (o t x x' y y' p q : List ℕ) (room : a ≤ length o) (row : AreTrits o t) (zero_x : AreZeroLayersBefore x x' a)
    (zero_y : AreZeroLayersBefore y y' a) (sum : IsTritSumOfThree (drop a o) (drop a t) (drop a x) (drop a x') (drop a y) (drop a y') p q) where
  -- the list before the second sum
  module _ (words new : List ℕ) (within : a ≤ length words) where
    front_counted : a ≡ length (take a words)
    front_counted = omega (arith, length-take a words)

    front_is : take a (take a words ++ new) ≡ take a words
    front_is = ap (λ k. take k (take a words ++ new)) front_counted ∙ take-append_seam (take a words) new

    end_of : drop a (take a words ++ new) ≡ new
    end_of = ap (λ k. drop k (take a words ++ new)) front_counted ∙ drop-append_seam (take a words) new

  room_of_twos : a ≤ length t
  room_of_twos = omega (arith, row.as_long)

  abbrev o2 : List ℕ
  o2 = take a o ++ sum.ones_of_two

  abbrev t2 : List ℕ
  t2 = take a t ++ sum.twos_of_two

  first_sum : IsTritSum o t x x' o2 t2
  first_sum = IsTritSum-end a o t x x' sum.ones_of_two sum.twos_of_two room row zero_x.ones_zero zero_x.twos_zero sum.first

  second_sum : IsTritSum (drop a o2) (drop a t2) (drop a y) (drop a y') p q
  second_sum =
      subst (λ (v : List ℕ). IsTritSum v (drop a t2) (drop a y) (drop a y') p q) (sym (end_of o sum.ones_of_two room))
      (subst (λ (v : List ℕ). IsTritSum sum.ones_of_two v (drop a y) (drop a y') p q) (sym (end_of t sum.twos_of_two room_of_twos)) sum.second)

  pub IsTritSumOfThree-end : IsTritSumOfThree o t x x' y y' (take a o ++ p) (take a t ++ q)
  IsTritSumOfThree-end = record {
    ones_of_two = o2;
    twos_of_two = t2;
    first = first_sum;
    second =
        subst (λ (v : List ℕ). IsTritSum o2 t2 y y' (v ++ p) (take a t ++ q)) (front_is o sum.ones_of_two room)
        (subst (λ (v : List ℕ). IsTritSum o2 t2 y y' (take a o2 ++ p) (v ++ q)) (front_is t sum.twos_of_two room_of_twos)
        (IsTritSum-end a o2 t2 y y' p q (omega (arith, first_sum.long)) first_sum.are_trits zero_y.ones_zero zero_y.twos_zero second_sum));
  }

-- the words from one on, as those that a part of a list lends
pub AreTrits-part : (a : ℕ) (ones twos : List ℕ) → AreTrits ones twos →
    AreTrits (take (length ones - a) (drop a ones)) (take (length twos - a) (drop a twos))
AreTrits-part a ones twos h =
    subst (λ (v : List ℕ). AreTrits v (take (length twos - a) (drop a twos))) (sym (end_is a ones))
    (subst (AreTrits (drop a ones)) (sym (end_is a twos)) (AreTrits-drop a ones twos h))

pub AreTritsOf-part : (a : ℕ) (o ones twos : List ℕ) → length ones ≡ length o → AreTrits ones twos →
    AreTritsOf (length (take (length o - a) (drop a o))) (take (length ones - a) (drop a ones)) (take (length twos - a) (drop a twos))
AreTritsOf-part a o ones twos long h = record {
  long = omega (arith, ap length (end_is a ones), ap length (end_is a o), length-drop a ones, length-drop a o, long);
  are_trits = AreTrits-part a ones twos h;
}

-- the words after, where those from one on were written anew
abbrev pub anew : ℕ → List ℕ → List ℕ → List ℕ
anew a words new = take a words ++ (new ++ drop (length words - a) (drop a words))

module _ (a : ℕ) (o t x y p q : List ℕ) (room : a ≤ length o) (row : AreTrits o t) (zero_x : AreZerosBefore x a) (zero_y : AreZerosBefore y a)
    (sum : IsTritSum (take (length o - a) (drop a o)) (take (length t - a) (drop a t)) (take (length x - a) (drop a x)) (take (length y - a) (drop a y)) p q) where
  sum_of_ends : IsTritSum (drop a o) (drop a t) (drop a x) (drop a y) p q
  sum_of_ends =
      subst (λ (v : List ℕ). IsTritSum v (drop a t) (drop a x) (drop a y) p q) (end_is a o)
      (subst (λ (v : List ℕ). IsTritSum (take (length o - a) (drop a o)) v (drop a x) (drop a y) p q) (end_is a t)
      (subst (λ (v : List ℕ). IsTritSum (take (length o - a) (drop a o)) (take (length t - a) (drop a t)) v (drop a y) p q) (end_is a x)
      (subst (λ (v : List ℕ). IsTritSum (take (length o - a) (drop a o)) (take (length t - a) (drop a t)) (take (length x - a) (drop a x)) v p q) (end_is a y) sum)))

  pub IsTritSum-anew : IsTritSum o t x y (anew a o p) (anew a t q)
  IsTritSum-anew =
      subst (λ (v : List ℕ). IsTritSum o t x y v (anew a t q)) (sym (end_written a o p))
      (subst (IsTritSum o t x y (take a o ++ p)) (sym (end_written a t q))
      (IsTritSum-end a o t x y p q room row zero_x zero_y sum_of_ends))

module _ (a : ℕ) (o t x x' y y' p q : List ℕ) (room : a ≤ length o) (row : AreTrits o t) (zero_x : AreZeroLayersBefore x x' a)
    (zero_y : AreZeroLayersBefore y y' a)
    (sum : IsTritSumOfThree (take (length o - a) (drop a o)) (take (length t - a) (drop a t)) (take (length x - a) (drop a x))
    (take (length x' - a) (drop a x')) (take (length y - a) (drop a y)) (take (length y' - a) (drop a y')) p q) where
  three_of_ends : IsTritSumOfThree (drop a o) (drop a t) (drop a x) (drop a x') (drop a y) (drop a y') p q
  three_of_ends =
      rw (end_is a o, end_is a t, end_is a x, end_is a x', end_is a y, end_is a y') at sum

  pub IsTritSumOfThree-anew : IsTritSumOfThree o t x x' y y' (anew a o p) (anew a t q)
  IsTritSumOfThree-anew =
      subst (λ (v : List ℕ). IsTritSumOfThree o t x x' y y' v (anew a t q)) (sym (end_written a o p))
      (subst (IsTritSumOfThree o t x x' y y' (take a o ++ p)) (sym (end_written a t q))
      (IsTritSumOfThree-end a o t x x' y y' p q room row zero_x zero_y three_of_ends))

-- ---- layers of digits of which those before an index are 0

module _ (n start : ℕ) (ones twos : List ℕ) (h : HoldLayers n ones twos) (zeros : AreZerosBefore (trits (bits n ones) (bits n twos)) start) where
  pub zero_ones_before : AreZerosBefore ones (start / 64)
  zero_ones_before =
      zero_words_before n ones start h.ones_held (λ e before. omega (arith, zeros e before, get_or-trits (bits n ones) (bits n twos) h.together e))

  pub zero_twos_before : AreZerosBefore twos (start / 64)
  zero_twos_before =
      zero_words_before n twos start h.twos_held (λ e before. omega (arith, zeros e before, get_or-trits (bits n ones) (bits n twos) h.together e))

  pub zero_layers_before : AreZeroLayersBefore ones twos (start / 64)
  zero_layers_before = record { ones_zero = zero_ones_before; twos_zero = zero_twos_before }
