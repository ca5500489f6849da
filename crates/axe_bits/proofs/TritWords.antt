-- Two layers of words as digits modulo 3: what a sum of such rows is, and their dot products.
use Rattle.std.proofs.Common.{◌≡◌, ℕ, ◌+◌, ◌*◌, ◌%◌, ◌<◌, ◌≤◌, List, length, get_or, sym, ap, ap₂, subst, ◌∙◌, arith, inl, inr}
use Rattle.std.proofs.lemmas.Bool.{cases_lt}
use Rattle.std.proofs.lemmas.List.{ext_get_or, get_or_past}
use Rattle.axe_algebra.proofs.ListEntries.{listed_length, listed_at}
use Rattle.axe_lane.specs.Words.{bit_of}
use Rattle.axe_lane.specs.Trits.{AreTrits, FitAt, IsTritSum, IsTritSumOfFive, IsTritSumOfThree}
use Rattle.axe_layer.specs.Bits.{bits, HoldsBits}
use Rattle.axe_layer.specs.Digits.{digits_with_four, digits_with_multiple}
use Rattle.axe_bits.specs.Trits.{trits, HoldLayers, HoldTrits}
use Rattle.axe_layer.proofs.BitLaws.{length-bits, get_or-bits, plane_long, AreDigits-bits}
use Rattle.axe_layer.proofs.DigitLaws.{length-digits_with_multiple, get_or-digits_with_multiple}

-- how many digits two layers of n bits have, and which
pub length-layers : (n : ℕ) (o t : List ℕ) → length (trits (bits n o) (bits n t)) ≡ n
unfolding trits
length-layers n o t = listed_length (length (bits n o)) _ ∙ length-bits n o

pub get_or-layers : (n : ℕ) (o t : List ℕ) (e : ℕ) → e < n → get_or (trits (bits n o) (bits n t)) e 0 ≡ bit_of o e + 2 * bit_of t e
unfolding trits
get_or-layers n o t e below =
    listed_at (length (bits n o)) _ e 0 (omega (arith, length-bits n o))
    ∙ ap₂ (λ x y. x + 2 * y) (get_or-bits n o e below) (get_or-bits n t e below)

-- no place has a bit in both layers, among the used bits or past them
pub apart_bits : (n : ℕ) (o t : List ℕ) → HoldLayers n o t → (e : ℕ) → bit_of o e + bit_of t e ≤ 1
apart_bits n o t h e = elim (cases_lt e n) [
  | inl below ↦ omega (arith, h.together.apart e, get_or-bits n o e below, get_or-bits n t e below)
  | inr past ↦ omega (arith, h.ones_held.unused e past, h.twos_held.unused e past)
]

-- the layers are a row of the kernels
pub layers_are_trits : (n : ℕ) (o t : List ℕ) → HoldLayers n o t → AreTrits o t
layers_are_trits n o t h = record {
  as_long = h.twos_held.long ∙ sym h.ones_held.long;
  apart = λ e. omega (arith, apart_bits n o t h e);
}

-- two layers of words are layers where no place has a bit in both
pub layers : (n : ℕ) (o t : List ℕ) → HoldsBits n o → HoldsBits n t → ((e : ℕ) → bit_of o e + bit_of t e ≤ 1) → HoldLayers n o t
layers n o t ho ht apart = record {
  ones_held = ho;
  twos_held = ht;
  together = record {
    as_long = length-bits n t ∙ sym (length-bits n o);
    ones_digits = AreDigits-bits n o;
    twos_digits = AreDigits-bits n t;
    apart = λ e. elim (cases_lt e n) [
      | inl below ↦ omega (arith, apart e, get_or-bits n o e below, get_or-bits n t e below)
      | inr past ↦
          let left = get_or_past (bits n o) e 0 (omega (arith, length-bits n o)) in
          let right = get_or_past (bits n t) e 0 (omega (arith, length-bits n t)) in
          omega (arith, left, right)
    ];
  };
}

module _ (n : ℕ) (o t a b p q : List ℕ) (row : HoldLayers n o t) (more : HoldLayers n a b) (sum : IsTritSum o t a b p q) where
  all_fit : (k : ℕ) → FitAt k o t a b
  all_fit k = record {
    ones_fit = row.ones_held.fits k;
    twos_fit = row.twos_held.fits k;
    more_ones_fit = more.ones_held.fits k;
    more_twos_fit = more.twos_held.fits k;
  }

  digit : (e : ℕ) → bit_of p e + 2 * bit_of q e ≡ (bit_of o e + 2 * bit_of t e + (bit_of a e + 2 * bit_of b e)) % 3
  digit e = omega (arith, sum.entries e)

  unused_digit : (e : ℕ) → n ≤ e → bit_of p e + 2 * bit_of q e ≡ 0
  unused_digit e past =
      omega (arith, digit e, row.ones_held.unused e past, row.twos_held.unused e past, more.ones_held.unused e past, more.twos_held.unused e past)

  pub layers_of_sum : HoldLayers n p q
  layers_of_sum =
      layers n p q
      (record {
        counted = row.ones_held.counted;
        fits = λ k. sum.ones_fit k (all_fit k);
        long = sum.long ∙ row.ones_held.long;
        unused = λ e past. omega (arith, unused_digit e past);
      })
      (record {
        counted = row.ones_held.counted;
        fits = λ k. sum.twos_fit k (all_fit k);
        long = sum.are_trits.as_long ∙ sum.long ∙ row.ones_held.long;
        unused = λ e past. omega (arith, unused_digit e past);
      })
      (λ e. omega (arith, sum.are_trits.apart e))

  pub digits_of_sum : trits (bits n p) (bits n q) ≡ digits_with_multiple 3 (trits (bits n o) (bits n t)) 1 (trits (bits n a) (bits n b))
  digits_of_sum =
      ext_get_or 0 _ _ (length-layers n p q ∙ sym (length-digits_with_multiple 3 _ 1 _ ∙ length-layers n o t)) (λ e inside.
      let below : e < n = omega (arith, length-layers n p q) in
      let here : e < length (trits (bits n o) (bits n t)) = omega (arith, length-layers n o t) in
      let one : 1 * get_or (trits (bits n a) (bits n b)) e 0 ≡ bit_of a e + 2 * bit_of b e = omega (arith, get_or-layers n a b e below) in
      get_or-layers n p q e below ∙ digit e
      ∙ sym (get_or-digits_with_multiple 3 _ 1 _ e here ∙ ap₂ (λ x y. (x + y) % 3) (get_or-layers n o t e below) one))

-- two rows are added, one after another
module _ (n : ℕ) (o t a a' b b' p q : List ℕ) (row : HoldLayers n o t) (ha : HoldLayers n a a') (hb : HoldLayers n b b')
    (sum : IsTritSumOfThree o t a a' b b' p q) where
  sum_held : HoldLayers n sum.ones_of_two sum.twos_of_two
  sum_held = layers_of_sum n o t a a' sum.ones_of_two sum.twos_of_two row ha sum.first

  pub layers_of_three : HoldLayers n p q
  layers_of_three = layers_of_sum n sum.ones_of_two sum.twos_of_two b b' p q sum_held hb sum.second

  pub digits_of_three : trits (bits n p) (bits n q)
      ≡ digits_with_multiple 3 (digits_with_multiple 3 (trits (bits n o) (bits n t)) 1 (trits (bits n a) (bits n a'))) 1 (trits (bits n b) (bits n b'))
  digits_of_three =
      digits_of_sum n sum.ones_of_two sum.twos_of_two b b' p q sum_held hb sum.second
      ∙ ap (λ (x : List ℕ). digits_with_multiple 3 x 1 (trits (bits n b) (bits n b')))
      (digits_of_sum n o t a a' sum.ones_of_two sum.twos_of_two row ha sum.first)

-- four rows are added, one after another
module _ (n : ℕ) (o t a a' b b' c c' d d' p q : List ℕ) (row : HoldLayers n o t) (ha : HoldLayers n a a') (hb : HoldLayers n b b')
    (hc : HoldLayers n c c') (hd : HoldLayers n d d') (sum : IsTritSumOfFive o t a a' b b' c c' d d' p q) where
  two_held : HoldLayers n sum.ones_of_two sum.twos_of_two
  two_held = layers_of_sum n o t a a' sum.ones_of_two sum.twos_of_two row ha sum.first

  three_held : HoldLayers n sum.ones_of_three sum.twos_of_three
  three_held = layers_of_sum n sum.ones_of_two sum.twos_of_two b b' sum.ones_of_three sum.twos_of_three two_held hb sum.second

  four_held : HoldLayers n sum.ones_of_four sum.twos_of_four
  four_held = layers_of_sum n sum.ones_of_three sum.twos_of_three c c' sum.ones_of_four sum.twos_of_four three_held hc sum.third

  pub layers_of_five : HoldLayers n p q
  layers_of_five = layers_of_sum n sum.ones_of_four sum.twos_of_four d d' p q four_held hd sum.fourth

  pub digits_of_five : trits (bits n p) (bits n q) ≡ digits_with_four 3 (trits (bits n o) (bits n t)) (trits (bits n a) (bits n a'))
      (trits (bits n b) (bits n b')) (trits (bits n c) (bits n c')) (trits (bits n d) (bits n d'))
  digits_of_five =
      digits_of_sum n sum.ones_of_four sum.twos_of_four d d' p q four_held hd sum.fourth
      ∙ ap (λ (x : List ℕ). digits_with_multiple 3 x 1 (trits (bits n d) (bits n d')))
      (digits_of_sum n sum.ones_of_three sum.twos_of_three c c' sum.ones_of_four sum.twos_of_four three_held hc sum.third
      ∙ ap (λ (x : List ℕ). digits_with_multiple 3 x 1 (trits (bits n c) (bits n c')))
      (digits_of_sum n sum.ones_of_two sum.twos_of_two b b' sum.ones_of_three sum.twos_of_three two_held hb sum.second
      ∙ ap (λ (x : List ℕ). digits_with_multiple 3 x 1 (trits (bits n b) (bits n b')))
      (digits_of_sum n o t a a' sum.ones_of_two sum.twos_of_two row ha sum.first)))

-- ---- the layers of two planes that go together

pub layers_of_planes : (n m : ℕ) (o t x y : List ℕ) → HoldsBits n o → HoldsBits m t → bits n o ≡ x → bits m t ≡ y → HoldTrits x y →
    HoldLayers n o t
layers_of_planes n m o t x y ho ht ox ty held = record {
  ones_held = ho;
  twos_held = subst (λ k. HoldsBits k t) same ht;
  together =
      subst (λ (l : List ℕ). HoldTrits l (bits n t)) (sym ox) (subst (HoldTrits x) (sym (ap (λ k. bits k t) (sym same) ∙ ty)) held);
}
  where
    same : m ≡ n
    same = sym (plane_long m t y ty) ∙ held.as_long ∙ plane_long n o x ox

-- ---- twice the digits

-- the layers exchanged
pub exchanged : (n : ℕ) (o t : List ℕ) → HoldLayers n o t → HoldLayers n t o
exchanged n o t h = layers n t o h.twos_held h.ones_held (λ e. omega (arith, apart_bits n o t h e))

-- twice the digits of two layers, added to digits
pub twice_layers : (n : ℕ) (x o t : List ℕ) → length x ≡ n →
    digits_with_multiple 3 x 1 (trits (bits n t) (bits n o)) ≡ digits_with_multiple 3 x 2 (trits (bits n o) (bits n t))
twice_layers n x o t long =
    ext_get_or 0 _ _ (length-digits_with_multiple 3 x 1 _ ∙ sym (length-digits_with_multiple 3 x 2 _)) (λ e inside.
    let here : e < length x = omega (arith, length-digits_with_multiple 3 x 1 (trits (bits n t) (bits n o))) in
    let below : e < n = omega arith in
    let left = get_or-digits_with_multiple 3 x 1 (trits (bits n t) (bits n o)) e here in
    let right = get_or-digits_with_multiple 3 x 2 (trits (bits n o) (bits n t)) e here in
    omega (arith, left, right, get_or-layers n t o e below, get_or-layers n o t e below))
