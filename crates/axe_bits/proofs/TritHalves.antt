-- The words of two layers in one list, those of the ones and after them those of the twos.
use Rattle.std.proofs.Common.{◌≡◌, ◌↔◌, ℕ, ◌+◌, ◌-◌, ◌*◌, ◌/◌, ◌^◌, ◌<◌, Bool, not, IsTrue, List, ◌++◌, length, get_or, take, drop, refl, sym, ap, ap₂, subst, ◌∙◌, arith, length-append, inl, inr}
use Rattle.std.specs.List.{All}
use Rattle.std.proofs.lemmas.Bool.{cases_eq}
use Rattle.std.proofs.lemmas.List.{get_or_past, get_or-drop, get_or-take, length-drop, length-take, replicate-append-replicate, take-append-drop}
use Rattle.std.proofs.Math.Seq.{drop-append_seam, take-append_seam}
use native.Mathlib.Decide.{dec_lt}
use Rattle.axe_lane.specs.Bytes.{multiple_modulo}
use Rattle.axe_lane.specs.Entries.{HasNonzero}
use Rattle.axe_lane.specs.Trits.{IsTritSum, IsTritSumOfFive, IsTritSumOfThree}
use Rattle.axe_layer.specs.Bits.{bits, HoldsBits}
use Rattle.axe_layer.specs.Digits.{digits_with_four, digits_with_multiple}
use Rattle.axe_bits.specs.Trits.{trits, first_half, second_half, HoldLayers, HoldTrits}
use Rattle.axe_layer.proofs.BitLaws.{bit_of-zeros, bits-zeros, bits-injective, HoldsBits-zeros, written, zeros}
use Rattle.axe_bits.proofs.TritWords.{digits_of_five, digits_of_sum, digits_of_three, exchanged, layers, layers_of_five, layers_of_planes, layers_of_sum, layers_of_three, length-layers}
use Rattle.axe_bits.proofs.TritZeros.{same_ones, same_twos, trits-zeros, trits_by_one, trits_by_two, zero_ones, zero_trits, zero_twos}
use Rattle.axe_layer.proofs.ZeroDigits.{no_bit, zero_word, zero_words}

-- the halves of a list of words are two layers of n bits
abbrev pub HalvesHold : ℕ → List ℕ → Type 0
HalvesHold n words = HoldLayers n (first_half words) (second_half words)

-- their digits
abbrev pub half_trits : ℕ → List ℕ → List ℕ
half_trits n words = trits (bits n (first_half words)) (bits n (second_half words))

-- how many words two layers have
pub halves_wide : (n : ℕ) (words : List ℕ) → HalvesHold n words → length words ≡ 2 * ((n + 63) / 64)
halves_wide n words held =
    omega (arith, held.ones_held.long, held.twos_held.long, length-take (length words / 2) words, length-drop (length words / 2) words)

-- how many digits they have
pub halves_long : (n : ℕ) (words x : List ℕ) → half_trits n words ≡ x → length x ≡ n
halves_long n words x is = sym (ap length is) ∙ length-layers n (first_half words) (second_half words)

-- ---- a list of words that is split into its halves

module _ (n size : ℕ) (words whole a b x : List ℕ) (held : HalvesHold n words) (is : half_trits n words ≡ x) (same : whole ≡ words)
    (counted : size ≡ length words) (front : a ≡ take (size / 2) whole) (back : b ≡ drop (size / 2) whole) where
  first_is : a ≡ first_half words
  first_is = front ∙ ap₂ (λ k (v : List ℕ). take (k / 2) v) counted same

  second_is : b ≡ second_half words
  second_is = back ∙ ap₂ (λ k (v : List ℕ). drop (k / 2) v) counted same

  pub HoldLayers-split : HoldLayers n a b
  HoldLayers-split =
      subst (λ (v : List ℕ). HoldLayers n v b) (sym first_is)
      (subst (HoldLayers n (first_half words)) (sym second_is) held)

  pub trits-split : trits (bits n a) (bits n b) ≡ x
  trits-split = ap₂ (λ (v w : List ℕ). trits (bits n v) (bits n w)) first_is second_is ∙ is

-- the layers of as many bits as there are digits
module _ (n : ℕ) (words a b x : List ℕ) (is : half_trits n words ≡ x) where
  pub HoldLayers-all : HoldLayers n a b → HoldLayers (length x) a b
  HoldLayers-all = subst (λ k. HoldLayers k a b) (sym (halves_long n words x is))

  pub HoldLayers-len : HoldLayers (length x) a b → HoldLayers n a b
  HoldLayers-len = subst (λ k. HoldLayers k a b) (halves_long n words x is)

  pub trits-all : trits (bits n a) (bits n b) ≡ x → trits (bits (length x) a) (bits (length x) b) ≡ x
  trits-all digits = ap (λ k. trits (bits k a) (bits k b)) (halves_long n words x is) ∙ digits

  pub trits-len : trits (bits (length x) a) (bits (length x) b) ≡ x → trits (bits n a) (bits n b) ≡ x
  trits-len digits = ap (λ k. trits (bits k a) (bits k b)) (sym (halves_long n words x is)) ∙ digits

-- ---- the halves as the layers of a multiple by 1 or 2

module _ (n f : ℕ) (words v w a b x : List ℕ) (held : HalvesHold n words) (is : half_trits n words ≡ x) (some : 0 < f) (few : f < 3)
    (v_is : v ≡ words) (w_is : w ≡ words) (a_first : f - 1 ≡ 0 → a ≡ first_half v) (a_second : f - 1 ≡ 1 → a ≡ second_half v)
    (b_first : 1 - (f - 1) ≡ 0 → b ≡ first_half w) (b_second : 1 - (f - 1) ≡ 1 → b ≡ second_half w) where
  -- the halves as they stand, and exchanged
  in_order : f ≡ 1 → (a ≡ first_half words) × (b ≡ second_half words)
  in_order one = (a_first (omega (arith, one)) ∙ ap first_half v_is, b_second (omega (arith, one)) ∙ ap second_half w_is)

  turned : f ≡ 2 → (a ≡ second_half words) × (b ≡ first_half words)
  turned two = (a_second (omega (arith, two)) ∙ ap second_half v_is, b_first (omega (arith, two)) ∙ ap first_half w_is)

  pub HoldLayers-multiple : HoldLayers (length x) a b
  HoldLayers-multiple =
      HoldLayers-all n words a b x is (elim (cases_eq f 1) [
        | inl one ↦
            let both = in_order one in
            subst (λ (y : List ℕ). HoldLayers n y b) (sym both.0) (subst (HoldLayers n (first_half words)) (sym both.1) held)
        | inr other ↦
            let both = turned (omega (arith, other, some, few)) in
            subst (λ (y : List ℕ). HoldLayers n y b) (sym both.0) (subst (HoldLayers n (second_half words)) (sym both.1) (exchanged _ _ _ held))
      ])

  pub trits-multiple : trits (bits (length x) a) (bits (length x) b) ≡ multiple_modulo 3 f x
  trits-multiple =
      ap (λ k. trits (bits k a) (bits k b)) (halves_long n words x is) ∙ elim (cases_eq f 1) [
        | inl one ↦
            let both = in_order one in
            ap₂ (λ (y z : List ℕ). trits (bits n y) (bits n z)) both.0 both.1 ∙ is ∙ trits_by_one _ _ _ held.together is f one
        | inr other ↦
            let two : f ≡ 2 = omega (arith, other, some, few) in
            let both = turned two in
            ap₂ (λ (y z : List ℕ). trits (bits n y) (bits n z)) both.0 both.1 ∙ trits_by_two _ _ _ held.together is f two
      ]

-- ---- two layers that are joined

module _ (a b : List ℕ) (same : length b ≡ length a) where
  half : length (a ++ b) / 2 ≡ length a
  half = omega (arith, length-append a b, same)

  pub first_joined : first_half (a ++ b) ≡ a
  first_joined = ap (λ k. take k (a ++ b)) half ∙ take-append_seam a b

  pub second_joined : second_half (a ++ b) ≡ b
  second_joined = ap (λ k. drop k (a ++ b)) half ∙ drop-append_seam a b

module _ (n : ℕ) (a b : List ℕ) (held : HoldLayers n a b) where
  as_long : length b ≡ length a
  as_long = held.twos_held.long ∙ sym held.ones_held.long

  pub HalvesHold-joined : HalvesHold n (a ++ b)
  HalvesHold-joined =
      subst (λ (v : List ℕ). HoldLayers n v (second_half (a ++ b))) (sym (first_joined a b as_long))
      (subst (HoldLayers n a) (sym (second_joined a b as_long)) held)

  pub half_trits-joined : half_trits n (a ++ b) ≡ trits (bits n a) (bits n b)
  half_trits-joined =
      ap₂ (λ (v w : List ℕ). trits (bits n v) (bits n w)) (first_joined a b as_long) (second_joined a b as_long)

  -- and written over a list of as many words
  module _ (k : ℕ) (old : List ℕ) (all : k ≡ length old) (wide : length old ≡ 2 * ((n + 63) / 64)) where
    whole_joined : take k (a ++ b ++ drop (length (a ++ b)) old) ≡ a ++ b
    whole_joined = written k (a ++ b) old all (omega (arith, length-append a b, held.ones_held.long, held.twos_held.long, wide))

    pub HalvesHold-written : HalvesHold n (take k (a ++ b ++ drop (length (a ++ b)) old))
    HalvesHold-written = subst (HalvesHold n) (sym whole_joined) HalvesHold-joined

    pub half_trits-written : half_trits n (take k (a ++ b ++ drop (length (a ++ b)) old)) ≡ trits (bits n a) (bits n b)
    half_trits-written = ap (half_trits n) whole_joined ∙ half_trits-joined

-- two layers with the bits x and y
module _ (n k : ℕ) (a b x y old : List ℕ) (first : HoldsBits n a) (second : HoldsBits n b) (ones : bits n a ≡ x) (twos : bits n b ≡ y)
    (together : HoldTrits x y) (all : k ≡ length old) (wide : length old ≡ 2 * ((n + 63) / 64)) where
  held : HoldLayers n a b
  held = layers_of_planes n n a b x y first second ones twos together

  pub HalvesHold-made : HalvesHold n (take k (a ++ b ++ drop (length (a ++ b)) old))
  HalvesHold-made = HalvesHold-written n a b held k old all wide

  pub half_trits-made : half_trits n (take k (a ++ b ++ drop (length (a ++ b)) old)) ≡ trits x y
  half_trits-made = half_trits-written n a b held k old all wide ∙ ap₂ trits ones twos

-- ---- sums

-- two layers are added to the halves of words
module _ (n k : ℕ) (words whole new a b x : List ℕ) (held : HalvesHold n words) (is : half_trits n words ≡ x) (same : whole ≡ words)
    (all : k ≡ length words) (wide : length new ≡ length whole) (more : HoldLayers (length x) a b)
    (sum : IsTritSum (first_half whole) (second_half whole) a b (first_half new) (second_half new)) where
  total : IsTritSum (first_half words) (second_half words) a b (first_half new) (second_half new)
  total =
      subst (λ (v : List ℕ). IsTritSum (first_half v) (second_half v) a b (first_half new) (second_half new)) same sum

  other : HoldLayers n a b
  other = HoldLayers-len n words a b x is more

  new_written : take k (new ++ drop (length new) words) ≡ new
  new_written = written k new words all (wide ∙ ap length same)

  pub HalvesHold-sum : HalvesHold n (take k (new ++ drop (length new) words))
  HalvesHold-sum = subst (HalvesHold n) (sym new_written) (layers_of_sum n _ _ a b _ _ held other total)

  pub half_trits-sum : half_trits n (take k (new ++ drop (length new) words))
      ≡ digits_with_multiple 3 x 1 (trits (bits (length x) a) (bits (length x) b))
  half_trits-sum =
      ap (half_trits n) new_written ∙ digits_of_sum n _ _ a b _ _ held other total
      ∙ ap₂ (λ (v : List ℕ) m. digits_with_multiple 3 v 1 (trits (bits m a) (bits m b))) is (sym (halves_long n words x is))

-- the layers of multiples of two planes are
module _ (n k : ℕ) (words whole new a a' b b' x : List ℕ) (held : HalvesHold n words) (is : half_trits n words ≡ x) (same : whole ≡ words)
    (all : k ≡ length words) (wide : length new ≡ length whole) (ha : HoldLayers (length x) a a') (hb : HoldLayers (length x) b b')
    (sum : IsTritSumOfThree (first_half whole) (second_half whole) a a' b b' (first_half new) (second_half new)) where
  total_of_three : IsTritSumOfThree (first_half words) (second_half words) a a' b b' (first_half new) (second_half new)
  total_of_three =
      subst (λ (v : List ℕ). IsTritSumOfThree (first_half v) (second_half v) a a' b b' (first_half new) (second_half new)) same sum

  three_written : take k (new ++ drop (length new) words) ≡ new
  three_written = written k new words all (wide ∙ ap length same)

  pub HalvesHold-three : HalvesHold n (take k (new ++ drop (length new) words))
  HalvesHold-three =
      subst (HalvesHold n) (sym three_written)
      (layers_of_three n _ _ a a' b b' _ _ held (HoldLayers-len n words a a' x is ha) (HoldLayers-len n words b b' x is hb) total_of_three)

  pub half_trits-three : half_trits n (take k (new ++ drop (length new) words))
      ≡ digits_with_multiple 3 (digits_with_multiple 3 x 1 (trits (bits (length x) a) (bits (length x) a'))) 1 (trits (bits (length x) b) (bits (length x) b'))
  half_trits-three =
      ap (half_trits n) three_written
      ∙ digits_of_three n _ _ a a' b b' _ _ held (HoldLayers-len n words a a' x is ha) (HoldLayers-len n words b b' x is hb) total_of_three
      ∙ ap₂ (λ (v : List ℕ) m. digits_with_multiple 3 (digits_with_multiple 3 v 1 (trits (bits m a) (bits m a'))) 1 (trits (bits m b) (bits m b')))
      is (sym (halves_long n words x is))

-- the layers of four planes are
module _ (n k : ℕ) (words whole new a a' b b' c c' d d' x : List ℕ) (held : HalvesHold n words) (is : half_trits n words ≡ x) (same : whole ≡ words)
    (all : k ≡ length words) (wide : length new ≡ length whole) (ha : HoldLayers (length x) a a') (hb : HoldLayers (length x) b b')
    (hc : HoldLayers (length x) c c') (hd : HoldLayers (length x) d d')
    (sum : IsTritSumOfFive (first_half whole) (second_half whole) a a' b b' c c' d d' (first_half new) (second_half new)) where
  total_of_five : IsTritSumOfFive (first_half words) (second_half words) a a' b b' c c' d d' (first_half new) (second_half new)
  total_of_five =
      subst (λ (v : List ℕ). IsTritSumOfFive (first_half v) (second_half v) a a' b b' c c' d d' (first_half new) (second_half new)) same sum

  mine : (v w : List ℕ) → HoldLayers (length x) v w → HoldLayers n v w
  mine v w more = HoldLayers-len n words v w x is more

  five_written : take k (new ++ drop (length new) words) ≡ new
  five_written = written k new words all (wide ∙ ap length same)

  pub HalvesHold-five : HalvesHold n (take k (new ++ drop (length new) words))
  HalvesHold-five =
      subst (HalvesHold n) (sym five_written)
      (layers_of_five n _ _ a a' b b' c c' d d' _ _ held (mine a a' ha) (mine b b' hb) (mine c c' hc) (mine d d' hd) total_of_five)

  pub half_trits-five : half_trits n (take k (new ++ drop (length new) words))
      ≡ digits_with_four 3 x (trits (bits (length x) a) (bits (length x) a')) (trits (bits (length x) b) (bits (length x) b'))
      (trits (bits (length x) c) (bits (length x) c')) (trits (bits (length x) d) (bits (length x) d'))
  half_trits-five =
      ap (half_trits n) five_written
      ∙ digits_of_five n _ _ a a' b b' c c' d d' _ _ held (mine a a' ha) (mine b b' hb) (mine c c' hc) (mine d d' hd) total_of_five
      ∙ ap₂ (λ (v : List ℕ) m. digits_with_four 3 v (trits (bits m a) (bits m a')) (trits (bits m b) (bits m b'))
      (trits (bits m c) (bits m c')) (trits (bits m d) (bits m d'))) is (sym (halves_long n words x is))

-- ---- zeros

zero_layers : (n : ℕ) → n < 2 ^ 64 → HoldLayers n (zeros ((n + 63) / 64)) (zeros ((n + 63) / 64))
zero_layers n small =
    let held = HoldsBits-zeros n ((n + 63) / 64) small refl in
    layers n _ _ held held (λ e. omega (arith, bit_of-zeros ((n + 63) / 64) e))

zeros_joined : (m k : ℕ) → m ≡ 2 * k → zeros k ++ zeros k ≡ zeros m
zeros_joined m k twice =
    let sum : k + k ≡ m = omega arith in replicate-append-replicate {A = ℕ} k k 0 ∙ ap zeros sum

pub HalvesHold-zeros : (n m : ℕ) → n < 2 ^ 64 → m ≡ 2 * ((n + 63) / 64) → HalvesHold n (zeros m)
HalvesHold-zeros n m small twice =
    subst (HalvesHold n) (zeros_joined m ((n + 63) / 64) twice) (HalvesHold-joined n _ _ (zero_layers n small))

pub half_trits-zeros : (n m : ℕ) → n < 2 ^ 64 → m ≡ 2 * ((n + 63) / 64) → half_trits n (zeros m) ≡ zeros n
half_trits-zeros n m small twice =
    ap (half_trits n) (sym (zeros_joined m ((n + 63) / 64) twice)) ∙ half_trits-joined n _ _ (zero_layers n small)
    ∙ ap₂ trits (bits-zeros n ((n + 63) / 64)) (bits-zeros n ((n + 63) / 64)) ∙ trits-zeros n

-- no word is other than zero exactly where all digits are zero
pub zero_halves : (some : Bool) (n : ℕ) (words x : List ℕ) → HalvesHold n words → half_trits n words ≡ x →
    IsTrue some ↔ HasNonzero words → IsTrue (not some) ↔ All (λ digit. digit ≡ 0) x
zero_halves some n words x held is h = (
  λ none. zero_trits _ _ x held.together is
      (no_bit n _ (λ k. elim (dec_lt k m) [
        | yes inside ↦ get_or-take m words k 0 inside ∙ (zero_words some words h).0 none k
        | no outside ↦ get_or_past (take m words) k 0 (omega (arith, length-take m words))
      ]))
      (no_bit n _ (λ k. get_or-drop m words k 0 ∙ (zero_words some words h).0 none (m + k))),
  λ zero. (zero_words some words h).1 (λ k. elim (dec_lt k m) [
    | yes inside ↦
        sym (get_or-take m words k 0 inside) ∙ zero_word n _ k held.ones_held (zero_ones _ _ x held.together is zero)
    | no outside ↦
        let there : m + (k - m) ≡ k = omega arith in
        ap (λ j. get_or words j 0) (sym there) ∙ sym (get_or-drop m words (k - m) 0)
        ∙ zero_word n _ (k - m) held.twos_held (zero_twos _ _ x held.together is zero)
  ]),
)
  where
    m : ℕ
    m = length words / 2

-- ---- the digits fix the words

pub half_trits-injective : (n : ℕ) (a b : List ℕ) → HalvesHold n a → HalvesHold n b → half_trits n a ≡ half_trits n b → a ≡ b
half_trits-injective n a b ha hb same =
    sym (take-append-drop (length a / 2) a)
    ∙ ap₂ (λ (v w : List ℕ). v ++ w)
    (bits-injective n _ _ ha.ones_held hb.ones_held (same_ones _ _ _ _ ha.together hb.together same))
    (bits-injective n _ _ ha.twos_held hb.twos_held (same_twos _ _ _ _ ha.together hb.together same))
    ∙ take-append-drop (length b / 2) b
