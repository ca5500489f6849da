-- Layers of multiples of digits modulo 3, and sums of multiples of two rows that are added to the halves of words.
use Rattle.std.proofs.Common.{◌≡◌, ℕ, ◌-◌, ◌<◌, ◌≤◌, Bool, true, false, List, ◌++◌, cond, length, replicate, take, drop, sym, ap, ap₂, subst, ◌∙◌, refl, arith, inl, inr, lit<}
use Rattle.std.proofs.lemmas.Bool.{cases_eq}
use Rattle.std.proofs.lemmas.List.{drop-replicate, length-drop}
use Rattle.axe_lane.specs.Bytes.{multiple_modulo}
use Rattle.axe_lane.specs.Trits.{multiple_layer, AreTrits, HasMultiplesOfTwo, IsTritSumOfThree}
use Rattle.axe_lane.proofs.ByteLaws.{multiple_by_zero}
use Rattle.axe_layer.specs.Bits.{bits}
use Rattle.axe_layer.specs.Digits.{digits_with_multiple}
use Rattle.axe_layer.proofs.BitLaws.{bits-zeros, bit_of-zeros, get_or-zeros, HoldsBits-zeros, zeros}
use Rattle.axe_layer.proofs.DigitLaws.{length-digits_with_multiple}
use Rattle.axe_layer.proofs.EndLaws.{end_is}
use Rattle.axe_bits.specs.Trits.{trits, first_half, second_half, AreZeroLayersBefore, HoldLayers}
use Rattle.axe_bits.proofs.TritEnds.{anew, IsTritSumOfThree-anew}
use Rattle.axe_bits.proofs.TritHalves.{first_joined, half_trits, half_trits-three, second_joined, HalvesHold, HalvesHold-three}
use Rattle.axe_bits.proofs.TritWords.{exchanged, layers, length-layers}
use Rattle.axe_bits.proofs.TritZeros.{added_multiple, trits-zeros, trits_by_one, trits_by_two}

-- ---- a layer of a multiple, where c is whether it is by 0, and d whether by 1

abbrev layer_of : Bool → Bool → List ℕ → List ℕ → List ℕ
layer_of c d own other = cond c (replicate (length own) 0) (cond d own other)

-- the words of a list from one on, as a part of it lends them
abbrev part : ℕ → List ℕ → List ℕ
part k words = take (length words - k) (drop k words)

zeros_end : (k : ℕ) (own : List ℕ) → zeros (length (part k own)) ≡ part k (zeros (length own))
zeros_end k own =
    ap zeros (ap length (end_is k own) ∙ length-drop k own) ∙ sym (end_is k (zeros (length own)) ∙ drop-replicate k (length own) 0)

layer_part : (c d : Bool) (k : ℕ) (own other : List ℕ) → layer_of c d (part k own) (part k other) ≡ part k (layer_of c d own other)
layer_part true d k own other = zeros_end k own
layer_part false true k own other = refl
layer_part false false k own other = refl

-- the layers hold digits
layers_held : (c d : Bool) (n : ℕ) (a b : List ℕ) → HoldLayers n a b → HoldLayers n (layer_of c d a b) (layer_of c d b a)
layers_held true d n a b h =
    layers n _ _ (HoldsBits-zeros n (length a) h.ones_held.counted h.ones_held.long)
    (HoldsBits-zeros n (length b) h.ones_held.counted h.twos_held.long)
    (λ e. omega (arith, bit_of-zeros (length a) e, bit_of-zeros (length b) e))
layers_held false true n a b h = h
layers_held false false n a b h = exchanged n a b h

pub multiple_held : (m n : ℕ) (a b : List ℕ) → HoldLayers n a b → HoldLayers n (multiple_layer m a b) (multiple_layer m b a)
multiple_held m n a b h = layers_held _ _ n a b h

-- and are zero where those of the row are
zeros_kept : (c d : Bool) (k : ℕ) (a b : List ℕ) → AreZeroLayersBefore a b k → AreZeroLayersBefore (layer_of c d a b) (layer_of c d b a) k
zeros_kept true d k a b h = record {
  ones_zero = λ i before. get_or-zeros (length a) i;
  twos_zero = λ i before. get_or-zeros (length b) i;
}
zeros_kept false true k a b h = h
zeros_kept false false k a b h = record { ones_zero = h.twos_zero; twos_zero = h.ones_zero }

-- ---- the digits of a multiple

multiple_digits : (m n : ℕ) (a b : List ℕ) → m < 3 → HoldLayers n a b →
    trits (bits n (multiple_layer m a b)) (bits n (multiple_layer m b a)) ≡ multiple_modulo 3 m (trits (bits n a) (bits n b))
multiple_digits m n a b small h = elim (cases_eq m 0) [
  | inl none ↦
      let digits : List ℕ = trits (bits n a) (bits n b) in
      rw none (ap₂ trits (bits-zeros n (length a)) (bits-zeros n (length b)) ∙ trits-zeros n ∙ ap zeros (sym (length-layers n a b))
      ∙ multiple_by_zero 3 0 refl (lit< tt) digits)
  | inr some ↦ elim (cases_eq m 1) [
    | inl one ↦ rw one (trits_by_one _ _ _ h.together refl 1 refl)
    | inr more ↦
        let two : m ≡ 2 = omega arith in
        rw two (trits_by_two _ _ _ h.together refl 2 refl)
  ]
]

pub multiple_added : (m n : ℕ) (a b x : List ℕ) → m < 3 → HoldLayers n a b → length x ≡ n →
    digits_with_multiple 3 x 1 (trits (bits n (multiple_layer m a b)) (bits n (multiple_layer m b a)))
    ≡ digits_with_multiple 3 x m (trits (bits n a) (bits n b))
multiple_added m n a b x small h long =
    ap (digits_with_multiple 3 x 1) (multiple_digits m n a b small h)
    ∙ added_multiple m x (trits (bits n a) (bits n b)) (length-layers n a b ∙ sym long)

-- ---- the halves of a list of words, of which the words from one on were written anew

module _ (k p q : ℕ) (words o t a a' b b' new_o new_t : List ℕ) (room : k ≤ length o) (row : AreTrits o t)
    (front : o ≡ first_half words) (back : t ≡ second_half words) (a_zeros : AreZeroLayersBefore a a' k) (b_zeros : AreZeroLayersBefore b b' k)
    (sum : HasMultiplesOfTwo p q (part k o) (part k t) (part k a) (part k a') (part k b) (part k b') new_o new_t) where
  sum_of_parts : IsTritSumOfThree (part k o) (part k t) (part k (multiple_layer p a a')) (part k (multiple_layer p a' a))
      (part k (multiple_layer q b b')) (part k (multiple_layer q b' b)) new_o new_t
  sum_of_parts =
      subst (λ (v : List ℕ). IsTritSumOfThree (part k o) (part k t) v (part k (multiple_layer p a' a)) (part k (multiple_layer q b b')) (part k (multiple_layer q b' b)) new_o new_t)
      (layer_part _ _ k a a')
      (subst (λ (v : List ℕ). IsTritSumOfThree (part k o) (part k t) (multiple_layer p (part k a) (part k a')) v (part k (multiple_layer q b b')) (part k (multiple_layer q b' b)) new_o new_t)
      (layer_part _ _ k a' a)
      (subst (λ (v : List ℕ). IsTritSumOfThree (part k o) (part k t) (multiple_layer p (part k a) (part k a')) (multiple_layer p (part k a') (part k a)) v (part k (multiple_layer q b' b)) new_o new_t)
      (layer_part _ _ k b b')
      (subst (λ (v : List ℕ). IsTritSumOfThree (part k o) (part k t) (multiple_layer p (part k a) (part k a')) (multiple_layer p (part k a') (part k a)) (multiple_layer q (part k b) (part k b')) v new_o new_t)
      (layer_part _ _ k b' b) sum)))

  sum_anew : HasMultiplesOfTwo p q o t a a' b b' (anew k o new_o) (anew k t new_t)
  sum_anew =
      IsTritSumOfThree-anew k o t _ _ _ _ new_o new_t room row (zeros_kept _ _ k a a' a_zeros) (zeros_kept _ _ k b b' b_zeros) sum_of_parts

  pub halves_anew : HasMultiplesOfTwo p q (first_half words) (second_half words) a a' b b'
      (first_half (anew k o new_o ++ anew k t new_t)) (second_half (anew k o new_o ++ anew k t new_t))
  halves_anew =
      let long = sum_anew.second.are_trits.as_long in
      let made : List ℕ → List ℕ → List ℕ → List ℕ → Type 0 = λ v w x y. HasMultiplesOfTwo p q v w a a' b b' x y in
      let v : List ℕ = anew k o new_o in
      let w : List ℕ = anew k t new_t in
      subst (λ (l : List ℕ). made l (second_half words) (first_half (v ++ w)) (second_half (v ++ w))) front
      (subst (λ (l : List ℕ). made o l (first_half (v ++ w)) (second_half (v ++ w))) back
      (subst (λ (l : List ℕ). made o t l (second_half (v ++ w))) (sym (first_joined v w long))
      (subst (λ (l : List ℕ). made o t v l) (sym (second_joined v w long)) sum_anew)))

-- the halves hold two layers
pub halves_row : (words o t : List ℕ) → o ≡ first_half words → t ≡ second_half words → AreTrits (first_half words) (second_half words) → AreTrits o t
halves_row words o t front back h =
    subst (λ (v : List ℕ). AreTrits v t) (sym front) (subst (AreTrits (first_half words)) (sym back) h)

-- ---- multiples of two planes u and v that are added to the plane x

module _ (n k p q : ℕ) (words whole new a a' b b' x u v : List ℕ) (held : HalvesHold n words) (is : half_trits n words ≡ x) (same : whole ≡ words)
    (all : k ≡ length words) (wide : length new ≡ length whole) (p_small : p < 3) (q_small : q < 3) (u_fits : length u ≡ length x)
    (v_fits : length v ≡ length x) (ha : HoldLayers (length u) a a') (hb : HoldLayers (length v) b b')
    (u_is : trits (bits (length u) a) (bits (length u) a') ≡ u) (v_is : trits (bits (length v) b) (bits (length v) b') ≡ v)
    (sum : HasMultiplesOfTwo p q (first_half whole) (second_half whole) a a' b b' (first_half new) (second_half new)) where
  a_held : HoldLayers (length x) a a'
  a_held = subst (λ j. HoldLayers j a a') u_fits ha

  b_held : HoldLayers (length x) b b'
  b_held = subst (λ j. HoldLayers j b b') v_fits hb

  pub HalvesHold-multiples : HalvesHold n (take k (new ++ drop (length new) words))
  HalvesHold-multiples =
      HalvesHold-three n k words whole new _ _ _ _ x held is same all wide (multiple_held p (length x) a a' a_held) (multiple_held q (length x) b b' b_held) sum

  pub half_trits-multiples : half_trits n (take k (new ++ drop (length new) words)) ≡ digits_with_multiple 3 (digits_with_multiple 3 x p u) q v
  half_trits-multiples =
      let m = length x in
      half_trits-three n k words whole new _ _ _ _ x held is same all wide (multiple_held p m a a' a_held) (multiple_held q m b b' b_held) sum
      ∙ ap (λ (l : List ℕ). digits_with_multiple 3 l 1 (trits (bits m (multiple_layer q b b')) (bits m (multiple_layer q b' b))))
      (multiple_added p m a a' x p_small a_held refl
      ∙ ap (digits_with_multiple 3 x p) (ap (λ j. trits (bits j a) (bits j a')) (sym u_fits) ∙ u_is))
      ∙ multiple_added q m b b' (digits_with_multiple 3 x p u) q_small b_held (length-digits_with_multiple 3 x p u)
      ∙ ap (digits_with_multiple 3 (digits_with_multiple 3 x p u) q) (ap (λ j. trits (bits j b) (bits j b')) (sym v_fits) ∙ v_is)
