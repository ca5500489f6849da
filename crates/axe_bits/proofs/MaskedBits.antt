-- Sums of bits of which masks take all or none: they are sums of multiples by the factors of the masks.
use Rattle.std.proofs.Common.{◌≡◌, ◌⊎◌, ℕ, ◌+◌, ◌-◌, ◌*◌, ◌/◌, ◌%◌, ◌^◌, ◌<◌, ◌≤◌, List, ◌++◌, length, get_or, take, drop, refl, sym, ap, ap₂, subst, ◌∙◌, arith, inl, inr}
use Rattle.std.specs.Int.Bits.{xor_assoc}
use Rattle.std.specs.Int.RustNames.{bit_and, bit_xor}
use Rattle.std.specs.Simd.Lanes.{zip2}
use Rattle.std.proofs.lemmas.Bool.{cases_eq}
use Rattle.std.proofs.lemmas.List.{ext_get_or, get_or-map, length-replicate}
use Rattle.std.proofs.lemmas.Nat.{and_le_l, and_le_r, and_mask}
use Rattle.std.proofs.Math.Nat.{mod-eq_of_lt}
use Rattle.axe_lane.specs.Entries.{AreZerosBefore}
use Rattle.axe_lane.specs.Words.{mask_of, masked, masked_sum_of_two, masked_sum_of_three, masks_of}
use Rattle.axe_lane.proofs.FiveRows.{associative}
use Rattle.axe_lane.proofs.MaskedRows.{length-masked, get_or-masked, two_long, three_long, chunk-two, chunk-three, get_or-two, get_or-three}
use Rattle.axe_layer.specs.Bits.{bits, HoldsBits}
use Rattle.axe_layer.specs.Digits.{digits_with_multiple}
use Rattle.axe_layer.proofs.BitLaws.{zeros, get_or-zeros, bits-zeros, HoldsBits-zeros, bits-xor, HoldsBits-xor}
use Rattle.axe_layer.proofs.DigitLaws.{length-digits_with_multiple, get_or-digits_with_multiple}
use Rattle.axe_layer.proofs.EndLaws.{zero_words_before, word_within}
use Rattle.axe_bits.proofs.EndSums.{HoldsDigits, added}
use Rattle.axe_bits.specs.Combinations.{digits_with_two, digits_with_multiples}

-- no bit of a word, and all 64
and_none : (x : ℕ) → bit_and x 0 ≡ 0
and_none x = omega (arith, and_le_r x 0)

none_and : (x : ℕ) → bit_and 0 x ≡ 0
none_and x = omega (arith, and_le_l 0 x)

and_all : (x : ℕ) → x < 2 ^ 64 → bit_and x (2 ^ 64 - 1) ≡ x
and_all x small = and_mask x 64 ∙ mod-eq_of_lt small

digit_is : (f : ℕ) → f < 2 → (f ≡ 0) ⊎ (f ≡ 1)
digit_is f small = elim (cases_eq f 0) [
  | inl none ↦ inl none
  | inr other ↦ inr (omega arith)
]

module _ (n : ℕ) (a : List ℕ) (ha : HoldsBits n a) where
  masked_none : masked 0 a ≡ zeros (length a)
  masked_none =
      ext_get_or 0 (masked 0 a) (zeros (length a)) (length-masked 0 a ∙ sym (length-replicate (length a) 0)) (λ k inside.
      let here : k < length a = omega (arith, length-masked 0 a) in
      get_or-masked 0 k a here ∙ and_none (get_or a k 0) ∙ sym (get_or-zeros (length a) k))

  masked_all : masked (2 ^ 64 - 1) a ≡ a
  masked_all =
      ext_get_or 0 (masked (2 ^ 64 - 1) a) a (length-masked (2 ^ 64 - 1) a) (λ k inside.
      let here : k < length a = omega (arith, length-masked (2 ^ 64 - 1) a) in
      get_or-masked (2 ^ 64 - 1) k a here ∙ and_all (get_or a k 0) (ha.fits k))

  module _ (f m : ℕ) (small : f < 2) (is : m ≡ mask_of f) where
    -- the words are all 0 or stay as they are
    all_or_none : ((f ≡ 0) × (masked m a ≡ zeros (length a))) ⊎ ((f ≡ 1) × (masked m a ≡ a))
    all_or_none = elim (digit_is f small) [
      | inl none ↦ inl (none, ap (λ k. masked k a) (is ∙ ap mask_of none) ∙ masked_none)
      | inr all ↦ inr (all, ap (λ k. masked k a) (is ∙ ap mask_of all) ∙ masked_all)
    ]

    pub HoldsBits-masked : HoldsBits n (masked m a)
    HoldsBits-masked = elim all_or_none [
      | inl none ↦ subst (HoldsBits n) (sym none.1) (HoldsBits-zeros n (length a) ha.counted ha.long)
      | inr all ↦ subst (HoldsBits n) (sym all.1) ha
    ]

    -- their bits are added as a multiple
    pub bits-masked : (x : List ℕ) → digits_with_multiple 2 x 1 (bits n (masked m a)) ≡ digits_with_multiple 2 x f (bits n a)
    bits-masked x = elim all_or_none [
      | inl none ↦
          ext_get_or 0 (digits_with_multiple 2 x 1 (bits n (masked m a))) (digits_with_multiple 2 x f (bits n a))
          (length-digits_with_multiple 2 x 1 (bits n (masked m a)) ∙ sym (length-digits_with_multiple 2 x f (bits n a))) (λ e inside.
          let here : e < length x = omega (arith, length-digits_with_multiple 2 x 1 (bits n (masked m a))) in
          let nothing : get_or (bits n (masked m a)) e 0 ≡ 0 =
          ap (λ (l : List ℕ). get_or (bits n l) e 0) none.1 ∙ ap (λ (l : List ℕ). get_or l e 0) (bits-zeros n (length a)) ∙ get_or-zeros n e in
          let multiple : f * get_or (bits n a) e 0 ≡ 0 = ap (λ k. k * get_or (bits n a) e 0) none.0 ∙ omega arith in
          get_or-digits_with_multiple 2 x 1 (bits n (masked m a)) e here
          ∙ ap (λ k. (get_or x e 0 + k) % 2) (ap (λ k. 1 * k) nothing ∙ omega (arith, multiple))
          ∙ sym (get_or-digits_with_multiple 2 x f (bits n a) e here))
      | inr all ↦ ap₂ (λ k (l : List ℕ). digits_with_multiple 2 x k (bits n l)) (sym all.0) all.1
    ]

-- a factor and the mask that stands for it
pub record Masks (factors masks : List ℕ) (k : ℕ) : Type 0 where
  pub small : get_or factors k 0 < 2
  pub is : get_or masks k 0 ≡ mask_of (get_or factors k 0)

pub mask_stands : (factors : List ℕ) (k : ℕ) → k < length factors → get_or factors k 0 < 2 → Masks factors (masks_of factors) k
mask_stands factors k inside small = record { small = small; is = get_or-map mask_of factors k 0 0 inside }

module _ (n : ℕ) (factors masks a b : List ℕ) (ha : HoldsBits n a) (hb : HoldsBits n b) (m0 : Masks factors masks 0) (m1 : Masks factors masks 1) where
  left : HoldsBits n (masked (get_or masks 0 0) a)
  left = HoldsBits-masked n a ha _ _ m0.small m0.is

  right : HoldsBits n (masked (get_or masks 1 0) b)
  right = HoldsBits-masked n b hb _ _ m1.small m1.is

  pub HoldsBits-two : HoldsBits n (masked_sum_of_two masks a b)
  HoldsBits-two = HoldsBits-xor n (masked (get_or masks 0 0) a) (masked (get_or masks 1 0) b) left right

  pub bits-two : (x : List ℕ) → HoldsBits n x →
      bits n (zip2 bit_xor x (masked_sum_of_two masks a b)) ≡ digits_with_two 2 (bits n x) factors (bits n a) (bits n b)
  unfolding digits_with_two
  bits-two x hx =
      ap (bits n) (associative bit_xor (λ i j k. sym (xor_assoc i j k)) x (masked (get_or masks 0 0) a) (masked (get_or masks 1 0) b))
      ∙ bits-xor n (zip2 bit_xor x (masked (get_or masks 0 0) a)) (masked (get_or masks 1 0) b) (HoldsBits-xor n x (masked (get_or masks 0 0) a) hx left) right
      ∙ bits-masked n b hb _ _ m1.small m1.is _
      ∙ ap (λ (l : List ℕ). digits_with_multiple 2 l (get_or factors 1 0) (bits n b))
      (bits-xor n x (masked (get_or masks 0 0) a) hx left ∙ bits-masked n a ha _ _ m0.small m0.is (bits n x))

  zero_words-two : (start : ℕ) → start ≤ n → AreZerosBefore (bits n a) start → AreZerosBefore (bits n b) start →
      AreZerosBefore (masked_sum_of_two masks a b) (start / 64)
  zero_words-two start within za zb k before =
      let inside : k < length a = omega (arith, before, word_within n start a ha within) in
      get_or-two masks (length a) a b refl (hb.long ∙ sym ha.long) k inside
      ∙ ap₂ (λ x y. bit_xor (bit_and x (get_or masks 0 0)) (bit_and y (get_or masks 1 0)))
      (zero_words_before n a start ha za k before) (zero_words_before n b start hb zb k before)
      ∙ ap₂ bit_xor (none_and (get_or masks 0 0)) (none_and (get_or masks 1 0))

  -- the ends of both rows from a word on
  pub end-two : (i : ℕ) (v w : List ℕ) → v ≡ a → w ≡ b →
      masked_sum_of_two masks (take (length v - i) (drop i v)) (take (length w - i) (drop i w))
      ≡ take (length (masked_sum_of_two masks a b) - i) (drop i (masked_sum_of_two masks a b))
  end-two i v w ev ew =
      let same : length b ≡ length a = hb.long ∙ sym ha.long in
      let long : length (masked_sum_of_two masks a b) ≡ length a = two_long masks (length a) a b refl same in
      ap₂ (λ (p q : List ℕ). masked_sum_of_two masks (take (length p - i) (drop i p)) (take (length q - i) (drop i q))) ev ew
      ∙ ap (λ k. masked_sum_of_two masks (take (length a - i) (drop i a)) (take (k - i) (drop i b))) same
      ∙ sym (chunk-two masks (length a) a b refl same i (length a - i))
      ∙ ap (λ k. take (k - i) (drop i (masked_sum_of_two masks a b))) (sym long)

  module _ (c : List ℕ) (hc : HoldsBits n c) (m2 : Masks factors masks 2) where
    last : HoldsBits n (masked (get_or masks 2 0) c)
    last = HoldsBits-masked n c hc _ _ m2.small m2.is

    pub HoldsBits-three : HoldsBits n (masked_sum_of_three masks a b c)
    HoldsBits-three = HoldsBits-xor n (masked_sum_of_two masks a b) (masked (get_or masks 2 0) c) HoldsBits-two last

    pub bits-three : (x : List ℕ) → HoldsBits n x →
        bits n (zip2 bit_xor x (masked_sum_of_three masks a b c)) ≡ digits_with_multiples 2 (bits n x) factors (bits n a) (bits n b) (bits n c)
    unfolding digits_with_multiples digits_with_two
    bits-three x hx =
        ap (bits n) (associative bit_xor (λ i j k. sym (xor_assoc i j k)) x (masked_sum_of_two masks a b) (masked (get_or masks 2 0) c))
        ∙ bits-xor n (zip2 bit_xor x (masked_sum_of_two masks a b)) (masked (get_or masks 2 0) c) (HoldsBits-xor n x (masked_sum_of_two masks a b) hx HoldsBits-two) last
        ∙ bits-masked n c hc _ _ m2.small m2.is _
        ∙ ap (λ (l : List ℕ). digits_with_multiple 2 l (get_or factors 2 0) (bits n c)) (bits-two x hx)

    pub zero_words-three : (start : ℕ) → start ≤ n → AreZerosBefore (bits n a) start → AreZerosBefore (bits n b) start → AreZerosBefore (bits n c) start →
        AreZerosBefore (masked_sum_of_three masks a b c) (start / 64)
    zero_words-three start within za zb zc k before =
        let inside : k < length a = omega (arith, before, word_within n start a ha within) in
        get_or-three masks (length a) a b refl (hb.long ∙ sym ha.long) c (hc.long ∙ sym ha.long) k inside
        ∙ ap₂ bit_xor
        (ap₂ (λ x y. bit_xor (bit_and x (get_or masks 0 0)) (bit_and y (get_or masks 1 0)))
        (zero_words_before n a start ha za k before) (zero_words_before n b start hb zb k before)
        ∙ ap₂ bit_xor (none_and (get_or masks 0 0)) (none_and (get_or masks 1 0)))
        (ap (λ x. bit_and x (get_or masks 2 0)) (zero_words_before n c start hc zc k before) ∙ none_and (get_or masks 2 0))

    pub end-three : (i : ℕ) (u v w : List ℕ) → u ≡ a → v ≡ b → w ≡ c →
        masked_sum_of_three masks (take (length u - i) (drop i u)) (take (length v - i) (drop i v)) (take (length w - i) (drop i w))
        ≡ take (length (masked_sum_of_three masks a b c) - i) (drop i (masked_sum_of_three masks a b c))
    end-three i u v w eu ev ew =
        let same : length b ≡ length a = hb.long ∙ sym ha.long in
        let same' : length c ≡ length a = hc.long ∙ sym ha.long in
        let long : length (masked_sum_of_three masks a b c) ≡ length a = three_long masks (length a) a b refl same c same' in
        ap (λ (p : List ℕ). masked_sum_of_three masks (take (length p - i) (drop i p)) (take (length v - i) (drop i v)) (take (length w - i) (drop i w))) eu
        ∙ ap₂ (λ (p q : List ℕ). masked_sum_of_three masks (take (length a - i) (drop i a)) (take (length p - i) (drop i p)) (take (length q - i) (drop i q))) ev ew
        ∙ ap₂ (λ k l. masked_sum_of_three masks (take (length a - i) (drop i a)) (take (k - i) (drop i b)) (take (l - i) (drop i c))) same same'
        ∙ sym (chunk-three masks (length a) a b refl same c same' i (length a - i))
        ∙ ap (λ k. take (k - i) (drop i (masked_sum_of_three masks a b c))) (sym long)

-- the plane after, where the end of its words became the sum with those of two others
pub after-two : (n k start : ℕ) (factors masks x a b dx da db v va vb dst : List ℕ) → HoldsDigits n x dx → HoldsDigits n a da → HoldsDigits n b db →
    Masks factors masks 0 → Masks factors masks 1 → start ≤ n → AreZerosBefore da start → AreZerosBefore db start → k ≡ length x →
    v ≡ x → va ≡ a → vb ≡ b →
    dst ≡ zip2 bit_xor (take (length v - start / 64) (drop (start / 64) v))
    (masked_sum_of_two masks (take (length va - start / 64) (drop (start / 64) va)) (take (length vb - start / 64) (drop (start / 64) vb))) →
    HoldsDigits n (take k ((take (start / 64) v ++ (dst ++ drop (length v - start / 64) (drop (start / 64) v)))
    ++ drop (length (take (start / 64) v ++ (dst ++ drop (length v - start / 64) (drop (start / 64) v)))) x)) (digits_with_two 2 dx factors da db)
after-two n k start factors masks x a b dx da db v va vb dst hx ha hb m0 m1 within za zb all ev ea eb e =
    let sum : List ℕ = masked_sum_of_two masks a b in
    let hs = HoldsBits-two n factors masks a b ha.held hb.held m0 m1 in
    let zero_bits = λ (w d : List ℕ) (h : HoldsDigits n w d) (z : AreZerosBefore d start). subst (λ (l : List ℕ). AreZerosBefore l start) (sym h.are) z in
    let zero_words = zero_words-two n factors masks a b ha.held hb.held m0 m1 start within (zero_bits a da ha za) (zero_bits b db hb zb) in
    let is = added n k start x sum v sum dst hx.held hs zero_words all ev refl within
    (e ∙ ap (zip2 bit_xor (take (length v - start / 64) (drop (start / 64) v))) (end-two n factors masks a b ha.held hb.held m0 m1 (start / 64) va vb ea eb)) in
    let digits = bits-two n factors masks a b ha.held hb.held m0 m1 x hx.held
    ∙ ap (λ (l : List ℕ). digits_with_two 2 l factors (bits n a) (bits n b)) hx.are
    ∙ ap₂ (digits_with_two 2 dx factors) ha.are hb.are in
    record { held = subst (HoldsBits n) (sym is) (HoldsBits-xor n x sum hx.held hs); are = ap (bits n) is ∙ digits }

-- and with those of three others
pub after-three : (n k start : ℕ) (factors masks x a b c dx da db dc v va vb vc dst : List ℕ) →
    HoldsDigits n x dx → HoldsDigits n a da → HoldsDigits n b db → HoldsDigits n c dc →
    Masks factors masks 0 → Masks factors masks 1 → Masks factors masks 2 → start ≤ n →
    AreZerosBefore da start → AreZerosBefore db start → AreZerosBefore dc start → k ≡ length x →
    v ≡ x → va ≡ a → vb ≡ b → vc ≡ c →
    dst ≡ zip2 bit_xor (take (length v - start / 64) (drop (start / 64) v))
    (masked_sum_of_three masks (take (length va - start / 64) (drop (start / 64) va)) (take (length vb - start / 64) (drop (start / 64) vb))
    (take (length vc - start / 64) (drop (start / 64) vc))) →
    HoldsDigits n (take k ((take (start / 64) v ++ (dst ++ drop (length v - start / 64) (drop (start / 64) v)))
    ++ drop (length (take (start / 64) v ++ (dst ++ drop (length v - start / 64) (drop (start / 64) v)))) x)) (digits_with_multiples 2 dx factors da db dc)
after-three n k start factors masks x a b c dx da db dc v va vb vc dst hx ha hb hc m0 m1 m2 within za zb zc all ev ea eb ec e =
    let sum : List ℕ = masked_sum_of_three masks a b c in
    let hs = HoldsBits-three n factors masks a b ha.held hb.held m0 m1 c hc.held m2 in
    let zero_bits = λ (w d : List ℕ) (h : HoldsDigits n w d) (z : AreZerosBefore d start). subst (λ (l : List ℕ). AreZerosBefore l start) (sym h.are) z in
    let zero_words = zero_words-three n factors masks a b ha.held hb.held m0 m1 c hc.held m2 start within
    (zero_bits a da ha za) (zero_bits b db hb zb) (zero_bits c dc hc zc) in
    let is = added n k start x sum v sum dst hx.held hs zero_words all ev refl within
    (e ∙ ap (zip2 bit_xor (take (length v - start / 64) (drop (start / 64) v)))
    (end-three n factors masks a b ha.held hb.held m0 m1 c hc.held m2 (start / 64) va vb vc ea eb ec)) in
    let digits = bits-three n factors masks a b ha.held hb.held m0 m1 c hc.held m2 x hx.held
    ∙ ap₂ (λ (l r : List ℕ). digits_with_multiples 2 l factors r (bits n b) (bits n c)) hx.are ha.are
    ∙ ap₂ (digits_with_multiples 2 dx factors da) hb.are hc.are in
    record { held = subst (HoldsBits n) (sym is) (HoldsBits-xor n x sum hx.held hs); are = ap (bits n) is ∙ digits }
