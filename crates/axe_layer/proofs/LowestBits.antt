-- A word without the lowest bit of it that is 1.
use Rattle.std.proofs.Common.{◌≡◌, ◌≢◌, ℕ, zero, suc, ◌+◌, ◌-◌, ◌/◌, ◌%◌, ◌<◌, cond, eqb, Bool, true, false, min, refl, sym, ap, ◌∙◌, arith, inl, inr, w64}
use Rattle.std.specs.Int.{bit_at, trailing_zeros}
use Rattle.std.specs.Int.Bits.{bit_and}
use Rattle.std.proofs.lemmas.Bool.{cases_eq, eq-eqb, ne_eqb}
use Rattle.std.proofs.lemmas.Nat.Bits.{bit_at-zero, bit_at-suc, bit_at_lowest, bit_at_and, bit_at-trailing_zeros}
use native.Mathlib.Decide.{dec_lt}

-- half of the number before an odd number, and before an even one
half_of_odd : (w : ℕ) → bit_at w 0 ≡ 1 → (w - 1) / 2 ≡ w / 2
half_of_odd w one = omega (arith, one, bit_at_lowest w)

half_of_even : (w : ℕ) → bit_at w 0 ≡ 0 → (w - 1) / 2 ≡ w / 2 - 1
half_of_even w none = omega (arith, none, bit_at_lowest w)

-- the number before has a 0 in the place of the lowest bit that is 1
before_in_lowest : (t w : ℕ) → ((i : ℕ) → i < t → bit_at w i ≡ 0) → bit_at w t ≡ 1 → bit_at (w - 1) t ≡ 0
before_in_lowest zero w below one = omega (arith, one, bit_at_lowest w, bit_at_lowest (w - 1))
before_in_lowest (suc t) w below one =
    bit_at-suc (w - 1) t ∙ ap (λ h. bit_at h t) (half_of_even w (below 0 (omega arith)))
    ∙ before_in_lowest t (w / 2) (λ i low. sym (bit_at-suc w i) ∙ below (suc i) (omega (arith, low))) (sym (bit_at-suc w t) ∙ one)

-- and the same bits in the places after
before_past_lowest : (t w j : ℕ) → ((i : ℕ) → i < t → bit_at w i ≡ 0) → bit_at w t ≡ 1 → t < j → bit_at (w - 1) j ≡ bit_at w j
before_past_lowest t w zero below one past = absurd (omega (arith, past))
before_past_lowest zero w (suc j) below one past =
    bit_at-suc (w - 1) j ∙ ap (λ h. bit_at h j) (half_of_odd w one) ∙ sym (bit_at-suc w j)
before_past_lowest (suc t) w (suc j) below one past =
    bit_at-suc (w - 1) j ∙ ap (λ h. bit_at h j) (half_of_even w (below 0 (omega arith)))
    ∙ before_past_lowest t (w / 2) j (λ i low. sym (bit_at-suc w i) ∙ below (suc i) (omega (arith, low))) (sym (bit_at-suc w t) ∙ one)
    (omega (arith, past))
    ∙ sym (bit_at-suc w j)

-- where the one of two numbers is the other or 0
pub zero_or_zero : (b : Bool) (x : ℕ) → x ≡ 0 → cond b 0 x ≡ 0
zero_or_zero true x none = refl
zero_or_zero false x none = none

-- the bits that a word and the number before it have both
pub bit_at-without_lowest : (w i : ℕ) → w < 18446744073709551616 →
    bit_at (bit_and w ((w + 18446744073709551615) % 18446744073709551616)) i ≡ cond (eqb i (trailing_zeros w64 w)) 0 (bit_at w i)
bit_at-without_lowest w i fits = elim (cases_eq (bit_at w i) 0) [
  | inl none ↦ bit_at_and w _ i ∙ omega (arith, none) ∙ sym (zero_or_zero (eqb i low) (bit_at w i) none)
  | inr some ↦
      let nonzero : w ≢ 0 = λ none. some (ap (λ v. bit_at v i) none ∙ bit_at-zero i) in
      let bit = bit_at-trailing_zeros w64 w (omega (arith, nonzero)) (omega (arith, fits)) in
      let before : (w + 18446744073709551615) % 18446744073709551616 ≡ w - 1 = omega (arith, fits, nonzero) in
      let both = bit_at_and w _ i ∙ ap (λ v. min (bit_at w i) (bit_at v i)) before in
      elim (cases_eq i low) [
        | inl same ↦
            both ∙ omega (arith, ap (bit_at (w - 1)) same ∙ before_in_lowest low w bit.2 bit.1)
            ∙ sym (ap (λ b. cond b 0 (bit_at w i)) (eq-eqb i low same))
        | inr other ↦
            let past : low < i = elim (dec_lt i low) [ yes less ↦ absurd (some (bit.2 i less)) | no more ↦ omega (arith, other, more) ] in
            both ∙ omega (arith, before_past_lowest low w i bit.2 bit.1 past)
            ∙ sym (ap (λ b. cond b 0 (bit_at w i)) (ne_eqb i low other))
      ]
]
  where
    low : ℕ
    low = trailing_zeros w64 w
