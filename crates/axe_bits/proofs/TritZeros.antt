-- Digits modulo 3 in two layers of bits: zeros, multiples, and that digits fix layers.
use Rattle.std.proofs.Common.{◌≡◌, ℕ, ◌+◌, ◌*◌, ◌%◌, ◌<◌, List, length, get_or, refl, sym, ap, ◌∙◌, arith, lit<, inl, inr}
use Rattle.std.specs.List.{All}
use Rattle.std.proofs.lemmas.List.{ext_get_or, get_or_past, get_or-map, length-map}
use Rattle.std.proofs.lemmas.List.Elements.{All-get_or, All-from_get_or}
use Rattle.std.proofs.lemmas.Bool.{cases_lt}
use native.Mathlib.Decide.{dec_lt}
use Rattle.axe_algebra.proofs.ListEntries.{listed_at}
use Rattle.axe_lane.specs.Bytes.{multiple_modulo}
use Rattle.axe_lane.specs.Entries.{AreZerosBefore}
use Rattle.axe_lane.proofs.ByteLaws.{multiple_by_one}
use Rattle.axe_bits.specs.Trits.{trits, HoldTrits}
use Rattle.axe_layer.proofs.BitLaws.{zeros, get_or-zeros}
use Rattle.axe_layer.specs.Digits.{digits_with_multiple}
use Rattle.axe_layer.proofs.DigitLaws.{length-digits_with_multiple, get_or-digits_with_multiple, AreDigits-zeros}
use Rattle.axe_bits.proofs.TritLaws.{length-trits}

abbrev IsZero : ℕ → Type 0
IsZero digit = digit ≡ 0

-- ---- the digits that are zero

-- each digit of a list of zeros, at any index
zero_at : (x : List ℕ) → All IsZero x → (e : ℕ) → get_or x e 0 ≡ 0
zero_at x all e = elim (dec_lt e (length x)) [
  | yes inside ↦ All-get_or IsZero x e 0 inside all
  | no outside ↦ get_or_past x e 0 (omega arith)
]

zeros_from : (x : List ℕ) → ((e : ℕ) → get_or x e 0 ≡ 0) → All IsZero x
zeros_from x each = All-from_get_or IsZero x 0 (λ e inside. each e)

-- each digit by those of the layers, at any index
trit_at : (a b : List ℕ) → HoldTrits a b → (e : ℕ) → get_or (trits a b) e 0 ≡ get_or a e 0 + 2 * get_or b e 0
unfolding trits
trit_at a b h e = elim (dec_lt e (length a)) [
  | yes inside ↦ listed_at (length a) _ e 0 inside
  | no outside ↦
      let left = get_or_past a e 0 (omega arith) in
      let right = get_or_past b e 0 (omega (arith, h.as_long)) in
      let whole = get_or_past (trits a b) e 0 (omega (arith, length-trits a b)) in
      omega (arith, left, right, whole)
]

module _ (a b x : List ℕ) (h : HoldTrits a b) (is : trits a b ≡ x) where
  pub trit_of : (e : ℕ) → get_or x e 0 ≡ get_or a e 0 + 2 * get_or b e 0
  trit_of e = ap (λ (y : List ℕ). get_or y e 0) (sym is) ∙ trit_at a b h e

  pub trits_long : length x ≡ length a
  trits_long = ap length (sym is) ∙ length-trits a b

  -- all digits are zero exactly where all bits of both layers are
  pub zero_trits : All IsZero a → All IsZero b → All IsZero x
  zero_trits all both = zeros_from x (λ e. omega (arith, trit_of e, zero_at a all e, zero_at b both e))

  pub zero_ones : All IsZero x → All IsZero a
  zero_ones all = zeros_from a (λ e. omega (arith, trit_of e, zero_at x all e))

  pub zero_twos : All IsZero x → All IsZero b
  zero_twos all = zeros_from b (λ e. omega (arith, trit_of e, zero_at x all e))

-- ---- the digits fix the layers

module _ (a b c d : List ℕ) (h : HoldTrits a b) (k : HoldTrits c d) (same : trits a b ≡ trits c d) where
  as_long : length a ≡ length c
  as_long = sym (length-trits a b) ∙ ap length same ∙ length-trits c d

  same_digit : (e : ℕ) → get_or a e 0 + 2 * get_or b e 0 ≡ get_or c e 0 + 2 * get_or d e 0
  same_digit e = sym (trit_at a b h e) ∙ ap (λ (x : List ℕ). get_or x e 0) same ∙ trit_at c d k e

  pub same_ones : a ≡ c
  same_ones = ext_get_or 0 a c as_long (λ e _. omega (arith, same_digit e, h.apart e, k.apart e))

  pub same_twos : b ≡ d
  same_twos =
      ext_get_or 0 b d (h.as_long ∙ as_long ∙ sym k.as_long) (λ e _. omega (arith, same_digit e, h.apart e, k.apart e))

-- ---- multiples

-- layers of zeros
pub HoldTrits-zeros : (n : ℕ) → HoldTrits (zeros n) (zeros n)
HoldTrits-zeros n = record {
  as_long = refl;
  ones_digits = AreDigits-zeros 2 n (lit< tt);
  twos_digits = AreDigits-zeros 2 n (lit< tt);
  apart = λ e. omega (arith, get_or-zeros n e);
}

pub trits-zeros : (n : ℕ) → trits (zeros n) (zeros n) ≡ zeros n
trits-zeros n =
    ext_get_or 0 (trits (zeros n) (zeros n)) (zeros n) (length-trits (zeros n) (zeros n)) (λ e _.
    omega (arith, trit_at (zeros n) (zeros n) (HoldTrits-zeros n) e, get_or-zeros n e))

-- the layers the other way round
pub HoldTrits-exchanged : (a b : List ℕ) → HoldTrits a b → HoldTrits b a
HoldTrits-exchanged a b h = record {
  as_long = sym h.as_long;
  ones_digits = h.twos_digits;
  twos_digits = h.ones_digits;
  apart = λ e. omega (arith, h.apart e);
}

module _ (a b x : List ℕ) (h : HoldTrits a b) (is : trits a b ≡ x) where
  -- the multiple by 1 is the same
  pub trits_by_one : (m : ℕ) → m ≡ 1 → x ≡ multiple_modulo 3 m x
  trits_by_one m one =
      multiple_by_one 3 m one x
      (All-from_get_or (λ digit. digit < 3) x 0 (λ e _. omega (arith, trit_of a b x h is e, h.apart e)))

  -- the multiple by 2 has the layers the other way round
  pub trits_by_two : (m : ℕ) → m ≡ 2 → trits b a ≡ multiple_modulo 3 m x
  trits_by_two m two =
      ext_get_or 0 (trits b a) (multiple_modulo 3 m x) long (λ e inside.
      let here : e < length x = omega (arith, long, length-map x (λ y. (m * y) % 3)) in
      trit_at b a (HoldTrits-exchanged a b h) e ∙ twice e ∙ ap (λ k. (k * get_or x e 0) % 3) (sym two)
      ∙ sym (get_or-map (λ y. (m * y) % 3) x e 0 0 here))
    where
      long : length (trits b a) ≡ length (multiple_modulo 3 m x)
      long = length-trits b a ∙ h.as_long ∙ sym (trits_long a b x h is) ∙ sym (length-map x (λ y. (m * y) % 3))

      twice : (e : ℕ) → get_or b e 0 + 2 * get_or a e 0 ≡ (2 * get_or x e 0) % 3
      twice e = omega (arith, trit_of a b x h is e, h.apart e)

-- a multiple has zeros where the digits have
pub zeros_of_multiple : (m n : ℕ) (x : List ℕ) → AreZerosBefore x n → AreZerosBefore (multiple_modulo 3 m x) n
zeros_of_multiple m n x zeros j before = elim (cases_lt j (length x)) [
  | inl inside ↦ get_or-map (λ y. (m * y) % 3) x j 0 0 inside ∙ rw (zeros j before) (omega arith)
  | inr past ↦ get_or_past (multiple_modulo 3 m x) j 0 (omega (arith, past, length-map x (λ y. (m * y) % 3)))
]

reduced_sum : (x y : ℕ) → (x + 1 * (y % 3)) % 3 ≡ (x + y) % 3
reduced_sum x y = omega arith

-- a multiple that is added once
pub added_multiple : (m : ℕ) (x a : List ℕ) → length a ≡ length x → digits_with_multiple 3 x 1 (multiple_modulo 3 m a) ≡ digits_with_multiple 3 x m a
added_multiple m x a same =
    ext_get_or 0 _ _ (length-digits_with_multiple 3 x 1 _ ∙ sym (length-digits_with_multiple 3 x m a)) (λ e inside.
    let here : e < length x = omega (arith, length-digits_with_multiple 3 x 1 (multiple_modulo 3 m a)) in
    let there : e < length a = omega (arith, same) in
    get_or-digits_with_multiple 3 x 1 (multiple_modulo 3 m a) e here
    ∙ ap (λ y. (get_or x e 0 + 1 * y) % 3) (get_or-map (λ y. (m * y) % 3) a e 0 0 there)
    ∙ reduced_sum (get_or x e 0) (m * get_or a e 0)
    ∙ sym (get_or-digits_with_multiple 3 x m a e here))
