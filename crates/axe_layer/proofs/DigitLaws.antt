-- Lists of digits: their sums, digit by digit.
use Rattle.std.proofs.Common.{◌≡◌, ℕ, ◌+◌, ◌*◌, ◌%◌, ◌<◌, List, length, get_or, set, replicate, sym, ap, subst, ◌∙◌, arith}
use Rattle.std.proofs.Math.Nat.{mod-eq_of_lt, mod-lt}
use Rattle.std.proofs.lemmas.List.{ext_get_or, get_or_past}
use Rattle.std.proofs.lemmas.List.Elements.{All-replicate, All-set}
use Rattle.std.proofs.lemmas.Simd.{get_or-zip2, length-zip2}
use Rattle.std.specs.Simd.Lanes.{zip2}
use native.Mathlib.Decide.{dec_lt}
use Rattle.axe_algebra.proofs.ListEntries.{listed_length, listed_at}
use Rattle.axe_lane.specs.Bytes.{sum_modulo, AreDigits}
use Rattle.axe_layer.specs.Digits.{digits_with_four, digits_with_multiple}

pub length-digits_with_multiple : (p : ℕ) (a : List ℕ) (m : ℕ) (b : List ℕ) → length (digits_with_multiple p a m b) ≡ length a
unfolding digits_with_multiple
length-digits_with_multiple p a m b = listed_length (length a) _

pub get_or-digits_with_multiple : (p : ℕ) (a : List ℕ) (m : ℕ) (b : List ℕ) (e : ℕ) → e < length a →
    get_or (digits_with_multiple p a m b) e 0 ≡ (get_or a e 0 + m * get_or b e 0) % p
unfolding digits_with_multiple
get_or-digits_with_multiple p a m b e below = listed_at (length a) _ e 0 below

at-digits_with_multiple : (p : ℕ) (a : List ℕ) (m : ℕ) (b : List ℕ) (e d : ℕ) → e < length a →
    get_or (digits_with_multiple p a m b) e d ≡ (get_or a e 0 + m * get_or b e 0) % p
unfolding digits_with_multiple
at-digits_with_multiple p a m b e d below = listed_at (length a) _ e d below

-- a digit, also past the end
pub digit-below : (p : ℕ) (digits : List ℕ) (e : ℕ) → 0 < p → AreDigits p digits → get_or digits e 0 < p
digit-below p digits e positive all = elim (dec_lt e (length digits)) [
  | yes inside ↦ all e 0 inside
  | no outside ↦ subst (λ x. x < p) (sym (get_or_past digits e 0 (omega arith))) positive
]

-- sums are digits
pub AreDigits-sum : (p : ℕ) (a : List ℕ) (m : ℕ) (b : List ℕ) → 0 < p → AreDigits p (digits_with_multiple p a m b)
AreDigits-sum p a m b positive = λ e d inside.
    let here : e < length a = omega (arith, length-digits_with_multiple p a m b) in
    subst (λ x. x < p) (sym (at-digits_with_multiple p a m b e d here)) (mod-lt (get_or a e 0 + m * get_or b e 0) positive)

pub AreDigits-zeros : (p n : ℕ) → 0 < p → AreDigits p (replicate n 0)
AreDigits-zeros p n positive = All-replicate (λ digit. digit < p) n 0 positive

pub AreDigits-set : (p : ℕ) (digits : List ℕ) (i d : ℕ) → d < p → AreDigits p digits → AreDigits p (set digits i d)
AreDigits-set p digits i d below all = All-set (λ digit. digit < p) digits i d below all

-- no multiple changes nothing
pub digits_with_multiple-none : (p : ℕ) (a : List ℕ) (m : ℕ) (b : List ℕ) → 0 < p → m ≡ 0 → AreDigits p a → a ≡ digits_with_multiple p a m b
digits_with_multiple-none p a m b positive none all =
    ext_get_or 0 a (digits_with_multiple p a m b) (sym (length-digits_with_multiple p a m b)) (λ e inside.
    let nothing : get_or a e 0 + m * get_or b e 0 ≡ get_or a e 0 = rw none (omega arith) in
    sym (get_or-digits_with_multiple p a m b e inside ∙ ap (λ x. x % p) nothing ∙ mod-eq_of_lt (all e 0 inside)))

-- the same sum, two lists side by side
pub zip2-sum : (p : ℕ) (a : List ℕ) (m : ℕ) (b : List ℕ) → length b ≡ length a → zip2 (λ x y. (x + m * y) % p) a b ≡ digits_with_multiple p a m b
zip2-sum p a m b same =
    ext_get_or 0 (zip2 (λ x y. (x + m * y) % p) a b) (digits_with_multiple p a m b)
    (length-zip2 (λ x y. (x + m * y) % p) a b (sym same) ∙ sym (length-digits_with_multiple p a m b)) (λ e inside.
    let here : e < length a = omega (arith, length-zip2 (λ x y. (x + m * y) % p) a b (sym same)) in
    let there : e < length b = omega (arith, same) in
    get_or-zip2 (λ x y. (x + m * y) % p) a b e 0 0 0 here there ∙ sym (get_or-digits_with_multiple p a m b e here))

-- five lists side by side
pub zip2-plus : (p : ℕ) (a b : List ℕ) → length b ≡ length a → zip2 (λ x y. (x + y) % p) a b ≡ digits_with_multiple p a 1 b
zip2-plus p a b same =
    ext_get_or 0 (zip2 (λ x y. (x + y) % p) a b) (digits_with_multiple p a 1 b)
    (length-zip2 (λ x y. (x + y) % p) a b (sym same) ∙ sym (length-digits_with_multiple p a 1 b)) (λ e inside.
    let here : e < length a = omega (arith, length-zip2 (λ x y. (x + y) % p) a b (sym same)) in
    let there : e < length b = omega (arith, same) in
    let one : get_or b e 0 ≡ 1 * get_or b e 0 = omega arith in
    get_or-zip2 (λ x y. (x + y) % p) a b e 0 0 0 here there ∙ ap (λ y. (get_or a e 0 + y) % p) one
    ∙ sym (get_or-digits_with_multiple p a 1 b e here))

pub length-digits_with_four : (p : ℕ) (x a b c d : List ℕ) → length (digits_with_four p x a b c d) ≡ length x
length-digits_with_four p x a b c d =
    length-digits_with_multiple p _ 1 d ∙ length-digits_with_multiple p _ 1 c ∙ length-digits_with_multiple p _ 1 b ∙ length-digits_with_multiple p x 1 a

pub sum_of_five : (p : ℕ) (x a b c d : List ℕ) → length a ≡ length x → length b ≡ length x → length c ≡ length x → length d ≡ length x →
    sum_modulo p (sum_modulo p (sum_modulo p (sum_modulo p x a) b) c) d ≡ digits_with_four p x a b c d
sum_of_five p x a b c d ha hb hc hd =
    let first = length-digits_with_multiple p x 1 a in
    let second = length-digits_with_multiple p (digits_with_multiple p x 1 a) 1 b ∙ first in
    let third = length-digits_with_multiple p (digits_with_multiple p (digits_with_multiple p x 1 a) 1 b) 1 c ∙ second in
    ap (λ (s : List ℕ). sum_modulo p (sum_modulo p (sum_modulo p s b) c) d) (zip2-plus p x a ha)
    ∙ ap (λ (s : List ℕ). sum_modulo p (sum_modulo p s c) d) (zip2-plus p _ b (hb ∙ sym first))
    ∙ ap (λ (s : List ℕ). sum_modulo p s d) (zip2-plus p _ c (hc ∙ sym second))
    ∙ zip2-plus p _ d (hd ∙ sym third)
