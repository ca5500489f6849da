-- Numbers to which digits modulo 3 are added, a layer at a time.
use Rattle.std.proofs.Common.{◌≡◌, ℕ, ◌+◌, ◌*◌, ◌<◌, ◌≤◌, List, length, get_or, sym, ap, ◌∙◌, arith}
use Rattle.std.proofs.lemmas.List.{ext_get_or}
use native.Mathlib.Nat.{mul_assoc, mul_comm, mul-add}
use Rattle.axe_layer.specs.Digits.{AreSmallSums, numbers_with_multiple}
use Rattle.axe_bits.specs.Trits.{trits, HoldTrits}
use Rattle.axe_layer.proofs.NumberSums.{length-numbers_with_multiple, get_or-numbers_with_multiple}
use Rattle.axe_bits.proofs.TritPlaneLaws.{trits_long, trits_at}

-- the first layer, and the second with factor 2, are the digits
pub sum_of_layers : (a b x ones both : List ℕ) → HoldTrits a b → trits a b ≡ x → ones ≡ a →
    both ≡ numbers_with_multiple ones 2 b → both ≡ x
sum_of_layers a b x ones both h is left right =
    let sum : both ≡ numbers_with_multiple a 2 b = right ∙ ap (λ (v : List ℕ). numbers_with_multiple v 2 b) left in
    let long : length both ≡ length a = ap length sum ∙ length-numbers_with_multiple a 2 b in
    ext_get_or 0 both x (long ∙ sym (trits_long a b x is)) (λ e inside.
    ap (λ (v : List ℕ). get_or v e 0) sum ∙ get_or-numbers_with_multiple a 2 b e (omega (arith, long))
    ∙ sym (trits_at a b x h is e))

-- the second layer can be added with factor 2 to the first
pub layers_small : (a b ones : List ℕ) → HoldTrits a b → ones ≡ a → AreSmallSums ones 2 b
layers_small a b ones h left e inside = omega (arith, ap (λ (v : List ℕ). get_or v e 0) left, h.apart e)

-- a multiple of a digit is that of its one, and twice that of its two
multiple_of_digit : (m one two digit : ℕ) → digit ≡ one + 2 * two → m * digit ≡ m * one + m * two + m * two
multiple_of_digit m one two digit is =
    let twice : m * (2 * two) ≡ m * two * 2 = ap (λ k. m * k) (mul_comm 2 two) ∙ sym (mul_assoc m two 2) in
    omega (arith, ap (λ k. m * k) is ∙ mul-add m one (2 * two), twice)

-- numbers to which a multiple of each digit can be added
pub record HaveSmallSums (a b x old : List ℕ) (m : ℕ) : Type 0 where
  pub held : HoldTrits a b
  pub digits : trits a b ≡ x
  pub fits : length x ≤ length old
  pub small : AreSmallSums old m x

pub have_small_sums : (a b x old : List ℕ) (m : ℕ) → HoldTrits a b → trits a b ≡ x → length x ≤ length old →
    AreSmallSums old m x → HaveSmallSums a b x old m
have_small_sums a b x old m held digits fits small = record { held = held; digits = digits; fits = fits; small = small }

module _ (a b x old : List ℕ) (m : ℕ) (h : HaveSmallSums a b x old m) where
  multiple_at : (e : ℕ) → m * get_or x e 0 ≡ m * get_or a e 0 + m * get_or b e 0 + m * get_or b e 0
  multiple_at e = multiple_of_digit m (get_or a e 0) (get_or b e 0) (get_or x e 0) (trits_at a b x h.held h.digits e)

  long : length x ≡ length a
  long = trits_long a b x h.digits

  pub ones_fit : length a ≤ length old
  ones_fit = omega (arith, long, h.fits)

  pub ones_small : AreSmallSums old m a
  ones_small e inside = omega (arith, h.small e (omega (arith, long)), multiple_at e)

  -- the ones are added
  module _ (first : List ℕ) (one : first ≡ numbers_with_multiple old m a) where
    first_long : length first ≡ length old
    first_long = ap length one ∙ length-numbers_with_multiple old m a

    first_at : (e : ℕ) → e < length old → get_or first e 0 ≡ get_or old e 0 + m * get_or a e 0
    first_at e inside = ap (λ (v : List ℕ). get_or v e 0) one ∙ get_or-numbers_with_multiple old m a e inside

    pub twos_fit : length b ≤ length first
    twos_fit = omega (arith, ones_fit, first_long, h.held.as_long)

    pub twos_small : AreSmallSums first m b
    twos_small e inside =
        let within : e < length old = omega (arith, ones_fit, h.held.as_long) in
        omega (arith, first_at e within, h.small e (omega (arith, long, h.held.as_long)), multiple_at e)

    -- and the twos once
    module _ (second : List ℕ) (two : second ≡ numbers_with_multiple first m b) where
      second_long : length second ≡ length old
      second_long = ap length two ∙ length-numbers_with_multiple first m b ∙ first_long

      second_at : (e : ℕ) → e < length old → get_or second e 0 ≡ get_or old e 0 + m * get_or a e 0 + m * get_or b e 0
      second_at e inside =
          ap (λ (v : List ℕ). get_or v e 0) two ∙ get_or-numbers_with_multiple first m b e (omega (arith, first_long))
          ∙ ap (λ n. n + m * get_or b e 0) (first_at e inside)

      pub twos_fit_again : length b ≤ length second
      twos_fit_again = omega (arith, ones_fit, second_long, h.held.as_long)

      pub twos_small_again : AreSmallSums second m b
      twos_small_again e inside =
          let within : e < length old = omega (arith, ones_fit, h.held.as_long) in
          omega (arith, second_at e within, h.small e (omega (arith, long, h.held.as_long)), multiple_at e)

      -- and a second time
      pub added : (third : List ℕ) → third ≡ numbers_with_multiple second m b → third ≡ numbers_with_multiple old m x
      added third three =
          let all : length third ≡ length old =
          ap length three ∙ length-numbers_with_multiple second m b ∙ second_long in
          let as_long = all ∙ sym (length-numbers_with_multiple old m x) in
          ext_get_or 0 third (numbers_with_multiple old m x) as_long (λ e inside.
          let within : e < length old = omega (arith, all) in
          let there : e < length second = omega (arith, second_long) in
          let sum = ap (λ (v : List ℕ). get_or v e 0) three ∙ get_or-numbers_with_multiple second m b e there in
          let whole = get_or-numbers_with_multiple old m x e within in
          omega (arith, sum, second_at e within, multiple_at e, whole))
