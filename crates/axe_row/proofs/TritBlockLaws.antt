-- Blocks of 64 entries over fields of characteristic 3, by the digits modulo 3 of their words.
use Rattle.std.proofs.Common.{◌≡◌, ◌≢◌, ◌⊎◌, inl, inr, cond, ◌||◌, ℕ, zero, suc, ◌+◌, ◌*◌, ◌/◌, ◌%◌, ◌<◌, ◌≤◌, Bool, true, eqb, List, length, get_or, max, refl, sym, ap, ap₂, ◌∙◌, arith}
use Rattle.std.specs.List.{All}
use Rattle.std.specs.Int.{bit_at}
use Rattle.std.specs.Int.Bits.{bit_or, bit_xor}
use Rattle.std.proofs.lemmas.Bool.{cases_lt, eqb-true}
use Rattle.std.proofs.lemmas.List.Elements.{All-get_or}
use Rattle.std.proofs.lemmas.Nat.Bits.{bit_at-lt, bit_at_or, bit_at_xor}
use Rattle.axe_field.specs.Arithmetic.{coefficients, number_of, polynomial_sum, polynomial_multiple, polynomial_negative, polynomial_product, without_leading, polynomial_remainder, polynomial_of, field_add, field_mul}
use Rattle.axe_field.specs.CheckedLaws.{passes_below, passes_below-at}
use Rattle.axe_field.specs.NumberFields.{number_field}
use Rattle.axe_field.specs.Order.{Order, Two, Three, Four, Five, Seven, Eight, Nine, order_number, prime_of, IsElement}
use Rattle.axe_row.specs.BitBlocks.{low_at, IsBlock}
use Rattle.axe_row.specs.Operations.{sum_with_multiple}
use Rattle.axe_row.specs.declared.bit_block.BitBlock.{BitBlock}
use Rattle.axe_row.proofs.BlockElements.{high_at, length-block, trit-number, trit-block, weight-three}
use Rattle.axe_row.proofs.OperationLaws.{get_or-row_with_multiple, length-sum_with_multiple}

-- ---- sums of digits modulo 3 by their words

-- two digits modulo 3 have one bit each at most: the bits of their sum
sum_of_bits : (o t a b : ℕ) → o < 2 → t < 2 → a < 2 → b < 2 → o + 2 * t < 3 → a + 2 * b < 3 →
    (max t b + (max o b + max t a) % 2) % 2 + 2 * ((max o a + (max o b + max t a) % 2) % 2) ≡ (o + 2 * t + (a + 2 * b)) % 3
sum_of_bits o t a b ho ht ha hb first second = omega arith

-- a place of the words of a sum: where x and z are the words of ones, and y and w those of twos
pub digit_of_sum : (x y z w i : ℕ) → bit_at x i + 2 * bit_at y i < 3 → bit_at z i + 2 * bit_at w i < 3 →
    bit_at (bit_xor (bit_or y w) (bit_xor (bit_or x w) (bit_or y z))) i + 2 * bit_at (bit_xor (bit_or x z) (bit_xor (bit_or x w) (bit_or y z))) i
    ≡ (bit_at x i + 2 * bit_at y i + (bit_at z i + 2 * bit_at w i)) % 3
digit_of_sum x y z w i first second =
    ap₂ (λ u v. u + 2 * v) (turned y w) (turned x z)
    ∙ sum_of_bits (bit_at x i) (bit_at y i) (bit_at z i) (bit_at w i) (bit_at-lt x i) (bit_at-lt y i) (bit_at-lt z i) (bit_at-lt w i) first second
  where
    unequal : bit_at (bit_xor (bit_or x w) (bit_or y z)) i ≡ (max (bit_at x i) (bit_at w i) + max (bit_at y i) (bit_at z i)) % 2
    unequal = bit_at_xor (bit_or x w) (bit_or y z) i ∙ ap₂ (λ u v. (u + v) % 2) (bit_at_or x w i) (bit_at_or y z i)

    turned : (u v : ℕ) → bit_at (bit_xor (bit_or u v) (bit_xor (bit_or x w) (bit_or y z))) i
        ≡ (max (bit_at u i) (bit_at v i) + (max (bit_at x i) (bit_at w i) + max (bit_at y i) (bit_at z i)) % 2) % 2
    turned u v = bit_at_xor (bit_or u v) (bit_xor (bit_or x w) (bit_or y z)) i ∙ ap₂ (λ s t. (s + t) % 2) (bit_at_or u v i) unequal

-- a place of the words of a negative
pub digit_of_negative : (x y i : ℕ) → bit_at x i + 2 * bit_at y i < 3 → bit_at y i + 2 * bit_at x i ≡ 2 * (bit_at x i + 2 * bit_at y i) % 3
digit_of_negative x y i small = omega (arith, bit_at-lt x i, bit_at-lt y i)

-- a multiple by 1 modulo 3
pub once : (k s : ℕ) → k < 3 → k ≢ 0 → k ≢ 2 → s < 3 → s ≡ k * s % 3
once k s small some not_two digit =
    let one : k ≡ 1 = omega (arith, small, some, not_two) in
    rw one (omega (arith, digit))

-- ---- multiples over nine elements: a and b are the digits x of 1 and y of x, or their negatives

abbrev pub negative_over_nine : ℕ → Bool
negative_over_nine k = eqb k 2 || (eqb k 5 || (eqb k 6 || eqb k 8))

-- the digit of 1 and that of x of the multiple by k
abbrev constant_over_nine : ℕ → ℕ → ℕ → ℕ
constant_over_nine k x y = (k % 3 * x + k / 3 * y) % 3

abbrev linear_over_nine : ℕ → ℕ → ℕ → ℕ
linear_over_nine k x y = (k / 3 * x + (k % 3 + k / 3) * y) % 3

-- a digit below 3, for a sum after it
pub digit_below : (x y : ℕ) → x ≡ y % 3 → x < 3
digit_below x y same = omega (arith, same)

module _ (k x y a b : ℕ) (negative : Bool) (sign : negative ≡ negative_over_nine k)
    (first : a ≡ cond negative 2 1 * x % 3) (second : b ≡ cond negative 2 1 * y % 3) where
  -- the sign of a scalar that is known
  known : (n d e : ℕ) → k ≡ n → d ≡ cond negative 2 1 * e % 3 → d ≡ cond (negative_over_nine n) 2 1 * e % 3
  known n d e is same = same ∙ ap (λ s. cond s 2 1 * e % 3) (sign ∙ ap negative_over_nine is)

  constant-by : (r n : ℕ) → k ≡ n → r ≡ constant_over_nine n x y → r ≡ constant_over_nine k x y
  constant-by r n is same = same ∙ sym (ap (λ j. constant_over_nine j x y) is)

  linear-by : (r n : ℕ) → k ≡ n → r ≡ linear_over_nine n x y → r ≡ linear_over_nine k x y
  linear-by r n is same = same ∙ sym (ap (λ j. linear_over_nine j x y) is)

  -- by 1 and 2
  pub constant_by_one : (k ≡ 1) ⊎ (k ≡ 2) → a ≡ constant_over_nine k x y
  constant_by_one (inl is) = constant-by a 1 is (omega (arith, known 1 a x is first))
  constant_by_one (inr is) = constant-by a 2 is (omega (arith, known 2 a x is first))

  pub linear_by_one : (k ≡ 1) ⊎ (k ≡ 2) → b ≡ linear_over_nine k x y
  linear_by_one (inl is) = linear-by b 1 is (omega (arith, known 1 b y is second))
  linear_by_one (inr is) = linear-by b 2 is (omega (arith, known 2 b y is second))

  -- by x and 2 x
  pub constant_by_x : (k ≡ 3) ⊎ (k ≡ 6) → b ≡ constant_over_nine k x y
  constant_by_x (inl is) = constant-by b 3 is (omega (arith, known 3 b y is second))
  constant_by_x (inr is) = constant-by b 6 is (omega (arith, known 6 b y is second))

  pub linear_by_x : (r : ℕ) → (k ≡ 3) ⊎ (k ≡ 6) → r ≡ (a + b) % 3 → r ≡ linear_over_nine k x y
  linear_by_x r (inl is) sum = linear-by r 3 is (omega (arith, sum, known 3 a x is first, known 3 b y is second))
  linear_by_x r (inr is) sum = linear-by r 6 is (omega (arith, sum, known 6 a x is first, known 6 b y is second))

  -- by 1 + x and 2 + 2 x
  pub constant_by_sum : (r : ℕ) → (k ≡ 4) ⊎ (k ≡ 8) → r ≡ (a + b) % 3 → r ≡ constant_over_nine k x y
  constant_by_sum r (inl is) sum = constant-by r 4 is (omega (arith, sum, known 4 a x is first, known 4 b y is second))
  constant_by_sum r (inr is) sum = constant-by r 8 is (omega (arith, sum, known 8 a x is first, known 8 b y is second))

  pub linear_by_sum : (r n : ℕ) → (k ≡ 4) ⊎ (k ≡ 8) → n ≡ 2 * b % 3 → r ≡ (a + n) % 3 → r ≡ linear_over_nine k x y
  linear_by_sum r n (inl is) other sum = linear-by r 4 is (omega (arith, sum, other, known 4 a x is first, known 4 b y is second))
  linear_by_sum r n (inr is) other sum = linear-by r 8 is (omega (arith, sum, other, known 8 a x is first, known 8 b y is second))

  -- by 2 + x and 1 + 2 x
  pub constant_by_difference : (r n : ℕ) → (k ≡ 5) ⊎ (k ≡ 7) → n ≡ 2 * b % 3 → r ≡ (a + n) % 3 → r ≡ constant_over_nine k x y
  constant_by_difference r n (inl is) other sum = constant-by r 5 is (omega (arith, sum, other, known 5 a x is first, known 5 b y is second))
  constant_by_difference r n (inr is) other sum = constant-by r 7 is (omega (arith, sum, other, known 7 a x is first, known 7 b y is second))

  pub linear_by_difference : (r : ℕ) → (k ≡ 5) ⊎ (k ≡ 7) → r ≡ 2 * a % 3 → r ≡ linear_over_nine k x y
  linear_by_difference r (inl is) other = linear-by r 5 is (omega (arith, other, known 5 a x is first))
  linear_by_difference r (inr is) other = linear-by r 7 is (omega (arith, other, known 7 a x is first))

-- the scalars that are left
pub one_or_two : (k : ℕ) → k ≢ 0 → k < 3 → (k ≡ 1) ⊎ (k ≡ 2)
one_or_two zero some small = absurd (some refl)
one_or_two (suc zero) some small = inl refl
one_or_two (suc (suc k)) some small = inr (omega (arith, small))

pub five_or_seven : (k : ℕ) → k < 9 → k ≢ 0 → k ≢ 1 → k ≢ 2 → k ≢ 3 → k ≢ 4 → k ≢ 6 → k ≢ 8 → (k ≡ 5) ⊎ (k ≡ 7)
five_or_seven k small a b c d e f g = elim (cases_lt k 6) [
  | inl below ↦ inl (omega (arith, below, a, b, c, d, e))
  | inr past ↦ inr (omega (arith, past, small, f, g))
]

-- ---- sums with multiples in the fields of characteristic 3, each law a test of all elements

-- over three elements d + c s is computed modulo 3
is_sum_over_three : ℕ → ℕ → ℕ → Bool
is_sum_over_three d c s = eqb (field_add Three d (field_mul Three c s)) ((d + c * s % 3) % 3)

-- over nine, where x^2 is x + 1, d + c s is computed by the coefficients of 1 and x
number_over_nine : ℕ → ℕ → ℕ → ℕ
number_over_nine d c s =
    (d % 3 + (c % 3 * (s % 3) + c / 3 * (s / 3)) % 3) % 3 + 3 * ((d / 3 + (c / 3 * (s % 3) + (c % 3 + c / 3) * (s / 3)) % 3) % 3)

is_sum_over_nine : ℕ → ℕ → ℕ → Bool
is_sum_over_nine d c s = eqb (field_add Nine d (field_mul Nine c s)) (number_over_nine d c s)

sums_over_three : passes_below 3 (λ d. passes_below 3 (λ c. passes_below 3 (is_sum_over_three d c))) ≡ true
unfolding passes_below is_sum_over_three coefficients number_of polynomial_sum polynomial_multiple polynomial_negative polynomial_product without_leading polynomial_remainder polynomial_of field_add field_mul
sums_over_three = refl

sums_over_nine : passes_below 9 (λ d. passes_below 9 (λ c. passes_below 9 (is_sum_over_nine d c))) ≡ true
unfolding passes_below is_sum_over_nine number_over_nine coefficients number_of polynomial_sum polynomial_multiple polynomial_negative polynomial_product without_leading polynomial_remainder polynomial_of field_add field_mul
sums_over_nine = refl

in_three : (d c s : ℕ) → d < 3 → c < 3 → s < 3 → field_add Three d (field_mul Three c s) ≡ (d + c * s % 3) % 3
unfolding is_sum_over_three
in_three d c s hd hc hs =
    eqb-true _ _ (passes_below-at 3 _ (passes_below-at 3 _ (passes_below-at 3 _ sums_over_three d hd) c hc) s hs)

in_nine : (d c s : ℕ) → d < 9 → c < 9 → s < 9 → field_add Nine d (field_mul Nine c s) ≡ number_over_nine d c s
unfolding is_sum_over_nine
in_nine d c s hd hc hs =
    eqb-true _ _ (passes_below-at 9 _ (passes_below-at 9 _ (passes_below-at 9 _ sums_over_nine d hd) c hc) s hs)

sum_over_three-is : (o : Order) → order_number o ≡ 3 → (d c s : ℕ) → IsElement o d → IsElement o c → IsElement o s →
    field_add o d (field_mul o c s) ≡ (d + c * s % 3) % 3
sum_over_three-is Two is = absurd (omega (arith, is))
sum_over_three-is Three is = in_three
sum_over_three-is Four is = absurd (omega (arith, is))
sum_over_three-is Five is = absurd (omega (arith, is))
sum_over_three-is Seven is = absurd (omega (arith, is))
sum_over_three-is Eight is = absurd (omega (arith, is))
sum_over_three-is Nine is = absurd (omega (arith, is))

sum_over_nine-is : (o : Order) → order_number o ≢ 3 → prime_of o ≡ 3 → (d c s : ℕ) → IsElement o d → IsElement o c → IsElement o s →
    field_add o d (field_mul o c s) ≡ number_over_nine d c s
sum_over_nine-is Two not_three odd = absurd (omega (arith, odd))
sum_over_nine-is Three not_three odd = absurd (not_three refl)
sum_over_nine-is Four not_three odd = absurd (omega (arith, odd))
sum_over_nine-is Five not_three odd = absurd (omega (arith, odd))
sum_over_nine-is Seven not_three odd = absurd (omega (arith, odd))
sum_over_nine-is Eight not_three odd = absurd (omega (arith, odd))
sum_over_nine-is Nine not_three odd = in_nine

-- an element has two coefficients modulo 3 at most
order_at_most : (o : Order) → prime_of o ≡ 3 → order_number o ≤ 9
order_at_most Two odd = omega arith
order_at_most Three odd = omega arith
order_at_most Four odd = omega arith
order_at_most Five odd = omega arith
order_at_most Seven odd = omega arith
order_at_most Eight odd = omega arith
order_at_most Nine odd = omega arith

-- ---- the entries of a block

module _ (o : Order) (odd : prime_of o ≡ 3) (block : BitBlock) (entries : List ℕ) (all : All (IsElement o) entries) (is : IsBlock o entries block) where
  length-held : length entries ≡ 64
  length-held = ap (λ (l : List ℕ). length l) (sym is.numbers) ∙ length-block o block

  held-at : (i : ℕ) → i < 64 → get_or entries i 0 ≡ low_at block i + 3 * high_at block i
  held-at i low = ap (λ (l : List ℕ). get_or l i 0) (sym is.numbers) ∙ trit-number o block odd i low

  held-low : (i : ℕ) → i < 64 → low_at block i < 3
  held-low i low = omega (arith, is.low i low, weight-three o odd)

  held-element : (i : ℕ) → i < 64 → get_or entries i 0 < order_number o
  held-element i low = All-get_or (IsElement o) entries i 0 (omega (arith, low, length-held)) all

  held-high : (i : ℕ) → i < 64 → high_at block i < 3
  held-high i low = omega (arith, held-at i low, held-element i low, order_at_most o odd)

-- ---- sums of blocks

module _ (o : Order) (odd : prime_of o ≡ 3) (k : ℕ) (element : IsElement o k) (block other after : BitBlock) (entries others : List ℕ)
    (all : All (IsElement o) entries) (all' : All (IsElement o) others) (is : IsBlock o entries block) (is' : IsBlock o others other) where
  -- a block has the sums, where it has their two coefficients at each place
  made : ((i : ℕ) → i < 64 → low_at after i + 3 * high_at after i ≡ field_add o (get_or entries i 0) (field_mul o k (get_or others i 0))) →
      ((i : ℕ) → i < 64 → low_at after i < 3) → IsBlock o (sum_with_multiple (number_field o) entries k others) after
  made same small =
      trit-block o after (sum_with_multiple (number_field o) entries k others) odd
      (length-sum_with_multiple (number_field o) entries k others ∙ length-held o odd block entries all is)
      (λ i low. same i low ∙ sym (get_or-row_with_multiple o entries k others i (omega (arith, low, length-held o odd block entries all is)))) small

  -- over three elements, where the higher words stay, since they are 0
  pub block_over_three : order_number o ≡ 3 → ((i : ℕ) → i < 64 → high_at after i ≡ high_at block i) →
      ((i : ℕ) → i < 64 → low_at block i < 3 → low_at other i < 3 → low_at after i ≡ (low_at block i + k * low_at other i % 3) % 3) →
      IsBlock o (sum_with_multiple (number_field o) entries k others) after
  block_over_three three high low_sum =
      made (λ i low.
      let d = held-at o odd block entries all is i low in
      let s = held-at o odd other others all' is' i low in
      let hd = held-element o odd block entries all is i low in
      let hs = held-element o odd other others all' is' i low in
      let d_is : get_or entries i 0 ≡ low_at block i = omega (arith, d, hd, three) in
      let s_is : get_or others i 0 ≡ low_at other i = omega (arith, s, hs, three) in
      let none : high_at after i ≡ 0 = high i low ∙ omega (arith, d, hd, three) in
      let alone : low_at after i + 3 * high_at after i ≡ low_at after i = omega (arith, none) in
      alone ∙ low_sum i low (held-low o odd block entries all is i low) (held-low o odd other others all' is' i low)
      ∙ sym (ap₂ (λ u v. (u + k * v % 3) % 3) d_is s_is) ∙ sym (sum_over_three-is o three _ k _ hd element hs))
      (λ i low.
      let sum = low_sum i low (held-low o odd block entries all is i low) (held-low o odd other others all' is' i low) in
      digit_below (low_at after i) _ sum)

  -- over nine, coefficient by coefficient
  pub block_over_nine : order_number o ≢ 3 →
      ((i : ℕ) → i < 64 → k < 9 → low_at block i < 3 → low_at other i < 3 → high_at block i < 3 → high_at other i < 3 →
      low_at after i ≡ (low_at block i + (k % 3 * low_at other i + k / 3 * high_at other i) % 3) % 3) →
      ((i : ℕ) → i < 64 → k < 9 → low_at block i < 3 → low_at other i < 3 → high_at block i < 3 → high_at other i < 3 →
      high_at after i ≡ (high_at block i + (k / 3 * low_at other i + (k % 3 + k / 3) * high_at other i) % 3) % 3) →
      IsBlock o (sum_with_multiple (number_field o) entries k others) after
  unfolding number_over_nine
  block_over_nine not_three low_sum high_sum =
      let small : k < 9 = omega (arith, element, order_at_most o odd) in
      made (λ i low.
      let ld = held-low o odd block entries all is i low in
      let ls = held-low o odd other others all' is' i low in
      let hd = held-high o odd block entries all is i low in
      let hs = held-high o odd other others all' is' i low in
      let d = held-at o odd block entries all is i low in
      let s = held-at o odd other others all' is' i low in
      let d_low : get_or entries i 0 % 3 ≡ low_at block i = omega (arith, d, ld) in
      let d_high : get_or entries i 0 / 3 ≡ high_at block i = omega (arith, d, ld) in
      let s_low : get_or others i 0 % 3 ≡ low_at other i = omega (arith, s, ls) in
      let s_high : get_or others i 0 / 3 ≡ high_at other i = omega (arith, s, ls) in
      ap₂ (λ u v. u + 3 * v) (low_sum i low small ld ls hd hs) (high_sum i low small ld ls hd hs)
      ∙ sym (ap₂ (λ u v. (u + v % 3) % 3 + 3 * ((get_or entries i 0 / 3 + (k / 3 * (get_or others i 0 % 3) + (k % 3 + k / 3) * (get_or others i 0 / 3)) % 3) % 3)) d_low (ap₂ (λ u v. k % 3 * u + k / 3 * v) s_low s_high)
      ∙ ap₂ (λ u v. (low_at block i + (k % 3 * low_at other i + k / 3 * high_at other i) % 3) % 3 + 3 * ((u + v % 3) % 3)) d_high (ap₂ (λ u v. k / 3 * u + (k % 3 + k / 3) * v) s_low s_high))
      ∙ sym (sum_over_nine-is o not_three odd _ k _ (held-element o odd block entries all is i low) element (held-element o odd other others all' is' i low)))
      (λ i low.
      let sum = low_sum i low small (held-low o odd block entries all is i low) (held-low o odd other others all' is' i low) (held-high o odd block entries all is i low) (held-high o odd other others all' is' i low) in
      digit_below (low_at after i) _ sum)
