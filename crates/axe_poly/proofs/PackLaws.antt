-- Words and their lanes.
use Rattle.std.specs.Prelude.{◌≡◌, ℕ, zero, suc, ◌+◌, ◌-◌, ◌*◌, ◌/◌, ◌%◌, ◌^◌, ◌<◌, ◌≤◌, List, length, get_or, set}
use Rattle.std.specs.Prelude.{bit_and}
use Rattle.std.proofs.Common.{get_or-set_other, get_or-set_same, pow-add}
use Rattle.std.proofs.lemmas.Nat.{div-mul-add, mod-mul-add, and_mask}
use Rattle.axe_poly.specs.Lanes.{packed}
use mathlib.Core.Path.{refl, sym, ◌∙◌, ap, ap₂, subst, fun_ext}
use native.Mathlib.Nat.{pow-suc, pow-zero, mul-zero, mul-suc, mul-le-mul_right, div-one, div-div-eq-div-mul}
use native.Mathlib.Omega.{arith}
use native.Mathlib.Decide.{ℕ_discrete}

-- lanes moved up by one, below them another
unfoldable pub moved : ℕ → (ℕ → ℕ) → ℕ → ℕ
moved c lanes zero = c
moved c lanes (suc j) = lanes j

sum_step : (p q x y z : ℕ) → p + q + (x + y) * z ≡ p + x * z + (q + y * z)
sum_step p q x y z = grind arith

pub packed_sum : (w n : ℕ) (a b : ℕ → ℕ) → packed w n (λ j. a j + b j) ≡ packed w n a + packed w n b
unfolding packed
packed_sum w zero a b = refl
packed_sum w (suc n) a b =
    ap (λ x. x + (a n + b n) * w ^ n) (packed_sum w n a b)
    ∙ sum_step (packed w n a) (packed w n b) (a n) (b n) (w ^ n)

no_step : (z : ℕ) → 0 + 0 * z ≡ 0
no_step z = grind arith

pub packed_zeros : (w n : ℕ) → packed w n (λ j. 0) ≡ 0
unfolding packed
packed_zeros w zero = refl
packed_zeros w (suc n) = ap (λ x. x + 0 * w ^ n) (packed_zeros w n) ∙ no_step (w ^ n)

moved_step : (c w x y z : ℕ) → c + x * w + y * (z * w) ≡ c + (x + y * z) * w
moved_step c w x y z = grind arith

one_step : (c w : ℕ) → 0 + c * 1 ≡ c + 0 * w
one_step c w = grind arith

pub packed_moved : (w n c : ℕ) (a : ℕ → ℕ) → packed w (suc n) (moved c a) ≡ c + packed w n a * w
unfolding packed moved
packed_moved w zero c a = ap (λ x. 0 + c * x) (pow-zero w) ∙ one_step c w
packed_moved w (suc n) c a =
    ap₂ (λ x y. x + a n * y) (packed_moved w n c a) (pow-suc w n)
    ∙ moved_step c w (packed w n a) (a n) (w ^ n)

below_step : (x y z t w : ℕ) → x < z → y < w → t ≡ z * w → x + y * z < t
below_step x y z t w small lane is =
    let e : suc y * z ≤ w * z = mul-le-mul_right z lane in
    let f : suc y * z ≡ z + y * z = grind arith in
    let g : z * w ≡ w * z = grind arith in
    omega (arith, e, f, g, small, is)

pub packed_below : (w n : ℕ) (a : ℕ → ℕ) → ((j : ℕ) → j < n → a j < w) → packed w n a < w ^ n
unfolding packed
packed_below w zero a each = omega (arith, pow-zero w)
packed_below w (suc n) a each =
    below_step (packed w n a) (a n) (w ^ n) (w ^ suc n) w (packed_below w n a (λ j below. each j (omega (arith, below))))
    (each n (omega arith)) (pow-suc w n)

-- the top lane
pub packed_top : (w n : ℕ) (a : ℕ → ℕ) → ((j : ℕ) → j < n → a j < w) → packed w (suc n) a / w ^ n ≡ a n
unfolding packed
packed_top w n a each =
    ap (λ x. x / w ^ n) (let e : packed w n a + a n * w ^ n ≡ a n * w ^ n + packed w n a = omega arith in e)
    ∙ div-mul-add (a n) (w ^ n) (packed w n a) (packed_below w n a each)

as_moved : (a : ℕ → ℕ) (j : ℕ) → a j ≡ moved (a 0) (λ i. a (suc i)) j
unfolding moved
as_moved a zero = refl
as_moved a (suc j) = refl

-- the lowest lane, and those after it
pub packed_low : (w n : ℕ) (a : ℕ → ℕ) → packed w (suc n) a ≡ packed w n (λ i. a (suc i)) * w + a 0
packed_low w n a =
    ap (packed w (suc n)) (fun_ext (as_moved a)) ∙ packed_moved w n (a 0) (λ i. a (suc i))
    ∙ (let e : a 0 + packed w n (λ i. a (suc i)) * w ≡ packed w n (λ i. a (suc i)) * w + a 0 = omega arith in e)

divided : (x w z t : ℕ) → t ≡ z * w → x / t ≡ x / w / z
divided x w z t is =
    ap (λ y. x / y) (is ∙ (let e : z * w ≡ w * z = grind arith in e)) ∙ sym (div-div-eq-div-mul x w z)

-- each lane
pub lane_at : (w n j : ℕ) (a : ℕ → ℕ) → ((i : ℕ) → i < n → a i < w) → j < n → packed w n a / w ^ j % w ≡ a j
lane_at w zero j a each inside = absurd (omega (arith, inside))
lane_at w (suc n) zero a each inside =
    ap₂ (λ x y. x / y % w) (packed_low w n a) (pow-zero w)
    ∙ ap (λ x. x % w) (div-one (packed w n (λ i. a (suc i)) * w + a 0))
    ∙ mod-mul-add (packed w n (λ i. a (suc i))) w (a 0) (each 0 inside)
lane_at w (suc n) (suc j) a each inside =
    ap (λ x. x % w)
    (divided (packed w (suc n) a) w (w ^ j) (w ^ suc j) (pow-suc w j)
    ∙ ap (λ x. x / w ^ j)
    (ap (λ x. x / w) (packed_low w n a)
    ∙ div-mul-add (packed w n (λ i. a (suc i))) w (a 0) (each 0 (omega (arith, inside)))))
    ∙ lane_at w n j (λ i. a (suc i)) (λ i below. each (suc i) (omega (arith, below))) (omega (arith, inside))

-- a list with one more value of a function
pub table_next : (f : ℕ → ℕ) (i v : ℕ) (xs ys : List ℕ) → i < length xs → v ≡ f i → ys ≡ set xs i v →
    ((j : ℕ) → j < i → get_or xs j 0 ≡ f j) → (j : ℕ) → j < i + 1 → get_or ys j 0 ≡ f j
table_next f i v xs ys inside is set_is before j below = cases (ℕ_discrete j i)
  where
    cases : Dec (j ≡ i) → get_or ys j 0 ≡ f j
    cases (yes same) =
        ap (λ (list : List ℕ). get_or list j 0) set_is ∙ ap (λ k. get_or (set xs i v) k 0) same
        ∙ get_or-set_same xs i v 0 inside ∙ is ∙ ap f (sym same)
    cases (no other) =
        ap (λ (list : List ℕ). get_or list j 0) set_is ∙ get_or-set_other xs i j v 0 other
        ∙ before j (omega (arith, below, other))

-- the lowest lane, by a mask
pub masked : (x bits base : ℕ) → 2 ^ bits ≡ base → bit_and x (base - 1) ≡ x % base
masked x bits base is = subst (λ b. bit_and x (b - 1) ≡ x % b) is (and_mask x bits)

pub packed_none : (w : ℕ) (a : ℕ → ℕ) → 0 ≡ packed w 0 a
unfolding packed
packed_none w a = refl

-- a power of a power
pub power_of_power : (a b n : ℕ) → a ^ (b * n) ≡ (a ^ b) ^ n
power_of_power a b zero = ap (λ x. a ^ x) (mul-zero b) ∙ pow-zero a ∙ sym (pow-zero (a ^ b))
power_of_power a b (suc n) =
    ap (λ x. a ^ x) (mul-suc b n) ∙ pow-add a (b * n) b ∙ ap (λ x. x * a ^ b) (power_of_power a b n)
    ∙ sym (pow-suc (a ^ b) n)
