-- Digits: how many and how large they are; numbers below q^m and lists of m digits below q are in one-to-one correspondence.
use Rattle.std.specs.Prelude.{◌≡◌, ℕ, zero, suc, ◌+◌, ◌*◌, ◌/◌, ◌%◌, ◌^◌, ◌<◌, List, [], ◌∷◌, length, get_or}
use Rattle.std.specs.List.{All}
use Rattle.std.proofs.lemmas.List.Elements.{All-nil, All-cons, All-head, All-tail}
use Rattle.std.proofs.lemmas.Nat.{div-mul-add, mul-add-lt, div_below}
use native.Mathlib.Nat.{mul-add-div_right, mul-add-mod_self_right, one-le-pow, pow-zero, mod-lt, mod-eq_of_lt, pow-suc, mul_assoc, mul_comm, div-add-mod'}
use Rattle.axe_algebra.specs.Digits.{digits, number_with_digits}
use Rattle.axe_algebra.specs.PointTheorems.{DigitsAreBelow, ListsAreDigits, DigitsTellTheNumber}
use mathlib.Core.Path.{refl, sym, ◌∙◌, ap, ap₂, subst}
use native.Mathlib.Omega.{arith}

pub digits_length : (q m x : ℕ) → length (digits q m x) ≡ m
unfolding digits
digits_length q zero x = refl
digits_length q (suc m) x = ap suc (digits_length q m x)

pub digits-below : (q m x : ℕ) → 0 < q → All (λ digit. digit < q) (digits q m x)
unfolding digits
digits-below q zero x positive = All-nil (λ (digit : ℕ). digit < q)
digits-below q (suc m) x positive =
    All-cons (λ (digit : ℕ). digit < q) (x / q ^ m % q) (digits q m x) (mod-lt (x / q ^ m) positive) (digits-below q m x positive)

pub pow-positive : (q m : ℕ) → 0 < q → 0 < q ^ m
pow-positive q m positive = one-le-pow m q positive

-- multiples of q^m don't count
pub digits_of_sum : (q m k y : ℕ) → 0 < q → digits q m (k * q ^ m + y) ≡ digits q m y
unfolding digits
digits_of_sum q zero k y positive = refl
digits_of_sum q (suc m) k y positive =
    ap (λ x. (x / q ^ m % q) ∷ digits q m x) regrouped
    ∙ ap₂ (λ (a : ℕ) (b : List ℕ). a ∷ b)
    (ap (λ n. n % q) (mul-add-div_right (pow-positive q m positive) (k * q) y) ∙ mul-add-mod_self_right k q (y / q ^ m))
    (digits_of_sum q m (k * q) y positive)
  where
    regrouped : k * q ^ suc m + y ≡ k * q * q ^ m + y
    regrouped = ap (λ n. n + y) (ap (λ n. k * n) (pow-suc q m ∙ mul_comm (q ^ m) q) ∙ sym (mul_assoc k q (q ^ m)))

-- the first digit and the others
pub digits_cons : (q m d y : ℕ) → d < q → y < q ^ m → digits q (suc m) (d * q ^ m + y) ≡ d ∷ digits q m y
unfolding digits
digits_cons q m d y below small =
    ap₂ (λ (a : ℕ) (b : List ℕ). a ∷ b)
    (ap (λ n. n % q) (div-mul-add d (q ^ m) y small) ∙ mod-eq_of_lt below)
    (digits_of_sum q m d y (omega arith))

pub number_with_digits-below : (q : ℕ) (ds : List ℕ) → All (λ digit. digit < q) ds → number_with_digits q ds < q ^ length ds
unfolding number_with_digits
number_with_digits-below q [] all = subst (λ n. 0 < n) (sym (pow-zero q)) (omega arith)
number_with_digits-below q (d ∷ ds) all =
    let rest : number_with_digits q ds < q ^ length ds = number_with_digits-below q ds (All-tail (λ (digit : ℕ). digit < q) d ds all) in
    let whole : d * q ^ length ds + number_with_digits q ds < q ^ length ds * q =
    mul-add-lt d (q ^ length ds) (number_with_digits q ds) q (All-head (λ (digit : ℕ). digit < q) d ds all) rest in
    subst (λ n. d * q ^ length ds + number_with_digits q ds < n) (sym (pow-suc q (length ds))) whole

pub digits_of_their_number : (q : ℕ) (ds : List ℕ) → All (λ digit. digit < q) ds → digits q (length ds) (number_with_digits q ds) ≡ ds
unfolding number_with_digits digits
digits_of_their_number q [] all = refl
digits_of_their_number q (d ∷ ds) all =
    digits_cons q (length ds) d (number_with_digits q ds) (All-head (λ (digit : ℕ). digit < q) d ds all) (number_with_digits-below q ds others)
    ∙ ap (λ (rest : List ℕ). d ∷ rest) (digits_of_their_number q ds others)
  where
    others : All (λ digit. digit < q) ds
    others = All-tail (λ (digit : ℕ). digit < q) d ds all

-- a number below q^(m + 1) is a digit times q^m and a number below q^m
pub leading_digit : (q m x : ℕ) → 0 < q → x < q ^ suc m → (x / q ^ m < q) × (x % q ^ m < q ^ m) × (x / q ^ m * q ^ m + x % q ^ m ≡ x)
leading_digit q m x positive small = (
  div_below x (q ^ m) q (pow-positive q m positive) (subst (λ n. x < n) (pow-suc q m ∙ mul_comm (q ^ m) q) small),
  mod-lt x (pow-positive q m positive),
  div-add-mod' x (q ^ m),
)

pub number_of_its_digits : (q m x : ℕ) → 0 < q → x < q ^ m → number_with_digits q (digits q m x) ≡ x
unfolding number_with_digits digits
number_of_its_digits q zero x positive small = omega (arith, pow-zero q)
number_of_its_digits q (suc m) x positive small =
    let parts = leading_digit q m x positive small in
    ap (λ n. number_with_digits q (digits q (suc m) n)) (sym parts.2)
    ∙ ap (number_with_digits q) (digits_cons q m (x / q ^ m) (x % q ^ m) parts.0 parts.1)
    ∙ ap₂ (λ (a b : ℕ). x / q ^ m * q ^ a + b) (digits_length q m (x % q ^ m)) (number_of_its_digits q m (x % q ^ m) positive parts.1)
    ∙ parts.2

-- two numbers below q^m with the same digits are the same
pub digits_are_injective : DigitsTellTheNumber
digits_are_injective q m x y positive x_small y_small same =
    sym (number_of_its_digits q m x positive x_small) ∙ ap (number_with_digits q) same ∙ number_of_its_digits q m y positive y_small

pub digits_are_below : DigitsAreBelow
digits_are_below q m x positive = (digits_length q m x, digits-below q m x positive)

pub lists_are_digits : ListsAreDigits
lists_are_digits q ds all = (number_with_digits-below q ds all, digits_of_their_number q ds all)

-- digit j, with k digits after it
pub digit_at : (q m x j k : ℕ) → j + k + 1 ≡ m → get_or (digits q m x) j 0 ≡ x / q ^ k % q
unfolding digits
digit_at q zero x j k all = absurd (omega arith)
digit_at q (suc m) x zero k all = ap (λ p. x / q ^ p % q) (let e : m ≡ k = omega arith in e)
digit_at q (suc m) x (suc j) k all = digit_at q m x j k (omega arith)
