-- The number that has some digits of a list, digit by digit.
use Rattle.std.proofs.Common.{◌≡◌, ℕ, zero, suc, ◌+◌, ◌-◌, ◌*◌, ◌^◌, ◌<◌, ◌≤◌, List, [], ◌∷◌, ◌++◌, length, get_or, take, drop, min, refl, sym, ap, ap₂, subst, ◌∙◌, arith, add-one, lit<}
use Rattle.std.proofs.lemmas.List.{get_or-drop, get_or_past, length-drop, length_push, take_more, take_min}
use native.Mathlib.Decide.{dec_lt}
use native.Mathlib.Nat.{mul_assoc, mul_comm, add-mul, mul-add, pow-zero, pow-suc, pow-le-pow_right, mul-le-mul_left}
use Rattle.axe_algebra.specs.Digits.{number_with_digits}
use Rattle.axe_layer.specs.Digits.{number_bound, number_from}

-- one digit more, at the end
pub number_with_digits-push : (q : ℕ) (ds : List ℕ) (d : ℕ) → number_with_digits q (ds ++ d ∷ []) ≡ number_with_digits q ds * q + d
unfolding number_with_digits
number_with_digits-push q [] d = omega (arith, ap (λ n. d * n) (pow-zero q))
number_with_digits-push q (e ∷ ds) d =
    let power : q ^ length (ds ++ d ∷ []) ≡ q ^ length ds * q = ap (λ n. q ^ n) (length_push ds d ∙ add-one (length ds)) ∙ pow-suc q (length ds) in
    ap₂ (λ (a b : ℕ). e * a + b) power (number_with_digits-push q ds d)
    ∙ regrouped e (q ^ length ds) q (number_with_digits q ds) d
  where
    regrouped : (e p q n d : ℕ) → e * (p * q) + (n * q + d) ≡ (e * p + n) * q + d
    regrouped e p q n d = omega (arith, mul_assoc e p q, add-mul (e * p) n q)

-- the number with the values of a function at the numbers below n as its digits
abbrev pub with_values : ℕ → (ℕ → ℕ) → ℕ → ℕ
with_values b f zero = 0
with_values b f (suc n) = with_values b f n * b + f n

pub with_values-same : (b : ℕ) (f g : ℕ → ℕ) (n : ℕ) → ((j : ℕ) → j < n → f j ≡ g j) → with_values b f n ≡ with_values b g n
with_values-same b f g zero same = refl
with_values-same b f g (suc n) same =
    ap₂ (λ x y. x * b + y) (with_values-same b f g n (λ j h. same j (omega arith))) (same n (omega arith))

pub with_values-none : (b : ℕ) (f : ℕ → ℕ) (n : ℕ) → ((j : ℕ) → f j ≡ 0) → with_values b f n ≡ 0
with_values-none b f zero none = refl
with_values-none b f (suc n) none =
    ap₂ (λ x y. x * b + y) (with_values-none b f n none) (none n) ∙ omega arith

-- a number with digits below 9
with_values-below : (b : ℕ) (f : ℕ → ℕ) (n : ℕ) → b ≤ 9 → ((j : ℕ) → f j < 9) → with_values b f n < 9 ^ n
with_values-below b f zero base small = lit< tt
with_values-below b f (suc n) base small =
    let before = with_values-below b f n base small in
    let power : 9 ^ suc n ≡ 9 * 9 ^ n = pow-suc 9 n ∙ mul_comm (9 ^ n) 9 in
    let most : with_values b f n * b ≤ with_values b f n * 9 = mul-le-mul_left (with_values b f n) base in
    omega (arith, power, most, before, small n)

-- and at most eight of them
pub with_values-small : (b : ℕ) (f : ℕ → ℕ) (n : ℕ) → b ≤ 9 → ((j : ℕ) → f j < 9) → n ≤ 8 → with_values b f n < number_bound
with_values-small b f n base small few =
    let power : 9 ^ n ≤ 9 ^ 8 = pow-le-pow_right {n = 9} (lit< tt) few in
    omega (arith, with_values-below b f n base small, power)

-- digits that are a sum with a multiple of others
pub with_values-sum : (b p : ℕ) (f g : ℕ → ℕ) (n : ℕ) → with_values b (λ j. f j + p * g j) n ≡ with_values b f n + p * with_values b g n
with_values-sum b p f g zero = omega arith
with_values-sum b p f g (suc n) =
    ap (λ x. x * b + (f n + p * g n)) (with_values-sum b p f g n) ∙ regrouped (with_values b f n) (with_values b g n) (f n) (g n)
  where
    regrouped : (x y u v : ℕ) → (x + p * y) * b + (u + p * v) ≡ x * b + u + p * (y * b + v)
    regrouped x y u v = omega (arith, add-mul x (p * y) b, mul_assoc p y b, mul-add p (y * b) v)

-- the first digits of a list
pub number_of_first : (b : ℕ) (xs : List ℕ) (n : ℕ) → n ≤ length xs → number_with_digits b (take n xs) ≡ with_values b (λ j. get_or xs j 0) n
unfolding number_with_digits
number_of_first b xs zero most = refl
number_of_first b xs (suc n) most =
    let more : suc n ≡ n + 1 = omega arith in
    ap (λ m. number_with_digits b (take m xs)) more ∙ ap (number_with_digits b) (take_more xs n 0 (omega arith))
    ∙ number_with_digits-push b (take n xs) (get_or xs n 0)
    ∙ ap (λ m. m * b + get_or xs n 0) (number_of_first b xs n (omega arith))

-- how many digits there are from an index on, up to `size`
abbrev pub count_from : ℕ → ℕ → ℕ → ℕ
count_from size at len = min size (len - at)

pub number_from-values : (b size at : ℕ) (xs : List ℕ) →
    number_from b size at xs ≡ with_values b (λ j. get_or xs (at + j) 0) (count_from size at (length xs))
number_from-values b size at xs =
    let all : count_from size at (length xs) ≡ min size (length (drop at xs)) = omega (arith, length-drop at xs) in
    ap (number_with_digits b) (sym (take_min size (drop at xs)))
    ∙ number_of_first b (drop at xs) (min size (length (drop at xs))) (omega arith)
    ∙ ap (with_values b (λ j. get_or (drop at xs) j 0)) (sym all)
    ∙ with_values-same b _ _ (count_from size at (length xs)) (λ j _. get_or-drop at xs j 0)

-- the number of the digits from an index on that stand below another
pub record IsNumberOf (b at : ℕ) (xs : List ℕ) (index number : ℕ) : Type 0 where
  pub number_is : number ≡ with_values b (λ j. get_or xs (at + j) 0) (index - at)
  pub below : number < 9 ^ (index - at)

pub IsNumberOf-none : (b at : ℕ) (xs : List ℕ) → IsNumberOf b at xs at 0
IsNumberOf-none b at xs =
    let none : at - at ≡ 0 = omega arith in
    record {
      number_is = sym (ap (with_values b (λ j. get_or xs (at + j) 0)) none);
      below = subst (λ n. 0 < 9 ^ n) (sym none) (lit< tt);
    }

pub IsNumberOf-more : (b at : ℕ) (xs : List ℕ) (index number digit : ℕ) → IsNumberOf b at xs index number → at ≤ index → b ≤ 9 →
    digit ≡ get_or xs index 0 → digit < 9 → IsNumberOf b at xs (index + 1) (number * b + digit)
IsNumberOf-more b at xs index number digit h after base is small =
    let more : index + 1 - at ≡ suc (index - at) = omega arith in
    let here : index ≡ at + (index - at) = omega arith in
    record {
      number_is =
          ap₂ (λ x y. x * b + y) h.number_is (is ∙ ap (λ k. get_or xs k 0) here)
          ∙ ap (with_values b (λ j. get_or xs (at + j) 0)) (sym more);
      below =
          subst (λ n. number * b + digit < 9 ^ n) (sym more)
          (let power : 9 ^ suc (index - at) ≡ 9 * 9 ^ (index - at) = pow-suc 9 (index - at) ∙ mul_comm (9 ^ (index - at)) 9 in
          let most : number * b ≤ number * 9 = mul-le-mul_left number base in
          omega (arith, power, most, h.below));
    }

pub IsNumberOf-small : (b at : ℕ) (xs : List ℕ) (index number : ℕ) → IsNumberOf b at xs index number → index ≤ at + 8 → number < number_bound
IsNumberOf-small b at xs index number h most =
    let few : index - at ≤ 8 = omega arith in
    let power : 9 ^ (index - at) ≤ 9 ^ 8 = pow-le-pow_right {n = 9} (lit< tt) few in
    omega (arith, h.below)

-- a number of which no digit is there
none_past : (b at : ℕ) (xs : List ℕ) (n : ℕ) → length xs ≤ at → with_values b (λ j. get_or xs (at + j) 0) n ≡ 0
none_past b at xs n past = with_values-none b _ n (λ j. get_or_past xs (at + j) 0 (omega arith))

pub IsNumberOf-few : (b at : ℕ) (xs : List ℕ) (index number : ℕ) → IsNumberOf b at xs index number → (at ≤ length xs → index ≤ at + 8) →
    number < number_bound
IsNumberOf-few b at xs index number h most = elim (dec_lt (length xs) at) [
  | yes past ↦ omega (arith, h.number_is, none_past b at xs (index - at) (omega arith))
  | no inside ↦ IsNumberOf-small b at xs index number h (most (omega arith))
]

-- all of them
pub IsNumberOf-all : (b at size : ℕ) (xs : List ℕ) (index number : ℕ) → IsNumberOf b at xs index number →
    (at ≤ length xs → index - at ≡ count_from size at (length xs)) → number ≡ number_from b size at xs
IsNumberOf-all b at size xs index number h all = elim (dec_lt (length xs) at) [
  | yes past ↦
      h.number_is ∙ none_past b at xs (index - at) (omega arith)
      ∙ sym (number_from-values b size at xs ∙ none_past b at xs (count_from size at (length xs)) (omega arith))
  | no inside ↦
      h.number_is ∙ ap (with_values b (λ j. get_or xs (at + j) 0)) (all (omega arith)) ∙ sym (number_from-values b size at xs)
]

-- ---- four numbers

pub same_four : (a b c d w x y z : ℕ) → a ≡ w → b ≡ x → c ≡ y → d ≡ z → a ∷ b ∷ c ∷ d ∷ [] ≡ w ∷ x ∷ y ∷ z ∷ []
same_four a b c d w x y z e f g h = λ i. e i ∷ f i ∷ g i ∷ h i ∷ []

pub four_small : (n a b c d : ℕ) → a < n → b < n → c < n → d < n → (i : ℕ) → get_or (a ∷ b ∷ c ∷ d ∷ []) i 0 < n
four_small n a b c d ha hb hc hd zero = ha
four_small n a b c d ha hb hc hd (suc zero) = hb
four_small n a b c d ha hb hc hd (suc (suc zero)) = hc
four_small n a b c d ha hb hc hd (suc (suc (suc zero))) = hd
four_small n a b c d ha hb hc hd (suc (suc (suc (suc i)))) = omega arith
