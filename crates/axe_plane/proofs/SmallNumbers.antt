-- Numbers of one, of two and of three digits.
use Rattle.std.proofs.Common.{◌≡◌, ℕ, ◌+◌, ◌*◌, ◌≤◌, List, length, get_or, ap, ◌∙◌, arith}
use Rattle.axe_layer.specs.Digits.{number_from}
use Rattle.axe_layer.proofs.PieceDigits.{number_from-values, with_values, count_from}

-- the number of one digit
pub number_from-one : (b at : ℕ) (xs : List ℕ) → at + 1 ≤ length xs → number_from b 1 at xs ≡ get_or xs at 0
number_from-one b at xs within =
    let one : count_from 1 at (length xs) ≡ 1 = omega (arith, within) in
    number_from-values b 1 at xs ∙ ap (with_values b (λ j. get_or xs (at + j) 0)) one ∙ first
  where
    first : with_values b (λ j. get_or xs (at + j) 0) 1 ≡ get_or xs at 0
    first = let same : get_or xs (at + 0) 0 ≡ get_or xs at 0 = ap (λ k. get_or xs k 0) (omega arith) in omega (arith, same)

-- the number of two digits
pub number_from-two : (b at : ℕ) (xs : List ℕ) → at + 2 ≤ length xs → number_from b 2 at xs ≡ get_or xs at 0 * b + get_or xs (at + 1) 0
number_from-two b at xs within =
    let two : count_from 2 at (length xs) ≡ 2 = omega (arith, within) in
    number_from-values b 2 at xs ∙ ap (with_values b (λ j. get_or xs (at + j) 0)) two ∙ first
  where
    start : 0 * b + get_or xs (at + 0) 0 ≡ get_or xs at 0
    start = let same : get_or xs (at + 0) 0 ≡ get_or xs at 0 = ap (λ k. get_or xs k 0) (omega arith) in omega (arith, same)

    first : with_values b (λ j. get_or xs (at + j) 0) 2 ≡ get_or xs at 0 * b + get_or xs (at + 1) 0
    first = ap (λ x. x * b + get_or xs (at + 1) 0) start

-- the number of three digits
pub number_from-three : (b at : ℕ) (xs : List ℕ) → at + 3 ≤ length xs →
    number_from b 3 at xs ≡ (get_or xs at 0 * b + get_or xs (at + 1) 0) * b + get_or xs (at + 2) 0
number_from-three b at xs within =
    let three : count_from 3 at (length xs) ≡ 3 = omega (arith, within) in
    number_from-values b 3 at xs ∙ ap (with_values b (λ j. get_or xs (at + j) 0)) three ∙ first
  where
    start : 0 * b + get_or xs (at + 0) 0 ≡ get_or xs at 0
    start = let same : get_or xs (at + 0) 0 ≡ get_or xs at 0 = ap (λ k. get_or xs k 0) (omega arith) in omega (arith, same)

    first : with_values b (λ j. get_or xs (at + j) 0) 3 ≡ (get_or xs at 0 * b + get_or xs (at + 1) 0) * b + get_or xs (at + 2) 0
    first = ap (λ x. (x * b + get_or xs (at + 1) 0) * b + get_or xs (at + 2) 0) start
