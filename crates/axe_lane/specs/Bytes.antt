-- Lists of bytes as rows over a prime field of order below 8: each byte is a number below the prime.
use Rattle.std.specs.Prelude.{◌≡◌, ◌⊎◌, ℕ, ◌+◌, ◌-◌, ◌*◌, ◌%◌, ◌<◌, List, map, slice_index, sum, All, if◌then◌else◌, nat_le}
use Rattle.std.specs.Simd.Lanes.{zip2}

-- the primes below 8
abbrev pub IsSmallPrime : ℕ → Type 0
IsSmallPrime p = (p ≡ 2) ⊎ ((p ≡ 3) ⊎ ((p ≡ 5) ⊎ (p ≡ 7)))

-- each digit is below p
abbrev pub AreDigits : ℕ → List ℕ → Type 0
AreDigits p digits = All (λ digit. digit < p) digits

-- the sum of two rows modulo p, entry by entry
abbrev pub sum_modulo : ℕ → List ℕ → List ℕ → List ℕ
sum_modulo p a b = zip2 (λ x y. (x + y) % p) a b

-- a row plus m times another, modulo p, entry by entry
abbrev pub sum_with_multiple_modulo : ℕ → List ℕ → ℕ → List ℕ → List ℕ
sum_with_multiple_modulo p a m b = zip2 (λ x y. (x + m * y) % p) a b

-- a row plus multiples of four others, modulo p, entry by entry
abbrev pub sum_with_four_multiples : ℕ → List ℕ → List ℕ → List ℕ → List ℕ → List ℕ → List ℕ → List ℕ
sum_with_four_multiples p factors x a b c d =
    sum_with_multiple_modulo p (sum_with_multiple_modulo p (sum_with_multiple_modulo p
    (sum_with_multiple_modulo p x (slice_index factors 0) a) (slice_index factors 1) b)
    (slice_index factors 2) c) (slice_index factors 3) d

-- m times a row, modulo p, entry by entry
abbrev pub multiple_modulo : ℕ → ℕ → List ℕ → List ℕ
multiple_modulo p m a = map (λ x. (m * x) % p) a

-- x less y where x is not below y, and else x
abbrev pub less_where_not_below : ℕ → ℕ → ℕ
less_where_not_below y x = if nat_le y x then x - y else x

-- a row of sums below 16 p plus m times another row, entry by entry: 16 p is taken away where it can be
abbrev pub lazy_sum : ℕ → List ℕ → ℕ → List ℕ → List ℕ
lazy_sum p x m a = zip2 (λ d s. less_where_not_below (16 * p) (d + m * s)) x a

-- the sum of multiples of four rows, entry by entry
abbrev pub sum_of_multiples : List ℕ → List ℕ → List ℕ → List ℕ → List ℕ → List ℕ
sum_of_multiples factors a b c d =
    zip2 (λ x y. x + y) (zip2 (λ x y. x + y) (zip2 (λ x y. x + y)
    (map (λ x. slice_index factors 0 * x) a) (map (λ x. slice_index factors 1 * x) b))
    (map (λ x. slice_index factors 2 * x) c)) (map (λ x. slice_index factors 3 * x) d)

-- a row of sums below 16 p plus multiples of four other rows, entry by entry: 16 p is taken away twice where it can be
abbrev pub lazy_sum_with_four : ℕ → List ℕ → List ℕ → List ℕ → List ℕ → List ℕ → List ℕ → List ℕ
lazy_sum_with_four p factors x a b c d =
    zip2 (λ y s. less_where_not_below (16 * p) (less_where_not_below (16 * p) (y + s))) x (sum_of_multiples factors a b c d)

-- the sum of the products of the entries of two rows at the same index
abbrev pub sum_of_products : List ℕ → List ℕ → ℕ
sum_of_products a b = sum (zip2 (λ x y. x * y) a b)
