-- Lists of digits modulo a prime.
use Rattle.std.specs.Prelude.{ℕ, ◌+◌, ◌*◌, ◌/◌, ◌%◌, ◌^◌, ◌<◌, List, [], ◌∷◌}
use Rattle.std.specs.Prelude.{length, map, slice_index}
use Rattle.std.specs.Simd.Lanes.{chunk}
use Rattle.axe_algebra.specs.Digits.{number_with_digits}
use Rattle.axe_algebra.specs.Lists.{listed}

-- a list of digits plus m times another, modulo p, digit by digit (any linear algebra text)
unfoldable pub digits_with_multiple : ℕ → List ℕ → ℕ → List ℕ → List ℕ
digits_with_multiple p a m b = listed (length a) (λ e. (slice_index a e + m * slice_index b e) % p)

-- the digits that numbers have in base p at a place, the lowest at 0 (any arithmetic text)
abbrev pub digits_at : ℕ → ℕ → List ℕ → List ℕ
digits_at p place numbers = map (λ x. (x / p ^ place) % p) numbers

-- a list of digits plus four others, modulo p, digit by digit
abbrev pub digits_with_four : ℕ → List ℕ → List ℕ → List ℕ → List ℕ → List ℕ → List ℕ
digits_with_four p x a b c d =
    digits_with_multiple p (digits_with_multiple p (digits_with_multiple p (digits_with_multiple p x 1 a) 1 b) 1 c) 1 d

-- a list of numbers plus m times a list of digits, number by number (0 where there is no digit)
unfoldable pub numbers_with_multiple : List ℕ → ℕ → List ℕ → List ℕ
numbers_with_multiple a m digits = listed (length a) (λ e. slice_index a e + m * slice_index digits e)

-- each sum of a number and m times the digit at its index is below 256
abbrev pub AreSmallSums : List ℕ → ℕ → List ℕ → Type 0
AreSmallSums a m digits = (e : ℕ) → e < length digits → slice_index a e + m * slice_index digits e < 256

-- the number whose digits in base b, most significant first, are those of a list from an index on, `size` of them or
-- those that there are
abbrev pub number_from : ℕ → ℕ → ℕ → List ℕ → ℕ
number_from b size at digits = number_with_digits b (chunk at size digits)

-- the bound of the numbers of up to eight digits below 9
abbrev pub number_bound : ℕ
number_bound = 9 ^ 8

-- the numbers of four lists of digits of one size, one after another from an index on
abbrev pub numbers_from : ℕ → ℕ → ℕ → List ℕ → List ℕ
numbers_from b size at digits =
    number_from b size at digits ∷ number_from b size (at + size) digits ∷ number_from b size (at + 2 * size) digits
    ∷ number_from b size (at + 3 * size) digits ∷ []
