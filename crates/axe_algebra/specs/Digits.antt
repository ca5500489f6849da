-- The digits of a number in a base.
use Rattle.std.specs.Prelude.{ℕ, zero, suc, ◌+◌, ◌*◌, ◌/◌, ◌%◌, ◌^◌, List, [], ◌∷◌, length}

-- the m digits of the number x in base q, most significant first; what is above them is left out
unfoldable pub digits : ℕ → ℕ → ℕ → List ℕ
digits q zero x = []
digits q (suc m) x = (x / q ^ m % q) ∷ digits q m x

-- the number that has these digits in base q, most significant first
unfoldable pub number_with_digits : ℕ → List ℕ → ℕ
number_with_digits q [] = 0
number_with_digits q (digit ∷ rest) = digit * q ^ length rest + number_with_digits q rest
