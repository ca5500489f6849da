-- Multiples of a row over the fields of order 4, 8 and 9: each coefficient of a multiple is a sum of multiples of the
-- coefficients of the row, and the factors of these, that of 1 first, are listed here.
use Rattle.std.specs.Prelude.{ℕ, ◌+◌, ◌%◌, List, [], ◌∷◌}

-- the factors of a and b in the constant coefficient of (p + q x) (a + b x), where x^2 is x + 1, as over the fields of
-- order 4 and 9 with their Conway polynomials
abbrev pub to_constant_of_two : ℕ → ℕ → List ℕ
to_constant_of_two p q = p ∷ q ∷ []

-- those in its linear coefficient, where the prime of the field is given
abbrev pub to_linear_of_two : ℕ → ℕ → ℕ → List ℕ
to_linear_of_two prime p q = q ∷ (p + q) % prime ∷ []

-- the factors of a, b and c in the constant coefficient of (p + q x + r x^2) (a + b x + c x^2), where x^3 is x + 1, as
-- over the field of order 8 with its Conway polynomial
abbrev pub to_constant_of_three : ℕ → ℕ → ℕ → List ℕ
to_constant_of_three p q r = p ∷ r ∷ q ∷ []

-- those in its linear coefficient
abbrev pub to_linear_of_three : ℕ → ℕ → ℕ → List ℕ
to_linear_of_three p q r = q ∷ (p + r) % 2 ∷ (q + r) % 2 ∷ []

-- those in its coefficient of x^2
abbrev pub to_quadratic_of_three : ℕ → ℕ → ℕ → List ℕ
to_quadratic_of_three p q r = r ∷ q ∷ (p + r) % 2 ∷ []
