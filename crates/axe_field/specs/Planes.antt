-- Elements by their coefficients, and the matrix of the multiplication by an element.
use Rattle.std.specs.Prelude.{ℕ, zero, suc, ◌<◌, ◌+◌, ◌*◌, ◌%◌, List, [], ◌∷◌, map, cond, ltb, slice_index}
use Rattle.std.specs.List.{range_with_len}
use Rattle.axe_field.specs.Order.{Order, prime_of, degree_of, conway}
use Rattle.axe_algebra.specs.Lists.{entry}
use Rattle.axe_field.specs.Arithmetic.{polynomial_product, polynomial_remainder, polynomial_of, number_of}

-- the polynomial x^i
unfoldable pub monomial : ℕ → List ℕ
monomial zero = 1 ∷ []
monomial (suc i) = 0 ∷ monomial i

-- the coefficients of c x^i: those of the product of the polynomials, modulo the Conway polynomial
unfoldable pub coefficients_of_multiple : Order → ℕ → ℕ → List ℕ
coefficients_of_multiple o c i =
    polynomial_remainder (prime_of o) (degree_of o) (conway o)
    (polynomial_product (prime_of o) (polynomial_of o c) (monomial i))

-- the matrix of the multiplication by c on coefficients (any algebra text): row i, for i below the degree, has the
-- coefficients of c x^i; all else of three rows and columns is 0
unfoldable pub matrix_of_multiplication : Order → ℕ → List (List ℕ)
matrix_of_multiplication o c =
    map (λ i. map (λ j. cond (ltb i (degree_of o)) (slice_index (coefficients_of_multiple o c i) j) 0)
    (range_with_len 0 3))
    (range_with_len 0 3)

-- the coefficient of x^j of the element a (0 from the degree on)
abbrev pub coefficient : Order → ℕ → ℕ → ℕ
coefficient o a j = slice_index (polynomial_of o a) j

-- d may be the coefficient of x^j of an element: it is below the prime, and 0 from the degree on
abbrev pub IsCoefficient : Order → ℕ → ℕ → Type 0
IsCoefficient o j d = d < cond (ltb j (degree_of o)) (prime_of o) 1

-- the number of the element d0 + d1 x + d2 x^2
abbrev pub element_of : Order → ℕ → ℕ → ℕ → ℕ
element_of o d0 d1 d2 = number_of (prime_of o) (d0 ∷ d1 ∷ d2 ∷ [])

-- the coefficient of x^j of what a matrix makes of the element a: the sum over i of a's coefficient of x^i times entry
-- i, j, modulo the prime
abbrev pub coefficient_by_matrix : Order → List (List ℕ) → ℕ → ℕ → ℕ
coefficient_by_matrix o m a j =
    (coefficient o a 0 * entry m 0 j + coefficient o a 1 * entry m 1 j + coefficient o a 2 * entry m 2 j) % prime_of o
