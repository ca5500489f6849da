-- The arithmetic of a finite field on the numbers of its elements. An element of the field of order p^n is a polynomial
-- of degree below n over the integers modulo p; the operations are those of polynomials modulo the Conway polynomial. A
-- polynomial is the list of its coefficients, the constant one first, and an element's number has them as its digits.
use Rattle.std.specs.Prelude.{◌≡◌, ℕ, zero, suc, ◌+◌, ◌-◌, ◌*◌, ◌/◌, ◌%◌, ◌<◌, ◌==◌}
use Rattle.std.specs.Prelude.{List, [], ◌∷◌, length, map, take, find, unwrap_or, slice_index}
use Rattle.std.specs.List.{range_with_len}
use Rattle.axe_field.specs.Order.{Order, order_number, prime_of, degree_of, conway}

-- the polynomial of n coefficients whose number is a: the n lowest digits of a in base p
unfoldable pub coefficients : ℕ → ℕ → ℕ → List ℕ
coefficients p zero a = []
coefficients p (suc n) a = a % p ∷ coefficients p n (a / p)

-- the number of a polynomial f0 + f1 x + f2 x^2 + ..: f0 + f1 p + f2 p^2 + ..
unfoldable pub number_of : ℕ → List ℕ → ℕ
number_of p [] = 0
number_of p (a ∷ f) = a + p * number_of p f

-- the sum of two polynomials, coefficient by coefficient modulo p
unfoldable pub polynomial_sum : ℕ → List ℕ → List ℕ → List ℕ
polynomial_sum p [] g = g
polynomial_sum p (a ∷ f) [] = a ∷ f
polynomial_sum p (a ∷ f) (b ∷ g) = (a + b) % p ∷ polynomial_sum p f g

-- a constant times a polynomial
unfoldable pub polynomial_multiple : ℕ → ℕ → List ℕ → List ℕ
polynomial_multiple p a f = map (λ b. a * b % p) f

-- a polynomial with the opposite sign
unfoldable pub polynomial_negative : ℕ → List ℕ → List ℕ
polynomial_negative p f = map (λ a. (p - a) % p) f

-- the product of two polynomials: (a + x f) g = a g + x (f g)
unfoldable pub polynomial_product : ℕ → List ℕ → List ℕ → List ℕ
polynomial_product p [] g = []
polynomial_product p (a ∷ f) g = polynomial_sum p (polynomial_multiple p a g) (0 ∷ polynomial_product p f g)

-- a polynomial r of degree at most n, less the multiple of the monic polynomial m of degree n that takes x^n away
unfoldable pub without_leading : ℕ → ℕ → List ℕ → List ℕ → List ℕ
without_leading p n m r =
    take n (polynomial_sum p r (polynomial_negative p (polynomial_multiple p (slice_index r n) m)))

-- the remainder of a polynomial by the monic polynomial m of degree n: that of a + x f is a + x r without x^n, where r
-- is the remainder of f
unfoldable pub polynomial_remainder : ℕ → ℕ → List ℕ → List ℕ → List ℕ
polynomial_remainder p n m [] = []
polynomial_remainder p n m (a ∷ f) = without_leading p n m (a ∷ polynomial_remainder p n m f)

-- the polynomial of an element
unfoldable pub polynomial_of : Order → ℕ → List ℕ
polynomial_of o a = coefficients (prime_of o) (degree_of o) a

-- the sum of two elements: digit by digit modulo p
unfoldable pub field_add : Order → ℕ → ℕ → ℕ
field_add o a b = number_of (prime_of o) (polynomial_sum (prime_of o) (polynomial_of o a) (polynomial_of o b))

-- the element whose sum with a is 0
unfoldable pub field_neg : Order → ℕ → ℕ
field_neg o a = number_of (prime_of o) (polynomial_negative (prime_of o) (polynomial_of o a))

-- the product of two elements: that of their polynomials, modulo the Conway polynomial
unfoldable pub field_mul : Order → ℕ → ℕ → ℕ
field_mul o a b =
    number_of (prime_of o)
    (polynomial_remainder (prime_of o) (degree_of o) (conway o)
    (polynomial_product (prime_of o) (polynomial_of o a) (polynomial_of o b)))

-- the inverse of an element other than 0: the element whose product with a is 1 (of 0: 0)
unfoldable pub field_inv : Order → ℕ → ℕ
field_inv o a = unwrap_or (find (λ b. field_mul o a b == 1) (range_with_len 0 (order_number o))) 0

-- r is the remainder of f by m: it has fewer coefficients than m, so that its degree is below m's where m's last one is
-- not 0, and f is a multiple of m plus r (polynomials are compared by their numbers, since a list may end with zeros)
abbrev pub IsRemainder : ℕ → List ℕ → List ℕ → List ℕ → Type 0
IsRemainder p f m r =
    (length r < length m)
    × ((g : List ℕ) × (number_of p f ≡ number_of p (polynomial_sum p (polynomial_product p g m) r)))
