-- The seven fields of order below ten: their numbers, primes, degrees and Conway polynomials.
use Rattle.std.specs.Prelude.{ℕ, ◌<◌, List, [], ◌∷◌}

-- the order of a finite field, a prime power below ten
pub data Order : Type 0 where
  Two : Order
  Three : Order
  Four : Order
  Five : Order
  Seven : Order
  Eight : Order
  Nine : Order

-- the order as a number: how many elements the field has
abbrev pub order_number : Order → ℕ
order_number Two = 2
order_number Three = 3
order_number Four = 4
order_number Five = 5
order_number Seven = 7
order_number Eight = 8
order_number Nine = 9

-- the characteristic of the field: the prime p of its order p^n
abbrev pub prime_of : Order → ℕ
prime_of Two = 2
prime_of Three = 3
prime_of Four = 2
prime_of Five = 5
prime_of Seven = 7
prime_of Eight = 2
prime_of Nine = 3

-- the degree of the field over its prime field: the exponent n of its order p^n
abbrev pub degree_of : Order → ℕ
degree_of Two = 1
degree_of Three = 1
degree_of Four = 2
degree_of Five = 1
degree_of Seven = 1
degree_of Eight = 3
degree_of Nine = 2

-- the Conway polynomial of the field (Parker; the tables of Lübeck), by its coefficients from the constant one on:
-- x + 1, x + 1, x^2 + x + 1, x + 3, x + 4, x^3 + x + 1 and x^2 + 2 x + 2; it is monic, and its degree is the field's
abbrev pub conway : Order → List ℕ
conway Two = 1 ∷ 1 ∷ []
conway Three = 1 ∷ 1 ∷ []
conway Four = 1 ∷ 1 ∷ 1 ∷ []
conway Five = 3 ∷ 1 ∷ []
conway Seven = 4 ∷ 1 ∷ []
conway Eight = 1 ∷ 1 ∷ 0 ∷ 1 ∷ []
conway Nine = 2 ∷ 2 ∷ 1 ∷ []

-- a is the number of an element of the field
abbrev pub IsElement : Order → ℕ → Type 0
IsElement o a = a < order_number o
