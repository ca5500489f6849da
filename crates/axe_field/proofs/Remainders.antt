-- The product of two elements is the remainder of the product of their polynomials: the quotients are computed.
use Rattle.std.proofs.Common.{◌≡◌, ℕ, ◌<◌, Bool, true, eqb, List, [], ◌∷◌, length, refl, arith, slice_index_or}
use Rattle.std.proofs.lemmas.Bool.{eqb-true}
use Rattle.axe_field.specs.Order.{Order, Two, Three, Four, Five, Seven, Eight, Nine, prime_of, degree_of, conway, IsElement}
use Rattle.axe_field.specs.Arithmetic.{coefficients, number_of, polynomial_sum, polynomial_multiple, polynomial_negative, polynomial_product, without_leading, polynomial_remainder, polynomial_of, field_mul, IsRemainder}
use Rattle.axe_field.specs.CheckedLaws.{passes_below, at_two, from_two}

-- the quotient of a polynomial by the monic polynomial m of degree n
quotient : ℕ → ℕ → List ℕ → List ℕ → List ℕ
quotient p n m [] = []
quotient p n m (a ∷ f) = slice_index_or (a ∷ polynomial_remainder p n m f) n 0 ∷ quotient p n m f

product_of : Order → ℕ → ℕ → List ℕ
product_of o a b = polynomial_product (prime_of o) (polynomial_of o a) (polynomial_of o b)

quotient_of : Order → ℕ → ℕ → List ℕ
quotient_of o a b = quotient (prime_of o) (degree_of o) (conway o) (product_of o a b)

divides : Order → ℕ → ℕ → Bool
divides o a b =
    eqb (number_of (prime_of o) (product_of o a b))
    (number_of (prime_of o)
    (polynomial_sum (prime_of o)
    (polynomial_product (prime_of o) (quotient_of o a b) (conway o)) (polynomial_of o (field_mul o a b))))

divides-all : (o : Order) → at_two divides o ≡ true
unfolding at_two passes_below divides quotient_of product_of quotient coefficients number_of polynomial_sum polynomial_multiple polynomial_negative polynomial_product without_leading polynomial_remainder polynomial_of field_mul
divides-all Two = refl
divides-all Three = refl
divides-all Four = refl
divides-all Five = refl
divides-all Seven = refl
divides-all Eight = refl
divides-all Nine = refl

-- an element's polynomial has fewer coefficients than the Conway polynomial
polynomial_is_short : (o : Order) (a : ℕ) → length (polynomial_of o a) < length (conway o)
unfolding coefficients polynomial_of
polynomial_is_short Two a = omega arith
polynomial_is_short Three a = omega arith
polynomial_is_short Four a = omega arith
polynomial_is_short Five a = omega arith
polynomial_is_short Seven a = omega arith
polynomial_is_short Eight a = omega arith
polynomial_is_short Nine a = omega arith

pub product_is_remainder : (o : Order) (a b : ℕ) → IsElement o a → IsElement o b →
    IsRemainder (prime_of o) (polynomial_product (prime_of o) (polynomial_of o a) (polynomial_of o b)) (conway o)
    (polynomial_of o (field_mul o a b))
unfolding divides product_of
product_is_remainder o a b ha hb =
    (polynomial_is_short o (field_mul o a b), (quotient_of o a b, eqb-true _ _ (from_two divides o (divides-all o) a b ha hb)))
