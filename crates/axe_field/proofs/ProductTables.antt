-- The products of the nonzero elements in the fields of order 4, 8 and 9, written out by hand from x^2 = x + 1,
-- x^3 = x + 1 and x^2 = x + 1: the definition of the product gives these.
use Rattle.std.proofs.Common.{◌≡◌, ℕ, ◌-◌, List, [], ◌∷◌, map, refl}
use Rattle.std.specs.List.{range_with_len}
use Rattle.axe_field.specs.Order.{Order, Four, Eight, Nine, order_number}
use Rattle.axe_field.specs.Arithmetic.{coefficients, number_of, polynomial_sum, polynomial_multiple, polynomial_negative, polynomial_product, without_leading, polynomial_remainder, polynomial_of, field_mul}

-- row a, column b: the product of a and b, both from 1 on
unfoldable pub products_of : Order → List (List ℕ)
products_of o =
    map (λ a. map (field_mul o a) (range_with_len 1 (order_number o - 1))) (range_with_len 1 (order_number o - 1))

pub products_of-Four : products_of Four ≡
    (1 ∷ 2 ∷ 3 ∷ []) ∷
    (2 ∷ 3 ∷ 1 ∷ []) ∷
    (3 ∷ 1 ∷ 2 ∷ []) ∷ []
unfolding products_of coefficients number_of polynomial_sum polynomial_multiple polynomial_negative polynomial_product without_leading polynomial_remainder polynomial_of field_mul
products_of-Four = refl

pub products_of-Eight : products_of Eight ≡
    (1 ∷ 2 ∷ 3 ∷ 4 ∷ 5 ∷ 6 ∷ 7 ∷ []) ∷
    (2 ∷ 4 ∷ 6 ∷ 3 ∷ 1 ∷ 7 ∷ 5 ∷ []) ∷
    (3 ∷ 6 ∷ 5 ∷ 7 ∷ 4 ∷ 1 ∷ 2 ∷ []) ∷
    (4 ∷ 3 ∷ 7 ∷ 6 ∷ 2 ∷ 5 ∷ 1 ∷ []) ∷
    (5 ∷ 1 ∷ 4 ∷ 2 ∷ 7 ∷ 3 ∷ 6 ∷ []) ∷
    (6 ∷ 7 ∷ 1 ∷ 5 ∷ 3 ∷ 2 ∷ 4 ∷ []) ∷
    (7 ∷ 5 ∷ 2 ∷ 1 ∷ 6 ∷ 4 ∷ 3 ∷ []) ∷ []
unfolding products_of coefficients number_of polynomial_sum polynomial_multiple polynomial_negative polynomial_product without_leading polynomial_remainder polynomial_of field_mul
products_of-Eight = refl

pub products_of-Nine : products_of Nine ≡
    (1 ∷ 2 ∷ 3 ∷ 4 ∷ 5 ∷ 6 ∷ 7 ∷ 8 ∷ []) ∷
    (2 ∷ 1 ∷ 6 ∷ 8 ∷ 7 ∷ 3 ∷ 5 ∷ 4 ∷ []) ∷
    (3 ∷ 6 ∷ 4 ∷ 7 ∷ 1 ∷ 8 ∷ 2 ∷ 5 ∷ []) ∷
    (4 ∷ 8 ∷ 7 ∷ 2 ∷ 3 ∷ 5 ∷ 6 ∷ 1 ∷ []) ∷
    (5 ∷ 7 ∷ 1 ∷ 3 ∷ 8 ∷ 2 ∷ 4 ∷ 6 ∷ []) ∷
    (6 ∷ 3 ∷ 8 ∷ 5 ∷ 2 ∷ 4 ∷ 1 ∷ 7 ∷ []) ∷
    (7 ∷ 5 ∷ 2 ∷ 6 ∷ 4 ∷ 1 ∷ 8 ∷ 3 ∷ []) ∷
    (8 ∷ 4 ∷ 5 ∷ 1 ∷ 6 ∷ 7 ∷ 3 ∷ 2 ∷ []) ∷ []
unfolding products_of coefficients number_of polynomial_sum polynomial_multiple polynomial_negative polynomial_product without_leading polynomial_remainder polynomial_of field_mul
products_of-Nine = refl
