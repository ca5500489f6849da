-- The numbers of the orders.
use Rattle.std.proofs.Common.{◌≡◌, ◌<◌, ◌≤◌, refl, ap, ◌∙◌, sym, arith, lit≤}
use Rattle.axe_field.specs.Order.{Order, Two, Three, Four, Five, Seven, Eight, Nine, order_number, IsElement}
use Rattle.axe_field.specs.CheckedLaws.{order_number-above}
use Rattle.axe_field.specs.Tables.{order_with}

pub order_number-at_least : (o : Order) → 2 ≤ order_number o
order_number-at_least o = let above : 1 < order_number o = order_number-above o in omega arith

pub order_number-at_most : (o : Order) → order_number o ≤ 9
order_number-at_most Two = lit≤ tt
order_number-at_most Three = lit≤ tt
order_number-at_most Four = lit≤ tt
order_number-at_most Five = lit≤ tt
order_number-at_most Seven = lit≤ tt
order_number-at_most Eight = lit≤ tt
order_number-at_most Nine = lit≤ tt

pub zero_is_element : (o : Order) → IsElement o 0
zero_is_element o = let above : 1 < order_number o = order_number-above o in omega arith

pub one_is_element : (o : Order) → IsElement o 1
one_is_element o = order_number-above o

pub order_with-number : (o : Order) → order_with (order_number o) ≡ o
order_with-number Two = refl
order_with-number Three = refl
order_with-number Four = refl
order_with-number Five = refl
order_with-number Seven = refl
order_with-number Eight = refl
order_with-number Nine = refl

-- the number of an order tells it from the others
pub order_number-injective : (o r : Order) → order_number o ≡ order_number r → o ≡ r
order_number-injective o r e = sym (order_with-number o) ∙ ap order_with e ∙ order_with-number r
