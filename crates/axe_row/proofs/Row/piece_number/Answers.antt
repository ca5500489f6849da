use Rattle.std.proofs.Common.{rules, ◌≡◌, ◌+◌, ◌<◌, ◌≤◌, length, get_or, ap, ◌∙◌, arith}
use Rattle.std.proofs.lemmas.Nat.{mul-add-lt}
use Rattle.axe_layer.specs.Digits.{number_bound}
use Rattle.axe_field.specs.Order.{order_number}
use Rattle.axe_field.specs.Arithmetic.{field_mul}
use Rattle.axe_row.proofs.PieceNumbers.{IsNumberBelow-none, IsNumberBelow-more, IsNumberBelow-small}
use Rattle.axe_row.proofs.Row.piece_number.Goals as goal

pub loop-index-init : goal.loop-index-init
loop-index-init c = IsNumberBelow-none _ _ _

pub overflow_mul-number : goal.overflow_mul-number
overflow_mul-number c =
    let few : c.loop-index.index ≤ c.args.at + 8 = omega (arith, c.loop-index-test.true, c.min-index-end.ensures) in
    let small : c.loop-index.number < number_bound = IsNumberBelow-small _ _ _ _ _ c.loop-index.invariant few in
    let base : c.from-order.result ≤ 9 = omega (arith, c.from-order.ensures, c.order.ensures.at_most_nine) in
    let some : 0 < c.from-order.result = omega (arith, c.from-order.ensures, c.order.ensures.at_least_two) in
    omega (arith, mul-add-lt c.loop-index.number c.from-order.result 0 number_bound small some)

pub overflow_add-number : goal.overflow_add-number
overflow_add-number c =
    let few : c.loop-index.index ≤ c.args.at + 8 = omega (arith, c.loop-index-test.true, c.min-index-end.ensures) in
    let small : c.loop-index.number < number_bound = IsNumberBelow-small _ _ _ _ _ c.loop-index.invariant few in
    let base : c.from-order.result ≤ 9 = omega (arith, c.from-order.ensures, c.order.ensures.at_most_nine) in
    let digit : c.from.result < c.from-order.result =
    omega (arith, c.from.ensures, c.mul.ensures.element, c.from-order.ensures, c.order.ensures.value) in
    omega (arith, mul-add-lt c.loop-index.number c.from-order.result c.from.result number_bound small digit)

pub loop-index-preserved : goal.loop-index-preserved
loop-index-preserved c =
    let base : c.from-order.result ≡ order_number c.args.self.now.order =
    c.from-order.ensures ∙ c.order.ensures.value ∙ ap order_number c.field-field.ensures.order in
    let inside : c.loop-index.index < length c.args.self.now.entries =
    omega (arith, c.loop-index-test.true, c.min-index-end.ensures, c.len.ensures.count) in
    let digit : c.from.result ≡ field_mul c.args.self.now.order c.args.scalar (get_or c.args.self.now.entries c.loop-index.index 0) =
    cc in
    let small : c.from.result < order_number c.args.self.now.order =
    omega (arith, c.from.ensures, c.mul.ensures.element, ap order_number c.field-field.ensures.order) in
    IsNumberBelow-more _ _ _ _ _ _ _ c.loop-index.invariant c.loop-index.auto.index inside base digit small

pub overflow_add-at : goal.overflow_add-at
overflow_add-at c = search rules

pub get-requires : goal.get-requires
get-requires c = search rules

pub mul-requires-clause-left : goal.mul-requires-clause-left
mul-requires-clause-left c = search rules

pub mul-requires-clause-right : goal.mul-requires-clause-right
mul-requires-clause-right c = search rules
