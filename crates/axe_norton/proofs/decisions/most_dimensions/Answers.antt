use Rattle.std.proofs.Common.{◌≤◌, ◌+◌, arith}
use Rattle.axe_field.proofs.Orders.{order_number-at_least}
use Rattle.axe_word.specs.PointsOfMatrix.{point_count, most_points}
use Rattle.axe_word.proofs.PointSums.{count_at_start}
use Rattle.axe_norton.proofs.FirstLaws.{dimensions_within, few_up_to}
use Rattle.axe_norton.proofs.SearchLaws.{not_both}
use Rattle.axe_norton.proofs.decisions.most_dimensions.Goals as goal

pub loop-most-init : goal.loop-most-init
loop-most-init c = omega (arith, count_at_start c.args.order)

pub overflow_add-most : goal.overflow_add-most
overflow_add-most c =
    let large : 2 ≤ c.args.order = omega (arith, order_number-at_least c.requires.order, c.requires.is) in
    omega (arith, c.loop-most.invariant, dimensions_within c.args.order large c.loop-most.most)

pub overflow_add-most-in-loop-most : goal.overflow_add-most-in-loop-most
overflow_add-most-in-loop-most c =
    let large : 2 ≤ c.args.order = omega (arith, order_number-at_least c.requires.order, c.requires.is) in
    omega (arith, c.loop-most.invariant, dimensions_within c.args.order large c.loop-most.most)

pub loop-most-preserved : goal.loop-most-preserved
loop-most-preserved c = c.few_points.ensures.0 c.loop-most-test.true

pub loop-most-smaller : goal.loop-most-smaller
loop-most-smaller c =
    let large : 2 ≤ c.args.order = omega (arith, order_number-at_least c.requires.order, c.requires.is) in
    let few : point_count c.args.order (c.loop-most.most + 1) ≤ most_points = c.few_points.ensures.0 c.loop-most-test.true in
    omega (arith, dimensions_within c.args.order large (c.loop-most.most + 1))

pub returns : goal.returns
returns c =
    let large : 2 ≤ c.args.order = omega (arith, order_number-at_least c.requires.order, c.requires.is) in
    few_up_to c.args.order large c.loop-most.most c.loop-most.invariant
    (λ few. not_both c.few_points.result (c.few_points.ensures.1 few) c.loop-most-test.false)
