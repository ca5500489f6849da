use Rattle.std.proofs.Common.{◌≡◌, ◌≤◌, ◌*◌, ap, ◌∙◌, arith}
use Rattle.std.proofs.lemmas.Bool.{false≢true}
use Rattle.axe_field.proofs.Orders.{order_number-at_least}
use Rattle.axe_word.specs.PointsOfMatrix.{point_count}
use Rattle.axe_word.proofs.PointSums.{count_at_start, count_after, count_passed}
use Rattle.axe_word.proofs.points.few_points.Goals as goal

pub loop-init : goal.loop-init
loop-init c = record { counted = count_at_start c.args.order; few = omega arith }

pub loop-preserved : goal.loop-preserved
loop-preserved c =
    let large : 2 ≤ c.args.order = omega (arith, order_number-at_least c.requires.order.order, c.requires.order.is) in
    let product : c.loop.count * c.from.result ≡ point_count c.args.order c.loop.counter * c.args.order =
    ap (λ k. k * c.from.result) c.loop.invariant.counted ∙ ap (λ k. point_count c.args.order c.loop.counter * k) c.from.ensures in
    record { counted = omega (arith, product, c.in-Some.ensures, count_after c.args.order c.loop.counter large); few = omega arith }

pub returns-in_default : goal.returns-in_default
returns-in_default c =
    let large : 2 ≤ c.args.order = omega (arith, order_number-at_least c.requires.order.order, c.requires.order.is) in
    let product : c.loop.count * c.from.result ≡ point_count c.args.order c.loop.counter * c.args.order =
    ap (λ k. k * c.from.result) c.loop.invariant.counted ∙ ap (λ k. point_count c.args.order c.loop.counter * k) c.from.ensures in (
      λ none. absurd (false≢true none),
      λ few. absurd (count_passed c.args.order c.loop.counter c.args.dimension c.args.bound large (omega arith)
          (omega (arith, product, c.in-Some.ensures)) few),
    )

pub returns-in_default-2 : goal.returns-in_default-2
returns-in_default-2 c =
    let large : 2 ≤ c.args.order = omega (arith, order_number-at_least c.requires.order.order, c.requires.order.is) in
    let product : c.loop.count * c.from.result ≡ point_count c.args.order c.loop.counter * c.args.order =
    ap (λ k. k * c.from.result) c.loop.invariant.counted ∙ ap (λ k. point_count c.args.order c.loop.counter * k) c.from.ensures in (
      λ none. absurd (false≢true none),
      λ few. absurd (count_passed c.args.order c.loop.counter c.args.dimension c.args.bound large (omega arith)
          (omega (arith, product, c.in_default.ensures, c.ranges.bound.fits)) few),
    )
