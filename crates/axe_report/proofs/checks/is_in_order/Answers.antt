use Rattle.std.proofs.Common.{ℕ, cond, eqb, ap, ◌∙◌, arith}
use Rattle.std.specs.List.{range_with_len}
use Rattle.std.proofs.lemmas.Bool.{eqb-true, eq-eqb}
use Rattle.axe_report.proofs.Counts.{byte_is, byte_small}
use Rattle.axe_report.proofs.Orders.{in_order_begun, in_order_more, out_of_order, in_order_done, other_count}
use Rattle.axe_report.proofs.checks.is_in_order.Goals as goal

pub loop-place-init : goal.loop-place-init
loop-place-init c = in_order_begun c.args.series.now

pub loop-place-preserved : goal.loop-place-preserved
loop-place-preserved c =
    let one = c.from-seen.ensures ∙ byte_is _ ∙ ap (λ (k : ℕ). cond (eqb k c.loop-place.seen) 1 0) c.from-in-loop-place.ensures in
    in_order_more c.args.series.now c.loop-place.place-index c.loop-place.seen c.from-seen.result c.loop-place-test.true (omega (arith, c.from.ensures)) one c.loop-place.invariant

pub overflow_add-seen : goal.overflow_add-seen
overflow_add-seen c =
    let small = byte_small (eqb c.from-in-loop-place.result c.loop-place.seen) in
    omega (arith, c.loop-place.invariant.few, small, c.from-seen.ensures)

pub returns-then-from-seen : goal.returns-then-from-seen
returns-then-from-seen c =
    (λ t. absurd (cc t), λ e. absurd (out_of_order c.args.series.now c.loop-place.place-index c.loop-place.seen c.args.count c.loop-place-test.true (omega (arith, c.from.ensures)) c.loop-place.invariant e))

pub returns : goal.returns
returns c =
    let done = in_order_done c.args.series.now c.loop-place.place-index c.loop-place.seen (omega arith) c.loop-place.invariant in
    (λ t. done ∙ ap (λ (k : ℕ). range_with_len 0 k) (eqb-true c.loop-place.seen c.args.count t), λ e. eq-eqb c.loop-place.seen c.args.count (other_count c.args.series.now c.loop-place.seen c.args.count done e))
