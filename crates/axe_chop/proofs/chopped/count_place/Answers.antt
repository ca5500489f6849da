use Rattle.std.proofs.Common.{ℕ, cond, eqb, ap, ◌∙◌, arith}
use Rattle.axe_report.proofs.Counts.{count_more, count_done, count_begun, byte_is, byte_fits}
use Rattle.axe_chop.proofs.chopped.count_place.Goals as goal

pub loop-place-init : goal.loop-place-init
loop-place-init c = (count_begun c.args.number, omega arith)

pub loop-place-preserved : goal.loop-place-preserved
loop-place-preserved c =
    let one = c.from-count.ensures ∙ byte_is _ ∙ ap (λ (k : ℕ). cond (eqb k c.args.number) 1 0) c.from.ensures in
    let small = byte_fits _ _ c.from-count.ensures in (
      count_more c.args.places.now c.loop-place.place-index c.args.number c.loop-place.count c.from-count.result
          c.loop-place-test.true c.loop-place.invariant.0 one,
      omega (arith, c.loop-place.invariant.1, small),
    )

pub overflow_add-count : goal.overflow_add-count
overflow_add-count c =
    let small = byte_fits _ _ c.from-count.ensures in
    omega (arith, c.loop-place.invariant.1, small)

pub returns : goal.returns
returns c = count_done c.args.places.now c.loop-place.place-index c.args.number c.loop-place.count
    (omega arith) c.loop-place.invariant.0
