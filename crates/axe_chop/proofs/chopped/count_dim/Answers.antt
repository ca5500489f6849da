use Rattle.std.proofs.Common.{◌∙◌, arith}
use Rattle.axe_report.proofs.Counts.{count_more, count_done, count_begun, byte_is, byte_fits}
use Rattle.axe_chop.proofs.chopped.count_dim.Goals as goal

pub loop-other-init : goal.loop-other-init
loop-other-init c = (count_begun c.args.dim, omega arith)

pub loop-other-preserved : goal.loop-other-preserved
loop-other-preserved c =
    let one = c.from-count.ensures ∙ byte_is _ in
    let small = byte_fits _ _ c.from-count.ensures in (
      count_more c.args.dims.now c.loop-other.other-index c.args.dim c.loop-other.count c.from-count.result
          c.loop-other-test.true c.loop-other.invariant.0 one,
      omega (arith, c.loop-other.invariant.1, small),
    )

pub overflow_add-count : goal.overflow_add-count
overflow_add-count c =
    let small = byte_fits _ _ c.from-count.ensures in
    omega (arith, c.loop-other.invariant.1, small)

pub returns : goal.returns
returns c = count_done c.args.dims.now c.loop-other.other-index c.args.dim c.loop-other.count
    (omega arith) c.loop-other.invariant.0
