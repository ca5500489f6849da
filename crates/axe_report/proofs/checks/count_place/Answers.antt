use Rattle.std.proofs.Common.{ℕ, cond, eqb, ap, ◌∙◌, arith}
use Rattle.axe_report.proofs.Counts.{count_more, count_done, count_begun, byte_is, byte_small}
use Rattle.axe_report.proofs.checks.count_place.Goals as goal

pub loop-other-init : goal.loop-other-init
loop-other-init c = (count_begun c.args.place, omega arith)

pub loop-other-preserved : goal.loop-other-preserved
loop-other-preserved c =
    let one = c.from-count.ensures ∙ byte_is _ ∙ ap (λ (k : ℕ). cond (eqb k c.args.place) 1 0) c.from.ensures in
    let small = byte_small (eqb c.from.result c.args.place) in
    (count_more c.args.series.now c.loop-other.other-index c.args.place c.loop-other.count c.from-count.result c.loop-other-test.true c.loop-other.invariant.0 one, omega (arith, c.loop-other.invariant.1, small, c.from-count.ensures))

pub overflow_add-count : goal.overflow_add-count
overflow_add-count c =
    let small = byte_small (eqb c.from.result c.args.place) in
    omega (arith, c.loop-other.invariant.1, small, c.from-count.ensures)

pub returns : goal.returns
returns c = count_done c.args.series.now c.loop-other.other-index c.args.place c.loop-other.count (omega arith) c.loop-other.invariant.0
