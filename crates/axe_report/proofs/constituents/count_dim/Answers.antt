use Rattle.std.proofs.Common.{ℕ, cond, eqb, ap, ◌∙◌, arith}
use Rattle.axe_report.proofs.Counts.{dim_more, dim_done, count_begun, byte_is, byte_small}
use Rattle.axe_report.proofs.constituents.count_dim.Goals as goal

pub loop-factor-init : goal.loop-factor-init
loop-factor-init c = (count_begun c.args.dim, omega arith)

pub loop-factor-preserved : goal.loop-factor-preserved
loop-factor-preserved c =
    let one = c.from-count.ensures ∙ byte_is _ ∙ ap (λ (k : ℕ). cond (eqb k c.args.dim) 1 0) c.dim.ensures in
    let small = byte_small (eqb c.dim.result c.args.dim) in (
      dim_more c.args.factors.now c.factor-item.result c.loop-factor.factor-index c.args.dim c.loop-factor.count c.from-count.result c.loop-factor-test.true c.factor-item.is c.loop-factor.invariant.0 one,
      omega (arith, c.loop-factor.invariant.1, small, c.from-count.ensures),
    )

pub overflow_add-count : goal.overflow_add-count
overflow_add-count c =
    let small = byte_small (eqb c.dim.result c.args.dim) in
    omega (arith, c.loop-factor.invariant.1, small, c.from-count.ensures)

pub returns : goal.returns
returns c = dim_done c.args.factors.now c.loop-factor.factor-index c.args.dim c.loop-factor.count (omega arith) c.loop-factor.invariant.0
