use Rattle.std.proofs.Common.{sym, ◌∙◌, refl, arith}
use Rattle.axe_report.proofs.Counts.{counted_more, counted_wrong, counted_done}
use Rattle.axe_report.proofs.checks.is_counted.Goals as goal

pub loop-place-preserved : goal.loop-place-preserved
loop-place-preserved c =
    counted_more c.args.factors.now c.args.series.now c.loop-place.place c.count_place.result c.index-factors-place.result c.loop-place-test.true c.index-factors-place.is c.count_place.ensures
    (c.if-count_place-multiplicity.false ∙ c.multiplicity.ensures) c.loop-place.invariant

pub returns-then-count_place-multiplicity : goal.returns-then-count_place-multiplicity
returns-then-count_place-multiplicity c = (
  λ t. absurd (cc t),
  λ e. absurd (counted_wrong c.args.factors.now c.args.series.now c.loop-place.place c.count_place.result c.index-factors-place.result c.loop-place-test.true c.index-factors-place.is c.count_place.ensures
      (λ same. c.if-count_place-multiplicity.true (same ∙ sym c.multiplicity.ensures)) e),
)

pub returns : goal.returns
returns c = (λ t. counted_done c.args.factors.now c.args.series.now c.loop-place.place (omega arith) c.loop-place.invariant, λ e. refl)
