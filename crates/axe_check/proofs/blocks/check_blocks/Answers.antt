use Rattle.std.proofs.Common.{◌+◌, ◌<◌, length, refl, sym, subst, ◌∙◌, arith}
use Rattle.axe_check.specs.Steps.{HasBlocksAt}
use Rattle.axe_check.proofs.BlockEntries.{not_both}
use Rattle.axe_check.proofs.PlaceLaws.{all_to, next_start, next_fits, more_to, wrong_here}
use Rattle.axe_check.proofs.blocks.check_blocks.Goals as goal

pub has_blocks_at-requires-clause-fits : goal.has_blocks_at-requires-clause-fits
has_blocks_at-requires-clause-fits c =
    let below : c.from.result < length c.args.factors.now = subst (λ n. n < length c.args.factors.now) (sym c.from.ensures) (c.requires.places c.loop-number.number-index 0 c.loop-number-test.true) in
    let fits = next_fits c.args.conjugates.now c.args.factors.now c.args.series.now c.loop-number.number-index c.from.result c.index-factors-from.result
    c.loop-number-test.true c.from.ensures below c.index-factors-from.is c.requires.sizes in
    omega (arith, c.loop-number.invariant.start, fits)

pub overflow_add-start : goal.overflow_add-start
overflow_add-start c =
    let below : c.from.result < length c.args.factors.now = subst (λ n. n < length c.args.factors.now) (sym c.from.ensures) (c.requires.places c.loop-number.number-index 0 c.loop-number-test.true) in
    let fits = next_fits c.args.conjugates.now c.args.factors.now c.args.series.now c.loop-number.number-index c.from.result c.index-factors-from.result
    c.loop-number-test.true c.from.ensures below c.index-factors-from.is c.requires.sizes in
    omega (arith, c.loop-number.invariant.start, fits, c.dim-in-loop-number.ensures.count, c.dim.ensures.well_formed.dim_fits)

pub returns-then-not-branch : goal.returns-then-not-branch
returns-then-not-branch c =
    let below : c.from.result < length c.args.factors.now = subst (λ n. n < length c.args.factors.now) (sym c.from.ensures) (c.requires.places c.loop-number.number-index 0 c.loop-number-test.true) in (
      refl,
      wrong_here c.args.conjugates.now c.args.factors.now c.args.series.now c.loop-number.number-index c.from.result c.index-factors-from.result
          c.loop-number-test.true c.from.ensures below c.index-factors-from.is
          (λ has. not_both c.in_ok-has_blocks_at.field-0 c.if-not-branch.true
          (c.in_ok-has_blocks_at.ensures.1
          (subst (λ start. HasBlocksAt c.args.conjugates.now start c.index-factors-from.result) (sym c.loop-number.invariant.start) has))),
    )

pub loop-number-preserved : goal.loop-number-preserved
loop-number-preserved c =
    let below : c.from.result < length c.args.factors.now = subst (λ n. n < length c.args.factors.now) (sym c.from.ensures) (c.requires.places c.loop-number.number-index 0 c.loop-number-test.true) in
    record {
      start =
          (λ i. c.loop-number.invariant.start i + c.dim-in-loop-number.ensures.count i)
          ∙ sym (next_start c.args.conjugates.now c.args.factors.now c.args.series.now c.loop-number.number-index c.from.result c.index-factors-from.result
          c.loop-number-test.true c.from.ensures below c.index-factors-from.is);
      has =
          more_to c.args.conjugates.now c.args.factors.now c.args.series.now c.loop-number.number-index c.from.result c.index-factors-from.result
          c.loop-number-test.true c.from.ensures below c.index-factors-from.is c.loop-number.invariant.has
          (subst (λ start. HasBlocksAt c.args.conjugates.now start c.index-factors-from.result) c.loop-number.invariant.start
          (c.in_ok-has_blocks_at.ensures.0 c.if-not-branch.false));
    }

pub returns : goal.returns
returns c = all_to c.args.conjugates.now c.args.factors.now c.args.series.now c.loop-number.number-index c.loop-number-test.false c.loop-number.invariant.has
