use Rattle.std.proofs.Common.{arith}
use Rattle.axe_layer.proofs.RunLaws.{ones_from, zero_after_ones}
use Rattle.axe_layer.proofs.runs.run_length.Goals as goal

pub returns-clause-run : goal.returns-clause-run
returns-clause-run c = λ i inside low.
    ones_from c.args.followed c.args.place i c.ranges.followed.fits low (omega (arith, inside, c.trailing_ones.ensures))

pub returns-clause-whole : goal.returns-clause-whole
returns-clause-whole c = λ low.
    zero_after_ones c.args.followed c.args.place c.trailing_ones.result c.ranges.followed.fits c.trailing_ones.ensures low
