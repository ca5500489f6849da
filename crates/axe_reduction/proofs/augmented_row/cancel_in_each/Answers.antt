use Rattle.std.proofs.lemmas.Grind.{common_steps}
use Rattle.std.proofs.Common.{rules, arith}
use Rattle.axe_reduction.proofs.AugmentedRowLaws.{mapped_all}
use Rattle.axe_reduction.proofs.augmented_row.cancel_in_each.Goals as goal

pub returns-clause-cancelled : goal.returns-clause-cancelled
returns-clause-cancelled c =
    mapped_all c.loop-other.other-index _ c.args.rows.now c.loop-other.rows c.loop-other.invariant.mapped
    (omega (arith, c.loop-other-test.false, c.loop-other.invariant.mapped.count))

pub loop-other-preserved : goal.loop-other-preserved
loop-other-preserved c = grind (arith, common_steps)

pub cancel-requires-clause-column : goal.cancel-requires-clause-column
cancel-requires-clause-column c = search rules
