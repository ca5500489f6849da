use Rattle.std.proofs.Common.{arith}
use Rattle.axe_bits.proofs.EntrySums.{HaveEntrySums-none, HaveEntrySums-more}
use Rattle.axe_bits.proofs.bit_table.BitTable.put_sums.Goals as goal

pub put_entry_sum-requires-clause-within : goal.put_entry_sum-requires-clause-within
put_entry_sum-requires-clause-within c = omega (arith, c.requires.within, c.loop-index-test.true, c.loop-index.invariant.as_many)

pub loop-index-init : goal.loop-index-init
loop-index-init c = HaveEntrySums-none _ _ _

pub loop-index-preserved : goal.loop-index-preserved
loop-index-preserved c =
    HaveEntrySums-more _ _ _ _ _ _ c.loop-index.invariant c.loop-index.auto.index (omega (arith, c.requires.earlier, c.loop-index-test.true))
    (omega (arith, c.requires.within, c.loop-index-test.true, c.loop-index.invariant.as_many)) c.put_entry_sum.ensures
