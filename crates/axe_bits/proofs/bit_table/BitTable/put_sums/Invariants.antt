use Rattle.axe_bits.specs.Combinations.{HaveEntrySums}
use Rattle.axe_bits.proofs.bit_table.BitTable.put_sums.Given as goal

abbrev pub invariant-loop-index : goal.invariant-loop-index
invariant-loop-index l = HaveEntrySums 2 l.start l.index l.fn.self l.self
