use Rattle.std.proofs.Common.{◌≡◌, length}
use Rattle.axe_bits.specs.Trits.{trit_entries, HoldTritEntries}
use Rattle.axe_bits.proofs.EntrySums.{AreSumsOfCopies}
use Rattle.axe_bits.proofs.bit_table.put_layer_sums.Given as goal

abbrev pub invariant-loop-index : goal.invariant-loop-index
invariant-loop-index l = record {
  as_many : length l.ones ≡ length l.fn.ones;
  holds : HoldTritEntries l.ones l.twos;
  sums : AreSumsOfCopies 3 l.start l.count l.index (trit_entries l.fn.ones l.fn.twos) (trit_entries l.ones l.twos);
}
