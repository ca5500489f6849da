use Rattle.std.proofs.Common.{◌≡◌}
use Rattle.axe_bits.proofs.EntrySums.{AreSumsOfCopies}
use Rattle.axe_plane.specs.Primes.{byte_prime}
use Rattle.axe_plane.proofs.byte_table.ByteTable.put_sums.Given as goal

abbrev pub invariant-loop-index : goal.invariant-loop-index
invariant-loop-index l = record {
  prime : l.self.prime ≡ l.fn.self.prime;
  sums : AreSumsOfCopies (byte_prime l.fn.self.prime) l.start l.count l.index l.fn.self.entries l.self.entries;
}
