use Rattle.std.proofs.Common.{refl, ap, rules}
use Rattle.axe_plane.specs.Primes.{byte_prime, ByteEntries}
use Rattle.axe_plane.proofs.tables.PlaneTable.zero.Goals.{in-2+in_ok-zero-in-2, in-3+in_ok-zero-in-3, in-5+in_ok-zero-in-5, in_default+in_ok-zero-in_default}
use Rattle.axe_plane.proofs.tables.PlaneTable.zero.Goals as goal

pub returns : goal.returns
returns c = elim c.match-prime.branch [
  | in-2+in_ok-zero-in-2 w ↦
      rw (w.result-is, w.in-2.is) (record { prime = refl; entries_are = w.in_ok-zero-in-2.ensures })
  | in-3+in_ok-zero-in-3 w ↦
      rw (w.result-is, w.in-3.is) (record { prime = refl; entries_are = w.in_ok-zero-in-3.ensures })
  | in-5+in_ok-zero-in-5 w ↦
      rw (w.result-is, w.in-5.is) (record {
        prime = ap (λ (table : ByteEntries). byte_prime table.prime) w.in_ok-zero-in-5.ensures;
        entries_are = ap (λ (table : ByteEntries). table.entries) w.in_ok-zero-in-5.ensures;
      })
  | in_default+in_ok-zero-in_default w ↦ search rules
]
