use Rattle.std.proofs.Common.{refl, ap}
use Rattle.axe_plane.specs.Primes.{byte_prime, ByteDigits}
use Rattle.axe_plane.proofs.Plane.part.Goals.{in-Bits+in_ok-part-in-Bits, in-Trits+in_ok-part-in-Trits, in-Bytes+in_ok-part-in-Bytes}
use Rattle.axe_plane.proofs.Plane.part.Goals as goal

pub returns : goal.returns
returns c = elim c.match-self.branch [
  | in-Bits+in_ok-part-in-Bits w ↦
      rw (w.result-is, w.in-Bits.is) (record { prime = refl; digits_are = w.in_ok-part-in-Bits.ensures })
  | in-Trits+in_ok-part-in-Trits w ↦
      rw (w.result-is, w.in-Trits.is) (record { prime = refl; digits_are = w.in_ok-part-in-Trits.ensures })
  | in-Bytes+in_ok-part-in-Bytes w ↦
      rw (w.result-is, w.in-Bytes.is) (record {
        prime = ap (λ (plane : ByteDigits). byte_prime plane.prime) w.in_ok-part-in-Bytes.ensures;
        digits_are = ap (λ (plane : ByteDigits). plane.digits) w.in_ok-part-in-Bytes.ensures;
      })
]
