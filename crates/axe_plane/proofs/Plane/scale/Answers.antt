use Rattle.std.proofs.Common.{ap, refl}
use Rattle.axe_plane.specs.Primes.{byte_prime, ByteDigits}
use Rattle.axe_plane.proofs.Plane.scale.Goals as goal

pub returns-in-Bits : goal.returns-in-Bits
returns-in-Bits c = rw c.in-Bits.is (record { prime = refl; digits_are = c.scale.ensures })

pub returns-in-Trits : goal.returns-in-Trits
returns-in-Trits c = rw c.in-Trits.is (record { prime = refl; digits_are = c.scale-in-Trits.ensures })

pub returns-in-Bytes : goal.returns-in-Bytes
returns-in-Bytes c =
    rw c.in-Bytes.is (record {
      prime = ap (λ (plane : ByteDigits). byte_prime plane.prime) c.scale-in-Bytes.ensures;
      digits_are = ap (λ (plane : ByteDigits). plane.digits) c.scale-in-Bytes.ensures;
    })
