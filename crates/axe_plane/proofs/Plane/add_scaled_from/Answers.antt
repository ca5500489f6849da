use Rattle.std.proofs.Common.{◌≡◌, refl, arith, ap}
use Rattle.axe_layer.proofs.DigitLaws.{digits_with_multiple-none}
use Rattle.axe_plane.proofs.PlaneLaws.{prime_of_plane-positive}
use Rattle.axe_plane.specs.Primes.{byte_prime, ByteDigits}
use Rattle.axe_plane.proofs.Plane.add_scaled_from.Goals as goal

pub returns-else-factor-ne0 : goal.returns-else-factor-ne0
returns-else-factor-ne0 c = record {
  prime = refl;
  digits_are =
      let none : c.args.factor ≡ 0 = omega arith in
      digits_with_multiple-none _ _ _ _ (prime_of_plane-positive c.args.self.now) none c.requires.digits;
}

pub add_from-requires-clause-zeros : goal.add_from-requires-clause-zeros
add_from-requires-clause-zeros c = rw c.in-Bits-Bits.is-1 at c.requires.zeros

pub returns-in-Trits-Trits : goal.returns-in-Trits-Trits
returns-in-Trits-Trits c =
    rw (c.in-Trits-Trits.is-0, c.in-Trits-Trits.is-1) (record { prime = refl; digits_are = c.add_scaled_from.ensures })

pub returns-in-Bytes-Bytes : goal.returns-in-Bytes-Bytes
returns-in-Bytes-Bytes c =
    rw (c.in-Bytes-Bytes.is-0, c.in-Bytes-Bytes.is-1) (record {
      prime = ap (λ (plane : ByteDigits). byte_prime plane.prime) c.add_scaled_from-in-Bytes-Bytes.ensures;
      digits_are = ap (λ (plane : ByteDigits). plane.digits) c.add_scaled_from-in-Bytes-Bytes.ensures;
    })
