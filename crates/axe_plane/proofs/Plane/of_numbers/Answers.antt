use Rattle.std.proofs.Common.{refl, ap, rules}
use Rattle.axe_plane.specs.Primes.{byte_prime, ByteDigits}
use Rattle.axe_plane.proofs.Plane.of_numbers.Goals.{in-2+in_ok-of_numbers-in-2, in-3+in_ok-trits_of_numbers-in-3, in-5+in_ok-of_numbers-in-5, in_default+in_ok-of_numbers-in_default}
use Rattle.axe_plane.proofs.Plane.of_numbers.Goals as goal

pub returns : goal.returns
returns c = elim c.match-prime.branch [
  | in-2+in_ok-of_numbers-in-2 w ↦
      rw (w.result-is, w.in-2.is) (record { prime = refl; digits_are = w.in_ok-of_numbers-in-2.ensures })
  | in-3+in_ok-trits_of_numbers-in-3 w ↦
      rw (w.result-is, w.in-3.is) (record { prime = refl; digits_are = w.in_ok-trits_of_numbers-in-3.ensures })
  | in-5+in_ok-of_numbers-in-5 w ↦
      rw (w.result-is, w.in-5.is) (record {
        prime = ap (λ (plane : ByteDigits). byte_prime plane.prime) w.in_ok-of_numbers-in-5.ensures;
        digits_are = ap (λ (plane : ByteDigits). plane.digits) w.in_ok-of_numbers-in-5.ensures;
      })
  | in_default+in_ok-of_numbers-in_default w ↦ search rules
]
