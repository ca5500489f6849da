use Rattle.std.proofs.Common.{◌≡◌, rules}
use Rattle.axe_layer.specs.Digits.{digits_at}
use Rattle.axe_plane.specs.Primes.{byte_prime}
use Rattle.axe_layer.proofs.NumberDigits.{AreDigits-numbers}
use Rattle.axe_plane.proofs.PlaneLaws.{byte_prime-positive}
use Rattle.axe_plane.proofs.bytes.BytePlane.of_numbers.Goals as goal

pub invariant_of-result : goal.invariant_of-result
invariant_of-result c =
    let digits : c.match-prime.bytes.items ≡ digits_at (byte_prime c.args.prime) c.args.place c.args.numbers.now = search rules in
    AreDigits-numbers (byte_prime c.args.prime) c.args.place c.args.numbers.now c.match-prime.bytes.items (byte_prime-positive c.args.prime) digits

pub returns : goal.returns
returns c = search rules
