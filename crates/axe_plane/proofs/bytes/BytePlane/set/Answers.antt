use Rattle.std.proofs.Common.{◌<◌, rules, subst, sym}
use Rattle.axe_layer.proofs.DigitLaws.{AreDigits-set}
use Rattle.axe_plane.specs.Primes.{byte_prime, ByteDigits}
use Rattle.axe_plane.proofs.bytes.BytePlane.set.Goals as goal

pub invariant_of-self : goal.invariant_of-self
invariant_of-self c =
    let below : c.args.digit < byte_prime c.self.inside.prime =
    subst (λ (s : ByteDigits). c.args.digit < byte_prime s.prime) (sym c.self.view_is) c.requires in
    AreDigits-set _ c.self.inside.bytes.items c.args.index c.args.digit below c.self.invariant

pub returns-then-index-len : goal.returns-then-index-len
returns-then-index-len c = search rules
