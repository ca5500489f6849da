use Rattle.std.proofs.Common.{◌≡◌, ◌-◌, ◌%◌, List, ℕ, ap, subst, arith, rules, get_or, ◌<◌}
use Rattle.axe_lane.specs.Bytes.{AreDigits}
use Rattle.axe_layer.proofs.DigitLaws.{digits_with_multiple-none, digit-below}
use Rattle.axe_plane.specs.Primes.{byte_prime, ByteDigits}
use Rattle.axe_plane.proofs.PlaneLaws.{byte_prime-positive}
use Rattle.axe_plane.proofs.bytes.BytePlane.cancel.Goals as goal

pub returns-else-factor-ne0-clause-sum : goal.returns-else-factor-ne0-clause-sum
returns-else-factor-ne0-clause-sum c =
    let none : (c.number-prime.result - c.get.result) % c.number-prime.result ≡ 0 = omega (arith, c.if-factor-ne0.false) in
    let digits = subst (λ (s : ByteDigits). AreDigits (byte_prime s.prime) s.digits) c.self.view_is c.self.invariant in
    ap (λ (x : List ℕ). record { prime = c.args.self.now.prime; digits = x })
    (digits_with_multiple-none _ _ _ _ (byte_prime-positive c.args.self.now.prime) none digits)

pub returns-then-factor-ne0-clause-factor : goal.returns-then-factor-ne0-clause-factor
returns-then-factor-ne0-clause-factor c = search rules

pub returns-else-factor-ne0-clause-factor : goal.returns-else-factor-ne0-clause-factor
returns-else-factor-ne0-clause-factor c = search rules

pub overflow_sub-factor : goal.overflow_sub-factor
overflow_sub-factor c =
    let below : get_or c.self.inside.bytes.items c.args.index 0 < byte_prime c.self.inside.prime =
    digit-below _ _ c.args.index (byte_prime-positive c.self.inside.prime) c.self.invariant in
    omega (arith, below, c.get.ensures, c.number-prime.ensures, ap (λ (s : ByteDigits). get_or s.digits c.args.index 0) c.self.view_is)
