use Rattle.std.proofs.Common.{sym, subst}
use Rattle.axe_lane.specs.Bytes.{AreDigits}
use Rattle.axe_plane.specs.Primes.{byte_prime}
use Rattle.axe_plane.proofs.PlaneLaws.{byte_prime-positive}
use Rattle.axe_plane.proofs.SumLaws.{remainders_written, remainders-digits}
use Rattle.axe_plane.proofs.bytes.sums.ByteSums.into_plane.Goals as goal

pub invariant_of-result : goal.invariant_of-result
invariant_of-result c =
    let p = byte_prime c.self.inside.prime in
    let after = remainders_written _ _ p c.self.inside.bytes.items _ _ c.self.inside.bytes.ok.0 c.deref_mut.ensures.value c.number.ensures c.reduce_bytes.ensures in
    subst (AreDigits p) (sym after) (remainders-digits p c.self.inside.bytes.items (byte_prime-positive c.self.inside.prime))
