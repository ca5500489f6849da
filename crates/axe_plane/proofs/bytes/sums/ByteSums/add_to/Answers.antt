use Rattle.std.proofs.Common.{◌≡◌, ℕ, List, refl, sym, ap, subst, ◌∙◌}
use Rattle.axe_lane.specs.Bytes.{AreDigits}
use Rattle.axe_plane.specs.Planes.{prime_of_plane}
use Rattle.axe_plane.specs.Primes.{byte_prime, ByteDigits}
use Rattle.axe_plane.specs.Sums.{remainders}
use Rattle.axe_plane.proofs.PlaneLaws.{byte_prime-positive}
use Rattle.axe_plane.proofs.SumLaws.{reduced, remainders_written, remainders-digits, byte_prime-at_least, byte_prime-at_most}
use Rattle.axe_plane.proofs.bytes.sums.ByteSums.add_to.Goals as goal

pub add_bytes_at-requires-clause-digits : goal.add_bytes_at-requires-clause-digits
add_bytes_at-requires-clause-digits c =
    let p = byte_prime c.self.inside.prime in
    let same : p ≡ byte_prime c.in-Bytes.plane.prime =
    ap (λ (s : ByteDigits). byte_prime s.prime) c.self.view_is ∙ c.requires.prime ∙ ap prime_of_plane c.in-Bytes.is in
    subst (λ q. AreDigits q c.deref.result.now) same
    (subst (AreDigits p)
    (sym (c.deref.ensures.value ∙ remainders_written _ _ p c.self.inside.bytes.items _ _ c.self.inside.bytes.ok.0 c.deref_mut.ensures.value c.number-prime.ensures c.reduce_bytes.ensures))
    (remainders-digits p c.self.inside.bytes.items (byte_prime-positive c.self.inside.prime)))

pub invariant_of-self : goal.invariant_of-self
invariant_of-self c =
    let p = byte_prime c.self.inside.prime in
    (reduced _ _ p (remainders p c.self.inside.bytes.items) c.self.inside.bytes.items _ _ c.self.inside.bytes.ok.0 c.deref_mut.ensures.value c.number-prime.ensures
    (byte_prime-at_least c.self.inside.prime) (byte_prime-at_most c.self.inside.prime) refl c.reduce_bytes.ensures).small

pub returns-clause-kept : goal.returns-clause-kept
returns-clause-kept c =
    let p = byte_prime c.self.inside.prime in
    let ready = reduced _ _ p (remainders p c.self.inside.bytes.items) c.self.inside.bytes.items _ _ c.self.inside.bytes.ok.0 c.deref_mut.ensures.value c.number-prime.ensures
    (byte_prime-at_least c.self.inside.prime) (byte_prime-at_most c.self.inside.prime) refl c.reduce_bytes.ensures in
    ap (λ (x : List ℕ). record { prime = c.self.inside.prime; digits = x }) ready.stand ∙ c.self.view_is
