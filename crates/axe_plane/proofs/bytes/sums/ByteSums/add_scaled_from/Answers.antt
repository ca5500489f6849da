use Rattle.std.proofs.Common.{◌≡◌, sym, ap, ◌∙◌, arith}
use Rattle.axe_plane.specs.Planes.{digits_of}
use Rattle.axe_plane.specs.Primes.{byte_prime, ByteDigits}
use Rattle.axe_plane.specs.Sums.{remainders}
use Rattle.axe_plane.proofs.PlaneLaws.{byte_prime-positive}
use Rattle.axe_plane.proofs.SumMultiples.{stand_alike, plane_of_remainders, multiple_stands}
use Rattle.axe_plane.proofs.bytes.sums.ByteSums.add_scaled_from.Goals as goal

pub returns : goal.returns
returns c =
    let p = byte_prime c.args.self.now.prime in
    let prime : byte_prime c.self.inside.prime ≡ p = ap (λ (s : ByteDigits). byte_prime s.prime) c.self.view_is in
    let number = c.number-prime.ensures ∙ prime in
    let digits = ap (λ q. remainders q c.self.inside.bytes.items) (sym prime) ∙ ap (λ (s : ByteDigits). s.digits) c.self.view_is in
    let room = stand_alike _ _ p c.self.inside.bytes.items _ _ c.self.inside.bytes.ok.0 c.deref_mut.ensures.value number c.make_room.ensures.kept in
    let earlier = c.start_of_blocks-from.ensures in
    plane_of_remainders c.self.inside.prime p _ _ prime
    (multiple_stands p c.start_of_blocks-from.result _ _ c.args.factor _ c.args.self.now.digits (digits_of c.args.other.now) _ _ _
    room.long c.deref_mut-2.ensures.value c.bytes.ensures.value number (room.stand ∙ digits) c.requires.fits
    (omega (arith, earlier, c.requires.within)) (λ j before. c.requires.zeros j (omega (arith, before, earlier)))
    (byte_prime-positive c.args.self.now.prime) c.add_multiple_to_sums.ensures.sum)
