use Rattle.std.proofs.Common.{◌≡◌, length, sym, ap, ◌∙◌}
use Rattle.axe_plane.specs.Primes.{byte_prime, ByteDigits}
use Rattle.axe_plane.specs.Sums.{remainders}
use Rattle.axe_plane.proofs.FourMultiples.{bytes_of_multiples}
use Rattle.axe_plane.proofs.SumMultiples.{stand_alike, plane_of_remainders, four_multiples_stand}
use Rattle.axe_plane.proofs.bytes.sums.ByteSums.add_four_multiples.Goals as goal

pub returns : goal.returns
returns c =
    let p = byte_prime c.args.self.now.prime in
    let prime : byte_prime c.self.inside.prime ≡ p = ap (λ (s : ByteDigits). byte_prime s.prime) c.self.view_is in
    let number = c.number-prime.ensures ∙ prime in
    let digits = ap (λ q. remainders q c.self.inside.bytes.items) (sym prime) ∙ ap (λ (s : ByteDigits). s.digits) c.self.view_is in
    let room = stand_alike _ _ p c.self.inside.bytes.items _ _ c.self.inside.bytes.ok.0 c.deref_mut.ensures.value number c.make_room.ensures.kept in
    plane_of_remainders c.self.inside.prime p _ _ prime
    (bytes_of_multiples p c.args.factors c.args.self.now.digits _ _ _ _ _ _ _ _ _ c.bytes-a.ensures.value c.bytes-b.ensures.value
    c.bytes-c.ensures.value c.bytes-d.ensures.value
    (four_multiples_stand _ _ p c.args.factors _ c.args.self.now.digits _ _ _ _ _ _ room.long c.deref_mut-2.ensures.value number
    (room.stand ∙ digits) (ap length c.bytes-a.ensures.value ∙ c.requires.a.fits) (ap length c.bytes-b.ensures.value ∙ c.requires.b.fits)
    (ap length c.bytes-c.ensures.value ∙ c.requires.c.fits) (ap length c.bytes-d.ensures.value ∙ c.requires.d.fits)
    c.add4_multiples_to_sums.ensures.sum))
