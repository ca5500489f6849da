use Rattle.std.proofs.Common.{◌≡◌, ◌<◌, ℕ, length, slice_index, refl, ap, ◌∙◌, arith}
use Rattle.axe_plane.proofs.FourMultiples.{bytes_of_multiples, held_multiples, multiples_by_one}
use Rattle.axe_plane.proofs.PlaneLaws.{layers_fit, four_words}
use Rattle.axe_plane.specs.Primes.{byte_prime, ByteDigits}
use Rattle.axe_plane.specs.Planes.{digits_of, prime_of_plane}
use Rattle.axe_plane.specs.declared.Plane.{Plane}
use Rattle.axe_plane.proofs.Plane.add_four_multiples.Goals as goal

pub add_four-requires-in-Trits-clause-a : goal.add_four-requires-in-Trits-clause-a
add_four-requires-in-Trits-clause-a c = layers_fit _ _ _ _ _ c.in-Trits.is c.requires.a.fits c.multiple_layers-a.ensures.holds

pub add_four-requires-in-Trits-clause-b : goal.add_four-requires-in-Trits-clause-b
add_four-requires-in-Trits-clause-b c = layers_fit _ _ _ _ _ c.in-Trits.is c.requires.b.fits c.multiple_layers-b.ensures.holds

pub add_four-requires-in-Trits-clause-c : goal.add_four-requires-in-Trits-clause-c
add_four-requires-in-Trits-clause-c c = layers_fit _ _ _ _ _ c.in-Trits.is c.requires.c.fits c.multiple_layers-c.ensures.holds

pub add_four-requires-in-Trits-clause-d : goal.add_four-requires-in-Trits-clause-d
add_four-requires-in-Trits-clause-d c = layers_fit _ _ _ _ _ c.in-Trits.is c.requires.d.fits c.multiple_layers-d.ensures.holds

pub returns-in-Bits : goal.returns-in-Bits
returns-in-Bits c =
    let own = ap (λ (plane : Plane). length (digits_of plane)) c.in-Bits.is in
    let even = ap prime_of_plane c.in-Bits.is in
    let ones : (i : ℕ) → i < 4 → slice_index c.args.factors i ≡ 1 = λ i h. omega (arith, even, (c.requires.factors i h).0, (c.requires.factors i h).1) in
    rw c.in-Bits.is (record {
      prime = refl;
      digits_are =
          four_words _ _ _ _ _ _ _ _ _ _ (c.requires.a.fits ∙ own) (c.requires.b.fits ∙ own) (c.requires.c.fits ∙ own) (c.requires.d.fits ∙ own)
          c.words-a.ensures.digits c.words-b.ensures.digits c.words-c.ensures.digits c.words-d.ensures.digits c.add_four.ensures
          ∙ multiples_by_one 2 c.args.factors _ _ _ _ _ ones;
    })

pub returns-in-Trits : goal.returns-in-Trits
returns-in-Trits c =
    let own = ap (λ (plane : Plane). length (digits_of plane)) c.in-Trits.is in
    rw c.in-Trits.is (record {
      prime = refl;
      digits_are =
          held_multiples c.args.factors _ _ _ _ _ (c.requires.a.fits ∙ own) (c.requires.b.fits ∙ own) (c.requires.c.fits ∙ own) (c.requires.d.fits ∙ own)
          _ _ _ _ _ _ _ _ _ c.multiple_layers-a.ensures.digits c.multiple_layers-b.ensures.digits c.multiple_layers-c.ensures.digits
          c.multiple_layers-d.ensures.digits c.add_four-in-Trits.ensures;
    })

pub returns-in-Bytes : goal.returns-in-Bytes
returns-in-Bytes c =
    rw c.in-Bytes.is (record {
      prime = ap (λ (plane : ByteDigits). byte_prime plane.prime) c.add_four_multiples.ensures;
      digits_are =
          bytes_of_multiples _ c.args.factors _ _ _ _ _ _ _ _ _ _ c.bytes.ensures.value c.bytes-in-Bytes.ensures.value c.bytes-in-Bytes-2.ensures.value
          c.bytes-in-Bytes-3.ensures.value (ap (λ (plane : ByteDigits). plane.digits) c.add_four_multiples.ensures);
    })
