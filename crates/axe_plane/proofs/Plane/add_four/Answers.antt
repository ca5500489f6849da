use Rattle.std.proofs.Common.{length, refl, ap, ◌∙◌}
use Rattle.axe_plane.proofs.PlaneLaws.{layers_fit, four_layers, four_words, four_bytes}
use Rattle.axe_plane.specs.Planes.{digits_of}
use Rattle.axe_plane.specs.Primes.{byte_prime, ByteDigits}
use Rattle.axe_plane.specs.declared.Plane.{Plane}
use Rattle.axe_plane.proofs.Plane.add_four.Goals as goal

pub add_four-requires-in-Trits-clause-a : goal.add_four-requires-in-Trits-clause-a
add_four-requires-in-Trits-clause-a c = layers_fit _ _ _ _ _ c.in-Trits.is c.requires.a.fits c.layers.ensures.holds

pub add_four-requires-in-Trits-clause-b : goal.add_four-requires-in-Trits-clause-b
add_four-requires-in-Trits-clause-b c = layers_fit _ _ _ _ _ c.in-Trits.is c.requires.b.fits c.layers-in-Trits.ensures.holds

pub add_four-requires-in-Trits-clause-c : goal.add_four-requires-in-Trits-clause-c
add_four-requires-in-Trits-clause-c c = layers_fit _ _ _ _ _ c.in-Trits.is c.requires.c.fits c.layers-in-Trits-2.ensures.holds

pub add_four-requires-in-Trits-clause-d : goal.add_four-requires-in-Trits-clause-d
add_four-requires-in-Trits-clause-d c = layers_fit _ _ _ _ _ c.in-Trits.is c.requires.d.fits c.layers-in-Trits-3.ensures.holds

pub returns-in-Bits : goal.returns-in-Bits
returns-in-Bits c =
    let own = ap (λ (plane : Plane). length (digits_of plane)) c.in-Bits.is in
    rw c.in-Bits.is (record {
      prime = refl;
      digits_are =
          four_words _ _ _ _ _ _ _ _ _ _ (c.requires.a.fits ∙ own) (c.requires.b.fits ∙ own) (c.requires.c.fits ∙ own) (c.requires.d.fits ∙ own)
          c.words.ensures.digits c.words-in-Bits.ensures.digits c.words-in-Bits-2.ensures.digits c.words-in-Bits-3.ensures.digits c.add_four.ensures;
    })

pub returns-in-Trits : goal.returns-in-Trits
returns-in-Trits c =
    let own = ap (λ (plane : Plane). length (digits_of plane)) c.in-Trits.is in
    rw c.in-Trits.is (record {
      prime = refl;
      digits_are =
          four_layers _ _ _ _ _ _ _ _ _ _ _ _ _ _ (c.requires.a.fits ∙ own) (c.requires.b.fits ∙ own) (c.requires.c.fits ∙ own) (c.requires.d.fits ∙ own)
          c.layers.ensures.digits c.layers-in-Trits.ensures.digits c.layers-in-Trits-2.ensures.digits c.layers-in-Trits-3.ensures.digits c.add_four-in-Trits.ensures;
    })

pub returns-in-Bytes : goal.returns-in-Bytes
returns-in-Bytes c =
    rw c.in-Bytes.is (record {
      prime = ap (λ (plane : ByteDigits). byte_prime plane.prime) c.add_four-in-Bytes.ensures;
      digits_are =
          four_bytes _ _ _ _ _ _ _ _ _ _ _ c.bytes.ensures.value c.bytes-in-Bytes.ensures.value c.bytes-in-Bytes-2.ensures.value c.bytes-in-Bytes-3.ensures.value
          (ap (λ (plane : ByteDigits). plane.digits) c.add_four-in-Bytes.ensures);
    })
