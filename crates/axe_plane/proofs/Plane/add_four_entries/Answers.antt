use Rattle.std.proofs.Common.{length, refl, ap, ◌∙◌}
use Rattle.axe_plane.proofs.PlaneLaws.{layers_fit, four_layers, four_words, four_bytes}
use Rattle.axe_plane.specs.Planes.{digits_of}
use Rattle.axe_plane.specs.Primes.{byte_prime, ByteDigits}
use Rattle.axe_plane.specs.declared.Plane.{Plane}
use Rattle.axe_plane.proofs.Plane.add_four_entries.Goals as goal

pub add_four-requires-in-Trits-clause-a : goal.add_four-requires-in-Trits-clause-a
add_four-requires-in-Trits-clause-a c = layers_fit _ _ _ _ _ c.in-Trits.is c.requires.a.fits c.layers_of-a.ensures.holds

pub add_four-requires-in-Trits-clause-b : goal.add_four-requires-in-Trits-clause-b
add_four-requires-in-Trits-clause-b c = layers_fit _ _ _ _ _ c.in-Trits.is c.requires.b.fits c.layers_of-b.ensures.holds

pub add_four-requires-in-Trits-clause-c : goal.add_four-requires-in-Trits-clause-c
add_four-requires-in-Trits-clause-c c = layers_fit _ _ _ _ _ c.in-Trits.is c.requires.c.fits c.layers_of-c.ensures.holds

pub add_four-requires-in-Trits-clause-d : goal.add_four-requires-in-Trits-clause-d
add_four-requires-in-Trits-clause-d c = layers_fit _ _ _ _ _ c.in-Trits.is c.requires.d.fits c.layers_of-d.ensures.holds

pub returns-in-Bits : goal.returns-in-Bits
returns-in-Bits c =
    let own = ap (λ (plane : Plane). length (digits_of plane)) c.in-Bits.is in
    rw c.in-Bits.is (record {
      prime = refl;
      digits_are =
          four_words _ _ _ _ _ _ _ _ _ _ (c.requires.a.fits ∙ own) (c.requires.b.fits ∙ own) (c.requires.c.fits ∙ own) (c.requires.d.fits ∙ own)
          c.words_of-a.ensures.digits c.words_of-b.ensures.digits c.words_of-c.ensures.digits c.words_of-d.ensures.digits c.add_four.ensures;
    })

pub returns-in-Trits : goal.returns-in-Trits
returns-in-Trits c =
    let own = ap (λ (plane : Plane). length (digits_of plane)) c.in-Trits.is in
    rw c.in-Trits.is (record {
      prime = refl;
      digits_are =
          four_layers _ _ _ _ _ _ _ _ _ _ _ _ _ _ (c.requires.a.fits ∙ own) (c.requires.b.fits ∙ own) (c.requires.c.fits ∙ own) (c.requires.d.fits ∙ own)
          c.layers_of-a.ensures.digits c.layers_of-b.ensures.digits c.layers_of-c.ensures.digits c.layers_of-d.ensures.digits c.add_four-in-Trits.ensures;
    })

pub returns-in-Bytes : goal.returns-in-Bytes
returns-in-Bytes c =
    rw c.in-Bytes.is (record {
      prime = ap (λ (plane : ByteDigits). byte_prime plane.prime) c.add_four-in-Bytes.ensures;
      digits_are =
          four_bytes _ _ _ _ _ _ _ _ _ _ _ c.bytes_of-a.ensures.value c.bytes_of-b.ensures.value c.bytes_of-c.ensures.value c.bytes_of-d.ensures.value
          (ap (λ (plane : ByteDigits). plane.digits) c.add_four-in-Bytes.ensures);
    })
