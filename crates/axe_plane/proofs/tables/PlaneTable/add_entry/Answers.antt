use Rattle.std.proofs.Common.{◌≡◌, refl, arith, rules, subst, List, ℕ, ap, ◌∙◌}
use Rattle.axe_layer.proofs.DigitLaws.{digits_with_multiple-none}
use Rattle.axe_plane.proofs.PlaneLaws.{prime_of_plane-positive}
use Rattle.axe_layer.specs.Bits.{HoldsBits}
use Rattle.axe_layer.specs.Digits.{digits_with_multiple}
use Rattle.axe_plane.specs.Primes.{byte_prime, ByteDigits}
use Rattle.axe_plane.proofs.tables.PlaneTable.add_entry.Goals as goal

pub returns-else-factor-ne0 : goal.returns-else-factor-ne0
returns-else-factor-ne0 c = record {
  prime = refl;
  digits_are =
      let none : c.args.factor ≡ 0 = omega arith in
      digits_with_multiple-none _ _ _ _ (prime_of_plane-positive c.args.plane.now) none c.requires.digits;
}

pub add_words-requires : goal.add_words-requires
add_words-requires c =
    subst (λ (n : ℕ). HoldsBits n c.entry.result.now)
    (rw (c.in-Bits-Bits.is-0, c.in-Bits-Bits.is-1) at (c.requires.fits c.if-factor-ne0.true)) c.entry.ensures.holds

pub returns-in-Bits-Bits : goal.returns-in-Bits-Bits
returns-in-Bits-Bits c = search rules

pub returns-in-Trits-Trits : goal.returns-in-Trits-Trits
returns-in-Trits-Trits c =
    rw (c.in-Trits-Trits.is-0, c.in-Trits-Trits.is-1) (record { prime = refl; digits_are = c.add_entry.ensures })

pub returns-in-Bytes-Bytes : goal.returns-in-Bytes-Bytes
returns-in-Bytes-Bytes c =
    rw (c.in-Bytes-Bytes.is-0, c.in-Bytes-Bytes.is-1) (record {
      prime = ap (λ (plane : ByteDigits). byte_prime plane.prime) c.add_bytes.ensures;
      digits_are =
          ap (λ (plane : ByteDigits). plane.digits) c.add_bytes.ensures
          ∙ ap (λ (l : List ℕ). digits_with_multiple (byte_prime c.in-Bytes-Bytes.plane.prime) c.in-Bytes-Bytes.plane.digits c.args.factor l)
          c.entry-in-Bytes-Bytes.ensures.value;
    })
