use Rattle.std.proofs.Common.{◌≡◌, List, [], ℕ, set, refl, ap, sym, ◌∙◌, arith, ◌<◌}
use Rattle.axe_plane.specs.Tables.{entries_of_table}
use Rattle.axe_layer.proofs.DigitLaws.{digits_with_multiple-none}
use Rattle.std.proofs.lemmas.List.{set-get_or}
use Rattle.axe_plane.proofs.TableLaws.{prime_of_table-positive}
use Rattle.axe_plane.specs.Primes.{byte_prime, ByteEntries}
use Rattle.axe_plane.proofs.tables.PlaneTable.add_to_entry.Goals as goal

pub returns-else-factor-ne0 : goal.returns-else-factor-ne0
returns-else-factor-ne0 c = record {
  prime = refl;
  entries_are =
      let none : c.args.factor ≡ 0 = omega arith in
      sym (set-get_or (entries_of_table c.args.self.now) c.args.to [])
      ∙ ap (λ (l : List ℕ). set (entries_of_table c.args.self.now) c.args.to l)
      (digits_with_multiple-none _ _ _ _ (prime_of_table-positive c.args.self.now) none c.requires.digits);
}

pub add_to_entry-requires-clause-fits : goal.add_to_entry-requires-clause-fits
add_to_entry-requires-clause-fits c =
    rw (c.in-Bits-Bits.is-0, c.in-Bits-Bits.is-1) at (c.requires.fits c.if-factor-ne0.true)

pub add_to_entry-requires-in-Trits-Trits-clause-fits : goal.add_to_entry-requires-in-Trits-Trits-clause-fits
add_to_entry-requires-in-Trits-Trits-clause-fits c =
    rw (c.in-Trits-Trits.is-0, c.in-Trits-Trits.is-1) at (c.requires.fits c.if-factor-ne0.true)

pub add_to_entry-requires-in-Bytes-Bytes-clause-fits : goal.add_to_entry-requires-in-Bytes-Bytes-clause-fits
add_to_entry-requires-in-Bytes-Bytes-clause-fits c =
    rw (c.in-Bytes-Bytes.is-0, c.in-Bytes-Bytes.is-1) at (c.requires.fits c.if-factor-ne0.true)

pub returns-in-Bits-Bits : goal.returns-in-Bits-Bits
returns-in-Bits-Bits c =
    let low : c.args.factor < 2 = rw c.in-Bits-Bits.is-0 at c.requires.factor in
    let one : c.args.factor ≡ 1 = omega (arith, low, c.if-factor-ne0.true) in
    rw (c.in-Bits-Bits.is-0, c.in-Bits-Bits.is-1, one) (record { prime = refl; entries_are = c.add_to_entry.ensures })

pub returns-in-Trits-Trits : goal.returns-in-Trits-Trits
returns-in-Trits-Trits c =
    rw (c.in-Trits-Trits.is-0, c.in-Trits-Trits.is-1) (record { prime = refl; entries_are = c.add_to_entry-in-Trits-Trits.ensures })

pub returns-in-Bytes-Bytes : goal.returns-in-Bytes-Bytes
returns-in-Bytes-Bytes c =
    rw (c.in-Bytes-Bytes.is-0, c.in-Bytes-Bytes.is-1) (record {
      prime = ap (λ (table : ByteEntries). byte_prime table.prime) c.add_to_entry-in-Bytes-Bytes.ensures;
      entries_are = ap (λ (table : ByteEntries). table.entries) c.add_to_entry-in-Bytes-Bytes.ensures;
    })
