use Rattle.std.proofs.Common.{◌≡◌, ◌+◌, ◌*◌, ◌-◌, ◌<◌, ◌≤◌, List, ℕ, length, ap, subst, sym, ◌∙◌, arith}
use Rattle.std.specs.Simd.Lanes.{chunk}
use Rattle.std.proofs.lemmas.List.Elements.{All-take, All-drop}
use Rattle.std.proofs.lemmas.Nat.{mul-le}
use Rattle.std.proofs.lemmas.Simd.{length-chunk}
use Rattle.axe_bits.specs.Combinations.{HaveEntryCopies}
use Rattle.axe_bits.proofs.CopiedPieces.{as_long, copied, copied_lists, with_copies}
use Rattle.axe_bits.proofs.PieceLaws.{All-written}
use Rattle.axe_plane.specs.FlatTables.{byte_entries, HoldsDigits}
use Rattle.axe_plane.specs.Primes.{byte_prime, ByteEntries}
use Rattle.axe_plane.proofs.TableLaws.{length-byte_entries}
use Rattle.axe_plane.proofs.byte_table.ByteTable.copy_entries.Goals as goal

-- how many entries there are
entries_within : (n count last : ℕ) (bytes : List ℕ) (self : List (List ℕ)) → byte_entries n count bytes ≡ self →
    last ≤ length self → last ≤ count
entries_within n count last bytes self is within = omega (arith, ap length is, length-byte_entries n count bytes, within)

pub start_of-first-requires-clause-within : goal.start_of-first-requires-clause-within
start_of-first-requires-clause-within c =
    omega (
      arith,
      entries_within _ _ _ _ _ (ap (λ (t : ByteEntries). t.entries) c.self.view_is) c.requires.within,
      c.requires.some,
    )

pub copy_within-requires-clause-dest_in_bounds : goal.copy_within-requires-clause-dest_in_bounds
copy_within-requires-clause-dest_in_bounds c =
    let last : c.args.start + c.args.count ≤ c.self.inside.count =
    entries_within _ _ _ _ _ (ap (λ (t : ByteEntries). t.entries) c.self.view_is) c.requires.within in
    omega (
      arith,
      c.start_of-first.ensures.start,
      c.self.invariant.long,
      c.self.inside.bytes.ok.0,
      mul-le 1 c.self.inside.len c.args.count c.self.inside.len c.requires.some (omega arith),
      mul-le (c.args.start + c.args.count) c.self.inside.len c.self.inside.count c.self.inside.len last (omega arith),
    )

-- the table after
record AreCopied (p n count start many : ℕ) (new : List ℕ) (self : List (List ℕ)) : Type 0 where
  held : HoldsDigits p n count new
  entries : HaveEntryCopies start many self (byte_entries n count new)

entries_copied : (p n count start many : ℕ) (bytes new : List ℕ) (self : List (List ℕ)) → HoldsDigits p n count bytes →
    byte_entries n count bytes ≡ self → 1 ≤ many → many ≤ start → (within : start + many ≤ length self) →
    new ≡ with_copies n start many bytes → AreCopied p n count start many new self
unfolding byte_entries
entries_copied p n count start many bytes new self h is some early within e =
    subst (λ (x : List ℕ). AreCopied p n count start many x self) (sym e) (record {
      held = record {
        long = as_long n count start many bytes some early last h.long;
        digits =
            All-written (λ digit. digit < p) (start * n + n) bytes (chunk n (many * n - n) bytes)
            (omega (arith, piece, one, h.long, room)) h.digits
            (All-take (λ digit. digit < p) (many * n - n) _ (All-drop (λ digit. digit < p) n bytes h.digits));
      };
      entries =
          subst (λ (s : List (List ℕ)). HaveEntryCopies start many s (byte_entries n count (with_copies n start many bytes))) is
          (copied_lists n count start many bytes some early last h.long (λ l. l));
    })
  where
    last : start + many ≤ count
    last = entries_within n count (start + many) bytes self is within

    one : n ≤ many * n
    one = omega (arith, mul-le 1 n many n some (omega arith))

    room : start * n + many * n ≤ count * n
    room = omega (arith, mul-le (start + many) n count n last (omega arith))

    piece : length (chunk n (many * n - n) bytes) ≡ many * n - n
    piece = length-chunk n (many * n - n) bytes (omega (arith, one, room, h.long))

pub invariant_of-self : goal.invariant_of-self
invariant_of-self c =
    let entries = ap (λ (t : ByteEntries). t.entries) c.self.view_is in
    (entries_copied _ _ _ c.args.start c.args.count _ _ _ c.self.invariant entries c.requires.some c.requires.earlier c.requires.within
    (c.copy_within.ensures.items
    ∙ copied _ _ _ _ _ c.requires.some c.requires.earlier (entries_within _ _ _ _ _ entries c.requires.within)
    c.self.invariant.long _ c.start_of-first.ensures.start)).held

pub returns-clause-prime : goal.returns-clause-prime
returns-clause-prime c = ap (λ (t : ByteEntries). t.prime) c.self.view_is

pub returns-clause-copies : goal.returns-clause-copies
returns-clause-copies c =
    let entries = ap (λ (t : ByteEntries). t.entries) c.self.view_is in
    (entries_copied (byte_prime c.self.inside.prime) _ _ c.args.start c.args.count _ _ _ c.self.invariant entries c.requires.some c.requires.earlier c.requires.within
    (c.copy_within.ensures.items
    ∙ copied _ _ _ _ _ c.requires.some c.requires.earlier (entries_within _ _ _ _ _ entries c.requires.within)
    c.self.invariant.long _ c.start_of-first.ensures.start)).entries
