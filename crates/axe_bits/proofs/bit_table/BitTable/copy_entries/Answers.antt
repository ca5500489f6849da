use Rattle.std.proofs.Common.{◌≡◌, ◌+◌, ◌≤◌, List, ℕ, length, ap, subst, sym, ◌∙◌, arith}
use Rattle.std.proofs.lemmas.Nat.{mul-le}
use Rattle.axe_layer.specs.Bits.{bits, HoldsBits}
use Rattle.axe_bits.specs.Combinations.{HaveEntryCopies}
use Rattle.axe_bits.specs.FlatTables.{bit_entries, HoldsEntries}
use Rattle.axe_bits.proofs.CopiedPieces.{as_long, copied, copied_lists, each_piece, with_copies}
use Rattle.axe_bits.proofs.TableLaws.{length-bit_entries}
use Rattle.axe_bits.proofs.bit_table.BitTable.copy_entries.Goals as goal

-- how many entries there are
entries_within : (n w count last : ℕ) (words : List ℕ) (self : List (List ℕ)) → bit_entries n w count words ≡ self →
    last ≤ length self → last ≤ count
entries_within n w count last words self is within = omega (arith, ap length is, length-bit_entries n w count words, within)

pub start_of-first-requires-clause-within : goal.start_of-first-requires-clause-within
start_of-first-requires-clause-within c =
    omega (arith, entries_within _ _ _ _ _ _ c.self.view_is c.requires.within, c.requires.some)

pub copy_within-requires-clause-dest_in_bounds : goal.copy_within-requires-clause-dest_in_bounds
copy_within-requires-clause-dest_in_bounds c =
    let last : c.args.start + c.args.count ≤ c.self.inside.count = entries_within _ _ _ _ _ _ c.self.view_is c.requires.within in
    omega (
      arith,
      c.start_of-first.ensures.start,
      c.self.invariant.long,
      c.self.inside.words.ok.0,
      mul-le 1 c.self.inside.width c.args.count c.self.inside.width c.requires.some (omega arith),
      mul-le (c.args.start + c.args.count) c.self.inside.width c.self.inside.count c.self.inside.width last (omega arith),
    )

-- the table after
record AreCopied (n w count start many : ℕ) (new : List ℕ) (self : List (List ℕ)) : Type 0 where
  held : HoldsEntries n w count new
  entries : HaveEntryCopies start many self (bit_entries n w count new)

entries_copied : (n w count start many : ℕ) (words new : List ℕ) (self : List (List ℕ)) → HoldsEntries n w count words →
    bit_entries n w count words ≡ self → 1 ≤ many → many ≤ start → (within : start + many ≤ length self) →
    new ≡ with_copies w start many words → AreCopied n w count start many new self
unfolding bit_entries
entries_copied n w count start many words new self h is some early within e =
    subst (λ (x : List ℕ). AreCopied n w count start many x self) (sym e) (record {
      held = record {
        counted = h.counted;
        wide = h.wide;
        long = as_long w count start many words some early last h.long;
        held = each_piece w count start many words some early last h.long (HoldsBits n) h.held;
      };
      entries =
          subst (λ (s : List (List ℕ)). HaveEntryCopies start many s (bit_entries n w count (with_copies w start many words))) is
          (copied_lists w count start many words some early last h.long (bits n));
    })
  where
    last : start + many ≤ count
    last = entries_within n w count (start + many) words self is within

pub invariant_of-self : goal.invariant_of-self
invariant_of-self c =
    (entries_copied _ _ _ c.args.start c.args.count _ _ _ c.self.invariant c.self.view_is c.requires.some c.requires.earlier c.requires.within
    (c.copy_within.ensures.items
    ∙ copied _ _ _ _ _ c.requires.some c.requires.earlier (entries_within _ _ _ _ _ _ c.self.view_is c.requires.within)
    c.self.invariant.long _ c.start_of-first.ensures.start)).held

pub returns : goal.returns
returns c =
    (entries_copied _ _ _ c.args.start c.args.count _ _ _ c.self.invariant c.self.view_is c.requires.some c.requires.earlier c.requires.within
    (c.copy_within.ensures.items
    ∙ copied _ _ _ _ _ c.requires.some c.requires.earlier (entries_within _ _ _ _ _ _ c.self.view_is c.requires.within)
    c.self.invariant.long _ c.start_of-first.ensures.start)).entries
