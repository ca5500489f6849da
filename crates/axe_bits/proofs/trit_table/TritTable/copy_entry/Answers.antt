use Rattle.std.proofs.Common.{List, ℕ, [], get_or, set, ap, ap₂, sym, ◌∙◌, arith}
use Rattle.axe_bits.specs.Trits.{trit_entries}
use Rattle.axe_bits.proofs.TritTables.{trit_index, trit_entry-at, trit_entries-set, HoldTritEntries-set}
use Rattle.axe_bits.proofs.trit_table.TritTable.copy_entry.Goals as goal

pub copy_entry-requires-clause-to : goal.copy_entry-requires-clause-to
copy_entry-requires-clause-to c = trit_index _ _ _ _ c.self.view_is c.requires.to

pub copy_entry-requires-clause-from : goal.copy_entry-requires-clause-from
copy_entry-requires-clause-from c = trit_index _ _ _ _ c.self.view_is c.requires.from

pub copy_entry-requires-2-clause-to : goal.copy_entry-requires-2-clause-to
copy_entry-requires-2-clause-to c =
    omega (arith, trit_index _ _ _ _ c.self.view_is c.requires.to, c.self.invariant.as_many)

pub copy_entry-requires-2-clause-from : goal.copy_entry-requires-2-clause-from
copy_entry-requires-2-clause-from c =
    omega (arith, trit_index _ _ _ _ c.self.view_is c.requires.from, c.self.invariant.as_many)

pub invariant_of-self : goal.invariant_of-self
invariant_of-self c =
    let to = trit_index _ _ _ _ c.self.view_is c.requires.to in
    let from = trit_index _ _ _ _ c.self.view_is c.requires.from in
    rw (c.copy_entry.ensures, c.copy_entry-2.ensures)
    (HoldTritEntries-set _ _ c.self.invariant c.args.to _ _ to (c.self.invariant.held c.args.from from))

pub returns : goal.returns
returns c =
    let to = trit_index _ _ _ _ c.self.view_is c.requires.to in
    let from = trit_index _ _ _ _ c.self.view_is c.requires.from in
    ap₂ trit_entries c.copy_entry.ensures c.copy_entry-2.ensures
    ∙ trit_entries-set _ _ c.self.invariant c.args.to _ _ to
    ∙ ap (set (trit_entries c.self.inside.ones c.self.inside.twos) c.args.to) (sym (trit_entry-at _ _ c.args.from from))
    ∙ ap (λ (s : List (List ℕ)). set s c.args.to (get_or s c.args.from [])) c.self.view_is
