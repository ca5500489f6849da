use Rattle.std.proofs.Common.{◌≡◌, ◌*◌, ◌<◌, List, ℕ, [], get_or, set, ap, subst, sym, ◌∙◌, arith}
use Rattle.std.specs.Simd.Lanes.{chunk, put_chunk}
use Rattle.axe_bits.specs.FlatTables.{bit_entries, HoldsEntries}
use Rattle.axe_bits.proofs.PieceLaws.{copied_piece}
use Rattle.axe_bits.proofs.TableLaws.{bit_index, bit_entry-at, bit_entries-after, entries_held}
use Rattle.axe_bits.proofs.bit_table.BitTable.copy_entry.Goals as goal

pub start_of-source-requires-clause-within : goal.start_of-source-requires-clause-within
start_of-source-requires-clause-within c = bit_index _ _ _ _ _ _ c.self.view_is c.requires.from

pub start_of-start-requires-clause-within : goal.start_of-start-requires-clause-within
start_of-start-requires-clause-within c = bit_index _ _ _ _ _ _ c.self.view_is c.requires.to

-- the words after
after : (n w count to from source start : ℕ) (words v : List ℕ) → HoldsEntries n w count words → from < count → to < count →
    source ≡ from * w → start ≡ to * w → v ≡ put_chunk start words (chunk source w words) →
    v ≡ put_chunk (to * w) words (chunk (from * w) w words)
after n w count to from source start words v h _ _ es et e =
    e ∙ ap (λ s. put_chunk s words (chunk source w words)) et ∙ ap (λ s. put_chunk (to * w) words (chunk s w words)) es

pub invariant_of-self : goal.invariant_of-self
invariant_of-self c =
    let n = c.self.inside.len in
    let w = c.self.inside.width in
    let words = c.self.inside.words.items in
    let from = bit_index _ _ _ c.args.from _ _ c.self.view_is c.requires.from in
    let to = bit_index _ _ _ c.args.to _ _ c.self.view_is c.requires.to in
    let long = c.self.invariant.long in
    let moved = c.copy_within.ensures.items ∙ copied_piece words c.start_of-source.result w c.start_of-start.result (omega (arith, long, c.start_of-source.ensures.end)) (omega (arith, long, c.start_of-start.ensures.end)) in
    subst (HoldsEntries n w c.self.inside.count)
    (sym (after n w _ _ _ _ _ words _ c.self.invariant from to c.start_of-source.ensures.start c.start_of-start.ensures.start moved))
    (entries_held n w _ _ words _ to c.self.invariant (c.self.invariant.held _ from))

pub returns : goal.returns
returns c =
    let n = c.self.inside.len in
    let w = c.self.inside.width in
    let words = c.self.inside.words.items in
    let from = bit_index _ _ _ c.args.from _ _ c.self.view_is c.requires.from in
    let to = bit_index _ _ _ c.args.to _ _ c.self.view_is c.requires.to in
    let long = c.self.invariant.long in
    let moved = c.copy_within.ensures.items ∙ copied_piece words c.start_of-source.result w c.start_of-start.result (omega (arith, long, c.start_of-source.ensures.end)) (omega (arith, long, c.start_of-start.ensures.end)) in
    ap (bit_entries n w c.self.inside.count)
    (after n w _ _ _ _ _ words _ c.self.invariant from to c.start_of-source.ensures.start c.start_of-start.ensures.start moved)
    ∙ bit_entries-after n w _ c.args.to words _ to c.self.invariant (c.self.invariant.held _ from)
    ∙ ap (set (bit_entries n w c.self.inside.count words) c.args.to) (sym (bit_entry-at n w _ words c.args.from from))
    ∙ ap (λ (s : List (List ℕ)). set s c.args.to (get_or s c.args.from [])) c.self.view_is
