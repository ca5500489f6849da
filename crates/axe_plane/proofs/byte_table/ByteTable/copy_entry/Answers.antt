use Rattle.std.proofs.Common.{◌≡◌, ◌*◌, ◌<◌, List, ℕ, [], get_or, set, ap, subst, sym, ◌∙◌, arith}
use Rattle.std.specs.Simd.Lanes.{chunk, put_chunk}
use Rattle.std.proofs.lemmas.Simd.{length-chunk}
use Rattle.std.proofs.lemmas.List.Elements.{All-take, All-drop}
use Rattle.axe_plane.specs.FlatTables.{byte_entries, HoldsDigits}
use Rattle.axe_plane.specs.Primes.{byte_prime, ByteEntries}
use Rattle.axe_bits.proofs.PieceLaws.{copied_piece, piece_within}
use Rattle.axe_plane.proofs.TableLaws.{byte_index, byte_entry-at, byte_entries-after, digits_held}
use Rattle.axe_plane.proofs.byte_table.ByteTable.copy_entry.Goals as goal

pub start_of-source-requires-clause-within : goal.start_of-source-requires-clause-within
start_of-source-requires-clause-within c = byte_index _ _ _ _ _ (ap (λ (t : ByteEntries). t.entries) c.self.view_is) c.requires.from

pub start_of-start-requires-clause-within : goal.start_of-start-requires-clause-within
start_of-start-requires-clause-within c = byte_index _ _ _ _ _ (ap (λ (t : ByteEntries). t.entries) c.self.view_is) c.requires.to

-- the bytes after
after : (n to from source start : ℕ) (bytes v : List ℕ) →
    source ≡ from * n → start ≡ to * n → v ≡ put_chunk start bytes (chunk source n bytes) →
    v ≡ put_chunk (to * n) bytes (chunk (from * n) n bytes)
after n to from source start bytes v es et e =
    e ∙ ap (λ s. put_chunk s bytes (chunk source n bytes)) et ∙ ap (λ s. put_chunk (to * n) bytes (chunk s n bytes)) es

pub invariant_of-self : goal.invariant_of-self
invariant_of-self c =
    let n = c.self.inside.len in
    let p = byte_prime c.self.inside.prime in
    let bytes = c.self.inside.bytes.items in
    let from = byte_index _ _ c.args.from _ _ (ap (λ (t : ByteEntries). t.entries) c.self.view_is) c.requires.from in
    let to = byte_index _ _ c.args.to _ _ (ap (λ (t : ByteEntries). t.entries) c.self.view_is) c.requires.to in
    let long = c.self.invariant.long in
    let moved = c.copy_within.ensures.items ∙ copied_piece bytes c.start_of-source.result n c.start_of-start.result (omega (arith, long, c.start_of-source.ensures.end)) (omega (arith, long, c.start_of-start.ensures.end)) in
    subst (HoldsDigits p n c.self.inside.count)
    (sym (after n c.args.to c.args.from _ _ bytes _ c.start_of-source.ensures.start c.start_of-start.ensures.start moved))
    (digits_held p n _ _ bytes _ to c.self.invariant
    (length-chunk (c.args.from * n) n bytes (omega (arith, long, piece_within n c.self.inside.count c.args.from from)))
    (All-take (λ digit. digit < p) n _ (All-drop (λ digit. digit < p) (c.args.from * n) bytes c.self.invariant.digits)))

pub returns : goal.returns
returns c =
    let n = c.self.inside.len in
    let p = byte_prime c.self.inside.prime in
    let bytes = c.self.inside.bytes.items in
    let count = c.self.inside.count in
    let from = byte_index _ _ c.args.from _ _ (ap (λ (t : ByteEntries). t.entries) c.self.view_is) c.requires.from in
    let to = byte_index _ _ c.args.to _ _ (ap (λ (t : ByteEntries). t.entries) c.self.view_is) c.requires.to in
    let long = c.self.invariant.long in
    let moved = c.copy_within.ensures.items ∙ copied_piece bytes c.start_of-source.result n c.start_of-start.result (omega (arith, long, c.start_of-source.ensures.end)) (omega (arith, long, c.start_of-start.ensures.end)) in
    let entries : byte_entries n count c.copy_within.new.self.items ≡ set (byte_entries n count bytes) c.args.to (get_or (byte_entries n count bytes) c.args.from []) =
    ap (byte_entries n count) (after n c.args.to c.args.from _ _ bytes _ c.start_of-source.ensures.start c.start_of-start.ensures.start moved)
    ∙ byte_entries-after p n count c.args.to bytes _ to c.self.invariant
    (length-chunk (c.args.from * n) n bytes (omega (arith, long, piece_within n count c.args.from from)))
    ∙ ap (set (byte_entries n count bytes) c.args.to) (sym (byte_entry-at n count bytes c.args.from from)) in
    ap (λ (l : List (List ℕ)). record { prime = c.self.inside.prime; entries = l }) entries
    ∙ ap (λ (t : ByteEntries). record { prime = t.prime; entries = set t.entries c.args.to (get_or t.entries c.args.from []) }) c.self.view_is
