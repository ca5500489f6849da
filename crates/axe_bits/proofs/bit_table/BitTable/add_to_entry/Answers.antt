use Rattle.std.proofs.Common.{◌≡◌, ◌+◌, ◌*◌, ◌/◌, ◌-◌, ◌<◌, ◌≤◌, ◌++◌, List, ℕ, [], length, get_or, set, take, drop, ap, subst, sym, ◌∙◌, arith, bit_xor}
use Rattle.std.specs.Simd.Lanes.{chunk, put_chunk, zip2}
use Rattle.std.proofs.lemmas.Simd.{length-zip2}
use Rattle.axe_layer.specs.Bits.{bits, HoldsBits}
use Rattle.axe_layer.specs.Digits.{digits_with_multiple}
use Rattle.axe_bits.specs.FlatTables.{bit_entries, HoldsEntries}
use Rattle.axe_layer.proofs.BitLaws.{bits-xor, HoldsBits-xor}
use Rattle.axe_bits.proofs.PieceLaws.{written_piece}
use Rattle.axe_bits.proofs.TableLaws.{bit_index, bit_entry-at, bit_entry-long, bit_entries-after, entries_held, entry_words, plane_held}
use Rattle.axe_bits.proofs.bit_table.BitTable.add_to_entry.Goals as goal

pub start_of-start-requires-clause-within : goal.start_of-start-requires-clause-within
start_of-start-requires-clause-within c = bit_index _ _ _ _ _ _ c.self.view_is c.requires.to

pub xor_into-requires : goal.xor_into-requires
xor_into-requires c =
    let mine = entry_words _ _ _ c.args.to _ _ _ _ c.self.invariant c.self.view_is c.requires.to c.start_of-start.ensures.start c.deref_mut.ensures.value in
    c.words.ensures.holds.long ∙ ap (λ m. (m + 63) / 64) c.requires.fits ∙ sym mine.holds.long

-- the table's words after
after : (n w count to start k : ℕ) (words v plane_words dst : List ℕ) → HoldsEntries n w count words → HoldsBits n plane_words → to < count →
    v ≡ words → k ≡ length words → start ≡ to * w → start + w ≤ count * w →
    dst ≡ zip2 bit_xor (take (start + w - start) (drop start v)) plane_words →
    take k ((take start v ++ (dst ++ drop (start + w - start) (drop start v))) ++ drop (length (take start v ++ (dst ++ drop (start + w - start) (drop start v)))) words)
    ≡ put_chunk (to * w) words (zip2 bit_xor (chunk (to * w) w words) plane_words)
after n w count to start k words v plane_words dst h ok below same all at room e =
    let wide : start + w - start ≡ w = omega arith in
    let new : dst ≡ zip2 bit_xor (chunk (to * w) w words) plane_words =
    e ∙ ap (λ (l : List ℕ). zip2 bit_xor l plane_words)
    (ap (λ m. take m (drop start v)) wide ∙ ap (λ s. take w (drop s v)) at ∙ ap (λ (l : List ℕ). take w (drop (to * w) l)) same) in
    let mine = h.held to below in
    let long : length dst ≡ w =
    ap length new ∙ length-zip2 bit_xor (chunk (to * w) w words) plane_words (mine.long ∙ sym ok.long) ∙ mine.long ∙ sym h.wide in
    written_piece k start w v words dst same all (omega (arith, h.long)) long
    ∙ ap (λ s. put_chunk s words dst) at ∙ ap (put_chunk (to * w) words) new

pub invariant_of-self : goal.invariant_of-self
invariant_of-self c =
    let n = c.self.inside.len in
    let w = c.self.inside.width in
    let words = c.self.inside.words.items in
    let to = bit_index _ _ _ c.args.to _ _ c.self.view_is c.requires.to in
    let ok = plane_held _ _ _ c.args.to words c.words.result.now _ _ c.self.invariant c.self.view_is c.requires.to c.requires.fits c.words.ensures.holds in
    subst (HoldsEntries n w c.self.inside.count)
    (sym (after n w c.self.inside.count c.args.to _ _ words _ c.words.result.now _ c.self.invariant ok to c.deref_mut.ensures.value c.self.inside.words.ok.0
    c.start_of-start.ensures.start c.start_of-start.ensures.end c.xor_into.ensures))
    (entries_held n w c.self.inside.count c.args.to words _ to c.self.invariant (HoldsBits-xor n _ _ (c.self.invariant.held c.args.to to) ok))

pub returns : goal.returns
returns c =
    let n = c.self.inside.len in
    let w = c.self.inside.width in
    let count = c.self.inside.count in
    let words = c.self.inside.words.items in
    let to = bit_index _ _ _ c.args.to _ _ c.self.view_is c.requires.to in
    let ok = plane_held _ _ _ c.args.to words c.words.result.now _ _ c.self.invariant c.self.view_is c.requires.to c.requires.fits c.words.ensures.holds in
    let mine = c.self.invariant.held c.args.to to in
    let as_long : length c.args.plane.now ≡ n = c.requires.fits ∙ bit_entry-long _ _ _ _ _ _ c.self.view_is c.requires.to in
    let plane : bits n c.words.result.now ≡ c.args.plane.now = ap (λ m. bits m c.words.result.now) (sym as_long) ∙ c.words.ensures.digits in
    ap (bit_entries n w count)
    (after n w count c.args.to _ _ words _ c.words.result.now _ c.self.invariant ok to c.deref_mut.ensures.value c.self.inside.words.ok.0
    c.start_of-start.ensures.start c.start_of-start.ensures.end c.xor_into.ensures)
    ∙ bit_entries-after n w count c.args.to words _ to c.self.invariant (HoldsBits-xor n _ _ mine ok)
    ∙ ap (set (bit_entries n w count words) c.args.to)
    (bits-xor n _ _ mine ok ∙ ap (digits_with_multiple 2 (bits n (chunk (c.args.to * w) w words)) 1) plane
    ∙ ap (λ (l : List ℕ). digits_with_multiple 2 l 1 c.args.plane.now) (sym (bit_entry-at n w count words c.args.to to)))
    ∙ ap (λ (s : List (List ℕ)). set s c.args.to (digits_with_multiple 2 (get_or s c.args.to []) 1 c.args.plane.now)) c.self.view_is
