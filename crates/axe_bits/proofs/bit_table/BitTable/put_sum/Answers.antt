use Rattle.std.proofs.Common.{◌≡◌, ◌+◌, ◌*◌, ◌/◌, ◌-◌, ◌<◌, ◌≤◌, ◌++◌, List, ℕ, [], length, get_or, set, take, drop, ap, subst, sym, ◌∙◌, arith, bit_xor}
use Rattle.std.specs.Simd.Lanes.{chunk, put_chunk, zip2}
use Rattle.std.proofs.lemmas.List.{length-take-le}
use Rattle.std.proofs.lemmas.Nat.{mul-le}
use Rattle.std.proofs.lemmas.Simd.{length-zip2}
use Rattle.axe_layer.specs.Bits.{bits, HoldsBits}
use Rattle.axe_layer.specs.Digits.{digits_with_multiple}
use Rattle.axe_bits.specs.FlatTables.{bit_entries, HoldsEntries}
use Rattle.axe_layer.proofs.BitLaws.{bits-xor, HoldsBits-xor}
use Rattle.axe_bits.proofs.PieceLaws.{piece_before, piece_within, written_after}
use Rattle.axe_bits.proofs.TableLaws.{bit_index, bit_entry-at, bit_entry-long, bit_entries-after, entries_held, plane_held}
use Rattle.axe_bits.proofs.bit_table.BitTable.put_sum.Goals as goal

pub start_of-source-requires-clause-within : goal.start_of-source-requires-clause-within
start_of-source-requires-clause-within c =
    let to = bit_index _ _ _ c.args.to _ _ c.self.view_is c.requires.to in omega (arith, to, c.requires.earlier)

pub start_of-start-requires-clause-within : goal.start_of-start-requires-clause-within
start_of-start-requires-clause-within c = bit_index _ _ _ _ _ _ c.self.view_is c.requires.to

-- where the two entries stand in the table's words, cut in front of the later one
record IsCut (n w count to from source start : ℕ) (words v front back : List ℕ) : Type 0 where
  h : HoldsEntries n w count words
  below : to < count
  earlier : from < to
  source_is : source ≡ from * w
  start_is : start ≡ to * w
  same : v ≡ words
  front_is : front ≡ take start v
  back_is : back ≡ drop start v

module _ (n w count to from source start : ℕ) (words v front back : List ℕ) (cut : IsCut n w count to from source start words v front back) where
  room : start + w ≤ length words
  room = omega (arith, cut.start_is, cut.h.long, piece_within w count to cut.below)

  before : source + w ≤ start
  before = omega (arith, cut.source_is, cut.start_is, mul-le (from + 1) w to w (omega (arith, cut.earlier)) (omega arith))

  piece : take (source + w - source) (drop source front) ≡ chunk (from * w) w words
  piece =
      piece_before start source w v words front cut.same cut.front_is before (omega (arith, room))
      ∙ ap (λ s. chunk s w words) cut.source_is

  source_held : HoldsBits n (chunk (from * w) w words)
  source_held = cut.h.held from (omega (arith, cut.below, cut.earlier))

  -- the words after
  after : (k : ℕ) (plane dst : List ℕ) → HoldsBits n plane → k ≡ length words →
      dst ≡ zip2 bit_xor (take (source + w - source) (drop source front)) plane →
      take k ((front ++ (dst ++ drop w back)) ++ drop (length (front ++ (dst ++ drop w back))) words)
      ≡ put_chunk (to * w) words (zip2 bit_xor (chunk (from * w) w words) plane)
  after k plane dst ok all e =
      let new : dst ≡ zip2 bit_xor (chunk (from * w) w words) plane = e ∙ ap (λ (l : List ℕ). zip2 bit_xor l plane) piece in
      let mine = source_held in
      let long : length dst ≡ w =
      ap length new ∙ length-zip2 bit_xor (chunk (from * w) w words) plane (mine.long ∙ sym ok.long) ∙ mine.long ∙ sym cut.h.wide in
      written_after k start w v words front back dst cut.same all cut.front_is cut.back_is room long
      ∙ ap (λ s. put_chunk s words dst) cut.start_is ∙ ap (put_chunk (to * w) words) new

pub put_xor-requires-clause-b_fits : goal.put_xor-requires-clause-b_fits
put_xor-requires-clause-b_fits c =
    let w = c.self.inside.width in
    let cut = c.split_at_mut-before.ensures in
    let as_long : length c.args.plane.now ≡ c.self.inside.len =
    c.requires.fits ∙ bit_entry-long _ _ _ c.args.from _ _ c.self.view_is (omega (arith, c.requires.to, c.requires.earlier)) in
    let wide : length c.words.result.now ≡ w = c.words.ensures.holds.long ∙ ap (λ m. (m + 63) / 64) as_long ∙ sym c.self.invariant.wide in
    let room : w ≤ length c.split_at_mut-before.result.1.now =
    omega (arith, cut.back_len, c.start_of-start.ensures.end, c.self.invariant.long, ap length c.deref_mut.ensures.value) in
    wide ∙ sym (length-take-le w c.split_at_mut-before.result.1.now room)

pub invariant_of-self : goal.invariant_of-self
invariant_of-self c =
    let n = c.self.inside.len in
    let w = c.self.inside.width in
    let words = c.self.inside.words.items in
    let to = bit_index _ _ _ c.args.to _ _ c.self.view_is c.requires.to in
    let cut : IsCut n w c.self.inside.count c.args.to c.args.from c.start_of-source.result c.start_of-start.result words
    c.deref_mut.result.now c.split_at_mut-before.result.0.now c.split_at_mut-before.result.1.now = record {
      h = c.self.invariant;
      below = to;
      earlier = c.requires.earlier;
      source_is = c.start_of-source.ensures.start;
      start_is = c.start_of-start.ensures.start;
      same = c.deref_mut.ensures.value;
      front_is = c.split_at_mut-before.ensures.front;
      back_is = c.split_at_mut-before.ensures.back;
    } in
    let ok = plane_held _ _ _ c.args.from words c.words.result.now _ _ c.self.invariant c.self.view_is (omega (arith, c.requires.to, c.requires.earlier)) c.requires.fits c.words.ensures.holds in
    subst (HoldsEntries n w c.self.inside.count)
    (sym (after n w c.self.inside.count c.args.to c.args.from _ _ words _ _ _ cut _ c.words.result.now _ ok c.self.inside.words.ok.0 c.put_xor.ensures))
    (entries_held n w c.self.inside.count c.args.to words _ to c.self.invariant (HoldsBits-xor n _ _ (source_held n w c.self.inside.count c.args.to c.args.from _ _ words _ _ _ cut) ok))

pub returns : goal.returns
returns c =
    let n = c.self.inside.len in
    let w = c.self.inside.width in
    let count = c.self.inside.count in
    let words = c.self.inside.words.items in
    let to = bit_index _ _ _ c.args.to _ _ c.self.view_is c.requires.to in
    let from = bit_index _ _ _ c.args.from _ _ c.self.view_is (omega (arith, c.requires.to, c.requires.earlier)) in
    let cut : IsCut n w count c.args.to c.args.from c.start_of-source.result c.start_of-start.result words
    c.deref_mut.result.now c.split_at_mut-before.result.0.now c.split_at_mut-before.result.1.now = record {
      h = c.self.invariant;
      below = to;
      earlier = c.requires.earlier;
      source_is = c.start_of-source.ensures.start;
      start_is = c.start_of-start.ensures.start;
      same = c.deref_mut.ensures.value;
      front_is = c.split_at_mut-before.ensures.front;
      back_is = c.split_at_mut-before.ensures.back;
    } in
    let ok = plane_held _ _ _ c.args.from words c.words.result.now _ _ c.self.invariant c.self.view_is (omega (arith, c.requires.to, c.requires.earlier)) c.requires.fits c.words.ensures.holds in
    let mine = source_held n w count c.args.to c.args.from _ _ words _ _ _ cut in
    let as_long : length c.args.plane.now ≡ n = c.requires.fits ∙ bit_entry-long _ _ _ c.args.from _ _ c.self.view_is (omega (arith, c.requires.to, c.requires.earlier)) in
    let plane : bits n c.words.result.now ≡ c.args.plane.now = ap (λ m. bits m c.words.result.now) (sym as_long) ∙ c.words.ensures.digits in
    ap (bit_entries n w count)
    (after n w count c.args.to c.args.from _ _ words _ _ _ cut _ c.words.result.now _ ok c.self.inside.words.ok.0 c.put_xor.ensures)
    ∙ bit_entries-after n w count c.args.to words _ to c.self.invariant (HoldsBits-xor n _ _ mine ok)
    ∙ ap (set (bit_entries n w count words) c.args.to)
    (bits-xor n _ _ mine ok ∙ ap (digits_with_multiple 2 (bits n (chunk (c.args.from * w) w words)) 1) plane
    ∙ ap (λ (l : List ℕ). digits_with_multiple 2 l 1 c.args.plane.now) (sym (bit_entry-at n w count words c.args.from from)))
    ∙ ap (λ (s : List (List ℕ)). set s c.args.to (digits_with_multiple 2 (get_or s c.args.from []) 1 c.args.plane.now)) c.self.view_is
