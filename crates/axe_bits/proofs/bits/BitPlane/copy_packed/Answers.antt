use Rattle.std.proofs.Common.{rules, ◌≡◌, ◌≤◌, ◌<◌, ◌*◌, ◌+◌, ◌-◌, length, arith, refl, ◌∙◌, ap, ℕ, List, get_or, min}
use Rattle.std.proofs.lemmas.List.{get_or-take}
use Rattle.std.proofs.lemmas.Grind.{get_or_default_zero}
use Rattle.axe_layer.proofs.BitLaws.{plane_long}
use Rattle.axe_layer.proofs.PackedWords.{word_packed, all_packed}
use Rattle.axe_bits.proofs.bits.BitPlane.copy_packed.Goals as goal

pub overflow_sub-bytes : goal.overflow_sub-bytes
overflow_sub-bytes c =
    omega (arith, c.loop-at-test.true, c.len-at-end.ensures, c.self.invariant.long, c.loop-at.invariant.long, plane_long _ _ _ c.self.view_is)

pub slice_bounds-copy_from_slice-end : goal.slice_bounds-copy_from_slice-end
slice_bounds-copy_from_slice-end c =
    let begun : c.loop-at.at * 8 ≤ length c.loop-at.bytes =
    omega (arith, c.loop-at-test.true, c.len-at-end.ensures, c.self.invariant.long, c.loop-at.invariant.long, plane_long _ _ _ c.self.view_is) in
    let end : c.loop-at.at * 8 + c.min-count.result ≤ length c.loop-at.bytes = omega (arith, begun, c.min-count.ensures) in
    search rules

pub loop-at-preserved : goal.loop-at-preserved
loop-at-preserved c =
    let before : c.loop-at.at < length c.self.inside.words.items = omega (arith, c.loop-at-test.true, c.len-at-end.ensures) in
    let within : c.loop-at.at * 64 < c.self.inside.len = omega (arith, before, c.self.invariant.long) in
    let wide : c.loop-at.at * 8 + c.min-count.result - c.loop-at.at * 8 ≡ min 8 (length c.loop-at.bytes - c.loop-at.at * 8) =
    omega (arith, c.min-count.ensures) in
    word_packed _ _ _ c.loop-at.at _ _ _ c.loop-at.bytes c.packed_word-packed.result c.copy_from_slice.new.self c.self.view_is c.self.invariant within wide c.loop-at.invariant
    (search rules) (c.index.ensures ∙ get_or_default_zero c.self.inside.words.items c.loop-at.at c.index.result.now before)
    c.packed_word-packed.ensures (λ i small.
    ap (λ (x : List ℕ). get_or x i 0) c.copy_from_slice.ensures.after ∙ get_or-take c.min-count.result c.packed_word-packed.result i 0 (omega (arith, small))) refl

pub returns-clause-digits : goal.returns-clause-digits
returns-clause-digits c = λ e.
    all_packed _ (c.loop-at.at * 64) e c.loop-at.bytes c.loop-at.invariant
    (omega (arith, c.loop-at-test.false, c.len-at-end.ensures, c.self.invariant.long, c.loop-at.invariant.long, plane_long _ _ _ c.self.view_is))
