use Rattle.std.proofs.Common.{arith, ◌∙◌}
use Rattle.axe_bits.proofs.TritHalves.{halves_long, halves_wide, half_trits-made, HalvesHold-made, HoldLayers-split, trits-split}
use Rattle.axe_bits.proofs.TritWordWrites.{layers_with_words, trits_with_words}
use Rattle.axe_layer.proofs.WordWrites.{digits_with_word-past}
use Rattle.axe_bits.proofs.trits.TritPlane.set_digit_words.Goals as goal

pub invariant_of-self : goal.invariant_of-self
invariant_of-self c =
    let n = c.self.inside.len in
    let cut = c.split_at_mut-ones.ensures in
    let held = HoldLayers-split n _ _ _ _ _ _ c.self.invariant c.self.view_is c.deref_mut.ensures.value
    (c.len.ensures ∙ c.self.inside.words.ok.0) cut.front cut.back in
    let first = c.set_word_in.ensures in
    let second = c.set_word_in-then-at-width.ensures in
    HalvesHold-made n _ _ _ _ _ _ (first.holds held.ones_held) (second.holds held.twos_held) first.digits second.digits
    (layers_with_words _ _ c.args.self.now _ c.args.words held.together c.requires) c.self.inside.words.ok.0 (halves_wide n _ c.self.invariant)

pub returns-then-at-width : goal.returns-then-at-width
returns-then-at-width c =
    let n = c.self.inside.len in
    let cut = c.split_at_mut-ones.ensures in
    let counted = c.len.ensures ∙ c.self.inside.words.ok.0 in
    let held = HoldLayers-split n _ _ _ _ _ _ c.self.invariant c.self.view_is c.deref_mut.ensures.value counted cut.front cut.back in
    let digits = trits-split n _ _ _ _ _ _ c.self.invariant c.self.view_is c.deref_mut.ensures.value counted cut.front cut.back in
    let first = c.set_word_in.ensures in
    let second = c.set_word_in-then-at-width.ensures in
    half_trits-made n _ _ _ _ _ _ (first.holds held.ones_held) (second.holds held.twos_held) first.digits second.digits
    (layers_with_words _ _ c.args.self.now _ c.args.words held.together c.requires) c.self.inside.words.ok.0 (halves_wide n _ c.self.invariant)
    ∙ trits_with_words _ _ c.args.self.now _ c.args.words held.together c.requires digits

pub returns-else-at-width : goal.returns-else-at-width
returns-else-at-width c =
    let long = halves_long _ _ _ c.self.view_is in
    let wide = halves_wide _ _ c.self.invariant in
    digits_with_word-past _ _ _ (omega (arith, c.if-at-width.false, c.len.ensures, c.self.inside.words.ok.0, long, wide))
