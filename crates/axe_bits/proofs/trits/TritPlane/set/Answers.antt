use Rattle.std.proofs.Common.{arith, refl, sym, ◌∙◌}
use Rattle.std.proofs.lemmas.List.{set_past}
use Rattle.axe_bits.proofs.TritPlaneLaws.{layers_set, trits_set}
use Rattle.axe_bits.proofs.TritHalves.{halves_long, halves_wide, half_trits-made, HalvesHold-made, HoldLayers-split, trits-split}
use Rattle.axe_bits.proofs.trits.TritPlane.set.Goals as goal

pub invariant_of-self : goal.invariant_of-self
invariant_of-self c =
    let n = c.self.inside.len in
    let below = c.if-index-self.true in
    let cut = c.split_at_mut-ones.ensures in
    let held = HoldLayers-split n _ _ _ _ _ _ c.self.invariant c.self.view_is c.deref_mut.ensures.value
    (c.len-width.ensures ∙ c.self.inside.words.ok.0) cut.front cut.back in
    let first = c.set_bit.ensures in
    let second = c.set_bit-then-index-self.ensures in
    HalvesHold-made n _ _ _ _ _ _ (first.holds n below held.ones_held) (second.holds n below held.twos_held) (first.digits n below)
    (second.digits n below) (layers_set _ _ _ _ held.together c.requires) c.self.inside.words.ok.0
    (halves_wide n _ c.self.invariant)

pub returns-then-index-self : goal.returns-then-index-self
returns-then-index-self c =
    let n = c.self.inside.len in
    let below = c.if-index-self.true in
    let cut = c.split_at_mut-ones.ensures in
    let counted = c.len-width.ensures ∙ c.self.inside.words.ok.0 in
    let held = HoldLayers-split n _ _ _ _ _ _ c.self.invariant c.self.view_is c.deref_mut.ensures.value counted cut.front cut.back in
    let digits = trits-split n _ _ _ _ _ _ c.self.invariant c.self.view_is c.deref_mut.ensures.value counted cut.front cut.back in
    let first = c.set_bit.ensures in
    let second = c.set_bit-then-index-self.ensures in
    half_trits-made n _ _ _ _ _ _ (first.holds n below held.ones_held) (second.holds n below held.twos_held) (first.digits n below)
    (second.digits n below) (layers_set _ _ _ _ held.together c.requires) c.self.inside.words.ok.0
    (halves_wide n _ c.self.invariant)
    ∙ trits_set _ _ _ _ _ c.args.index c.args.digit held.together digits c.requires refl refl

pub returns-else-index-self : goal.returns-else-index-self
returns-else-index-self c =
    sym (set_past c.args.self.now c.args.index c.args.digit (omega (arith, halves_long _ _ _ c.self.view_is, c.if-index-self.false)))
