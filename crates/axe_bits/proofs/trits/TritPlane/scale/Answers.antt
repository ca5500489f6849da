use Rattle.std.proofs.Common.{◌≡◌, List, ℕ, ap, ap₂, subst, sym, ◌∙◌, arith, lit<}
use Rattle.axe_layer.specs.Bits.{bits}
use Rattle.axe_bits.specs.Trits.{trits, HoldLayers}
use Rattle.axe_lane.proofs.ByteLaws.{multiple_by_zero}
use Rattle.axe_layer.proofs.BitLaws.{zeros}
use Rattle.axe_bits.proofs.TritHalves.{half_trits, halves_long, halves_wide, half_trits-written, half_trits-zeros, HalvesHold-written, HalvesHold-zeros, HoldLayers-split, trits-split}
use Rattle.axe_bits.proofs.TritWords.{exchanged}
use Rattle.axe_bits.proofs.TritZeros.{trits_by_one, trits_by_two}
use Rattle.axe_bits.proofs.trits.TritPlane.scale.Goals as goal

pub invariant_of-self : goal.invariant_of-self
invariant_of-self c =
    rw (c.fill.ensures.items (λ y e. e))
    (HalvesHold-zeros c.self.inside.len _ c.self.invariant.ones_held.counted
    (c.self.inside.words.ok.0 ∙ halves_wide _ _ c.self.invariant))

pub returns-in-0 : goal.returns-in-0
returns-in-0 c =
    ap (half_trits c.self.inside.len) (c.fill.ensures.items (λ y e. e))
    ∙ half_trits-zeros c.self.inside.len _ c.self.invariant.ones_held.counted
    (c.self.inside.words.ok.0 ∙ halves_wide _ _ c.self.invariant)
    ∙ ap zeros (sym (halves_long _ _ _ c.self.view_is)) ∙ multiple_by_zero 3 c.args.factor c.in-0.is (lit< tt) c.args.self.now

pub returns-in-1 : goal.returns-in-1
returns-in-1 c = trits_by_one _ _ _ c.self.invariant.together c.self.view_is c.args.factor c.in-1.is

-- two layers that were exchanged
exchanged_to : (n : ℕ) (a b v w : List ℕ) → HoldLayers n a b → v ≡ b → w ≡ a → HoldLayers n v w
exchanged_to n a b v w held left right =
    subst (λ (l : List ℕ). HoldLayers n l w) (sym left) (subst (HoldLayers n b) (sym right) (exchanged n a b held))

pub invariant_of-self-in_default : goal.invariant_of-self-in_default
invariant_of-self-in_default c =
    let n = c.self.inside.len in
    let cut = c.split_at_mut-ones.ensures in
    let held = HoldLayers-split n _ _ _ _ _ _ c.self.invariant c.self.view_is c.deref_mut.ensures.value
    (c.len-width.ensures ∙ c.self.inside.words.ok.0) cut.front cut.back in
    HalvesHold-written n _ _ (exchanged_to n _ _ _ _ held c.swap_with_slice.ensures.after c.swap_with_slice.ensures.other_after)
    _ _ c.self.inside.words.ok.0 (halves_wide n _ c.self.invariant)

pub returns-in_default : goal.returns-in_default
returns-in_default c =
    let n = c.self.inside.len in
    let cut = c.split_at_mut-ones.ensures in
    let swapped = c.swap_with_slice.ensures in
    let counted = c.len-width.ensures ∙ c.self.inside.words.ok.0 in
    let held = HoldLayers-split n _ _ _ _ _ _ c.self.invariant c.self.view_is c.deref_mut.ensures.value counted cut.front cut.back in
    let digits = trits-split n _ _ _ _ _ _ c.self.invariant c.self.view_is c.deref_mut.ensures.value counted cut.front cut.back in
    let two : c.args.factor ≡ 2 = omega (arith, c.in_default, c.requires) in
    half_trits-written n _ _ (exchanged_to n _ _ _ _ held swapped.after swapped.other_after)
    _ _ c.self.inside.words.ok.0 (halves_wide n _ c.self.invariant)
    ∙ ap₂ (λ (v w : List ℕ). trits (bits n v) (bits n w)) swapped.after swapped.other_after
    ∙ trits_by_two _ _ _ held.together digits c.args.factor two
