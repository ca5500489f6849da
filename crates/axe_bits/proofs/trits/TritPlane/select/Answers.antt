use Rattle.std.proofs.Common.{length, refl, ◌∙◌, arith}
use Rattle.axe_layer.specs.Bits.{bits}
use Rattle.axe_layer.proofs.BitLaws.{length-bits}
use Rattle.axe_layer.proofs.DigitWords.{digits_gathered}
use Rattle.axe_bits.proofs.TritPlaneLaws.{layers_selected, trits_selected}
use Rattle.axe_bits.proofs.TritHalves.{half_trits-made, HalvesHold-made}
use Rattle.axe_bits.proofs.trits.TritPlane.select.Goals as goal

pub fill_with_selected-requires-clause-within : goal.fill_with_selected-requires-clause-within
fill_with_selected-requires-clause-within c = λ k d inside.
    omega (arith, c.requires.within k d inside, c.layers.ensures.holds.ones_held.long)

pub fill_with_selected-requires-2-clause-within : goal.fill_with_selected-requires-2-clause-within
fill_with_selected-requires-2-clause-within c = λ k d inside.
    omega (arith, c.requires.within k d inside, c.layers.ensures.holds.twos_held.long)

pub invariant_of-result : goal.invariant_of-result
invariant_of-result c =
    let n = length c.args.self.now in
    let a = c.layers.result.0.now in
    let b = c.layers.result.1.now in
    let indices = c.args.indices.now in
    let first = c.fill_with_selected.ensures in
    let second = c.fill_with_selected-2.ensures in
    HalvesHold-made (length indices) _ _ _ _ _ _ first.holds second.holds
    (first.digits ∙ digits_gathered n a (bits n a) indices refl (λ k d inside. omega (arith, c.requires.within k d inside, length-bits n a)))
    (second.digits ∙ digits_gathered n b (bits n b) indices refl (λ k d inside. omega (arith, c.requires.within k d inside, length-bits n b)))
    (layers_selected (bits n a) (bits n b) indices c.layers.ensures.holds.together) c.in_ok-words.words.ok.0
    (omega (arith, c.in_ok-words.words.ok.0, c.in_ok-words.ensures.len, c.div_ceil-width.ensures))

pub returns : goal.returns
returns c =
    let n = length c.args.self.now in
    let a = c.layers.result.0.now in
    let b = c.layers.result.1.now in
    let indices = c.args.indices.now in
    let first = c.fill_with_selected.ensures in
    let second = c.fill_with_selected-2.ensures in
    half_trits-made (length indices) _ _ _ _ _ _ first.holds second.holds
    (first.digits ∙ digits_gathered n a (bits n a) indices refl (λ k d inside. omega (arith, c.requires.within k d inside, length-bits n a)))
    (second.digits ∙ digits_gathered n b (bits n b) indices refl (λ k d inside. omega (arith, c.requires.within k d inside, length-bits n b)))
    (layers_selected (bits n a) (bits n b) indices c.layers.ensures.holds.together) c.in_ok-words.words.ok.0
    (omega (arith, c.in_ok-words.words.ok.0, c.in_ok-words.ensures.len, c.div_ceil-width.ensures))
    ∙ trits_selected (bits n a) (bits n b) c.args.self.now indices c.layers.ensures.holds.together c.layers.ensures.digits
