use Rattle.std.proofs.Common.{length, ◌∙◌, arith}
use Rattle.axe_layer.specs.Bits.{bits}
use Rattle.axe_layer.proofs.DigitWords.{digits_of_part}
use Rattle.axe_bits.proofs.TritPlaneLaws.{layers_part, trits_part}
use Rattle.axe_bits.proofs.TritHalves.{half_trits-made, HalvesHold-made}
use Rattle.axe_bits.proofs.trits.TritPlane.part.Goals as goal

pub fill_with_part-requires-clause-within : goal.fill_with_part-requires-clause-within
fill_with_part-requires-clause-within c = omega (arith, c.requires, c.layers.ensures.holds.ones_held.long)

pub fill_with_part-requires-clause-counted : goal.fill_with_part-requires-clause-counted
fill_with_part-requires-clause-counted c = omega (arith, c.requires, c.layers.ensures.holds.ones_held.counted)

pub fill_with_part-requires-2-clause-within : goal.fill_with_part-requires-2-clause-within
fill_with_part-requires-2-clause-within c = omega (arith, c.requires, c.layers.ensures.holds.twos_held.long)

pub fill_with_part-requires-2-clause-counted : goal.fill_with_part-requires-2-clause-counted
fill_with_part-requires-2-clause-counted c = omega (arith, c.requires, c.layers.ensures.holds.twos_held.counted)

pub invariant_of-result : goal.invariant_of-result
invariant_of-result c =
    let n = length c.args.self.now in
    let a = c.layers.result.0.now in
    let b = c.layers.result.1.now in
    let first = c.fill_with_part.ensures in
    let second = c.fill_with_part-2.ensures in
    HalvesHold-made c.args.len _ _ _ _ _ _ first.holds second.holds
    (first.digits ∙ digits_of_part n a c.args.start c.args.len c.requires)
    (second.digits ∙ digits_of_part n b c.args.start c.args.len c.requires)
    (layers_part (bits n a) (bits n b) c.args.start c.args.len c.layers.ensures.holds.together) c.in_ok-words.words.ok.0
    (omega (arith, c.in_ok-words.words.ok.0, c.in_ok-words.ensures.len, c.div_ceil-width.ensures))

pub returns : goal.returns
returns c =
    let n = length c.args.self.now in
    let a = c.layers.result.0.now in
    let b = c.layers.result.1.now in
    let first = c.fill_with_part.ensures in
    let second = c.fill_with_part-2.ensures in
    half_trits-made c.args.len _ _ _ _ _ _ first.holds second.holds
    (first.digits ∙ digits_of_part n a c.args.start c.args.len c.requires)
    (second.digits ∙ digits_of_part n b c.args.start c.args.len c.requires)
    (layers_part (bits n a) (bits n b) c.args.start c.args.len c.layers.ensures.holds.together) c.in_ok-words.words.ok.0
    (omega (arith, c.in_ok-words.words.ok.0, c.in_ok-words.ensures.len, c.div_ceil-width.ensures))
    ∙ trits_part (bits n a) (bits n b) c.args.self.now c.args.start c.args.len c.layers.ensures.holds.together c.layers.ensures.digits
