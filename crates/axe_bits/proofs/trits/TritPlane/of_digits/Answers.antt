use Rattle.std.proofs.Common.{refl, ◌∙◌, arith}
use Rattle.axe_bits.proofs.TritPlaneLaws.{layers_of_digits, trits_of_digits}
use Rattle.axe_bits.proofs.TritHalves.{HalvesHold-made, half_trits-made}
use Rattle.axe_bits.proofs.trits.TritPlane.of_digits.Goals as goal

pub invariant_of-result : goal.invariant_of-result
invariant_of-result c =
    let first = c.fill_with_bits.ensures in
    let second = c.fill_with_bits-2.ensures in
    HalvesHold-made _ _ _ _ _ _ _ first.holds second.holds first.digits second.digits
    (layers_of_digits c.args.digits.now _ _ c.requires refl refl) c.in_ok-words.words.ok.0
    (omega (arith, c.in_ok-words.words.ok.0, c.in_ok-words.ensures.len, c.div_ceil-width.ensures))

pub returns : goal.returns
returns c =
    let first = c.fill_with_bits.ensures in
    let second = c.fill_with_bits-2.ensures in
    half_trits-made _ _ _ _ _ _ _ first.holds second.holds first.digits second.digits
    (layers_of_digits c.args.digits.now _ _ c.requires refl refl) c.in_ok-words.words.ok.0
    (omega (arith, c.in_ok-words.words.ok.0, c.in_ok-words.ensures.len, c.div_ceil-width.ensures))
    ∙ trits_of_digits c.args.digits.now _ _ c.requires refl refl
