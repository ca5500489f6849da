use Rattle.std.proofs.Common.{◌≡◌, ◌+◌, ◌*◌, ◌/◌, arith, ◌∙◌, ap}
use Rattle.axe_bits.proofs.TritHalves.{half_trits, half_trits-zeros, HalvesHold-zeros}
use Rattle.axe_bits.proofs.trits.TritPlane.zero.Goals as goal

pub invariant_of-result : goal.invariant_of-result
invariant_of-result c =
    let twice : 2 * c.div_ceil.result ≡ 2 * ((c.args.len + 63) / 64) = omega (arith, c.div_ceil.ensures) in
    rw (c.in_ok-words.ensures.items_if_clones_equal (λ y e. e)) (HalvesHold-zeros c.args.len _ c.ranges.len.fits twice)

pub returns : goal.returns
returns c =
    let twice : 2 * c.div_ceil.result ≡ 2 * ((c.args.len + 63) / 64) = omega (arith, c.div_ceil.ensures) in
    ap (half_trits c.args.len) (c.in_ok-words.ensures.items_if_clones_equal (λ y e. e))
    ∙ half_trits-zeros c.args.len _ c.ranges.len.fits twice
