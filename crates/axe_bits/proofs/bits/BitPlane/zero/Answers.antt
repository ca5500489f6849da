use Rattle.std.proofs.Common.{◌≡◌, ◌+◌, ◌/◌, arith, ◌∙◌, ap}
use Rattle.axe_layer.specs.Bits.{bits}
use Rattle.axe_layer.proofs.BitLaws.{bits-zeros, HoldsBits-zeros}
use Rattle.axe_bits.proofs.bits.BitPlane.zero.Goals as goal

pub invariant_of-result : goal.invariant_of-result
invariant_of-result c =
    let long : c.div_ceil.result ≡ (c.args.len + 63) / 64 = omega (arith, c.div_ceil.ensures) in
    rw (c.in_ok-words.ensures.items_if_clones_equal (λ y e. e)) (HoldsBits-zeros c.args.len c.div_ceil.result c.ranges.len.fits long)

pub returns : goal.returns
returns c = ap (bits c.args.len) (c.in_ok-words.ensures.items_if_clones_equal (λ y e. e)) ∙ bits-zeros c.args.len c.div_ceil.result
