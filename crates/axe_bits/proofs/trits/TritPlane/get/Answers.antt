use Rattle.std.proofs.Common.{◌<◌, length, sym, arith}
use Rattle.std.proofs.lemmas.List.{get_or_past}
use Rattle.axe_layer.specs.Bits.{bits}
use Rattle.axe_layer.proofs.BitLaws.{get_or-bits}
use Rattle.axe_bits.proofs.TritHalves.{halves_long}
use Rattle.axe_bits.proofs.TritPlaneLaws.{trits_at}
use Rattle.axe_bits.proofs.trits.TritPlane.get.Goals as goal

pub returns-then-index-self : goal.returns-then-index-self
returns-then-index-self c =
    sym (get_or_past c.args.self.now c.args.index 0 (omega (arith, c.if-index-self.true, halves_long _ _ _ c.self.view_is)))

pub bit_in-requires : goal.bit_in-requires
bit_in-requires c =
    omega (arith, c.if-index-self.false, halves_long _ _ _ c.self.view_is, c.layers.ensures.holds.ones_held.long)

pub bit_in-requires-2 : goal.bit_in-requires-2
bit_in-requires-2 c =
    omega (arith, c.if-index-self.false, halves_long _ _ _ c.self.view_is, c.layers.ensures.holds.twos_held.long)

pub returns : goal.returns
returns c =
    let n = length c.args.self.now in
    let ones = c.layers.result.0.now in
    let twos = c.layers.result.1.now in
    let inside : c.args.index < n = omega (arith, c.if-index-self.false, halves_long _ _ _ c.self.view_is) in
    omega (
      arith,
      c.bit_in.ensures.bit,
      c.bit_in-2.ensures.bit,
      get_or-bits n ones c.args.index inside,
      get_or-bits n twos c.args.index inside,
      trits_at (bits n ones) (bits n twos) c.args.self.now c.layers.ensures.holds.together c.layers.ensures.digits c.args.index,
    )
