use Rattle.std.proofs.Common.{◌≡◌, length, ap, sym, subst, ◌∙◌, arith}
use Rattle.axe_layer.specs.Bits.{bits}
use Rattle.axe_layer.specs.Digits.{AreSmallSums, numbers_with_multiple}
use Rattle.axe_layer.proofs.BitLaws.{plane_long}
use Rattle.axe_bits.proofs.bits.BitPlane.add_to.Goals as goal

pub add_digits-requires-clause-long : goal.add_digits-requires-clause-long
add_digits-requires-clause-long c = ap length c.deref.ensures.value ∙ c.self.invariant.long

pub add_digits-requires-clause-fits : goal.add_digits-requires-clause-fits
add_digits-requires-clause-fits c = omega (arith, c.requires.fits, plane_long _ _ _ c.self.view_is)

pub add_digits-requires-clause-small : goal.add_digits-requires-clause-small
add_digits-requires-clause-small c =
    let plane : bits c.self.inside.len c.deref.result.now ≡ c.args.self.now = rw c.deref.ensures.value c.self.view_is in
    subst (AreSmallSums c.args.numbers.now c.args.factor) (sym plane) c.requires.small

pub returns : goal.returns
returns c =
    let plane : bits c.self.inside.len c.deref.result.now ≡ c.args.self.now = rw c.deref.ensures.value c.self.view_is in
    c.add_digits.ensures ∙ ap (numbers_with_multiple c.args.numbers.now c.args.factor) plane
