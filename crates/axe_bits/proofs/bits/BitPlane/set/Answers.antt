use Rattle.std.proofs.Common.{arith, sym}
use Rattle.std.proofs.lemmas.List.{set_past}
use Rattle.axe_layer.proofs.BitLaws.{plane_long}
use Rattle.axe_bits.proofs.bits.BitPlane.set.Goals as goal

pub returns-else-index-self : goal.returns-else-index-self
returns-else-index-self c =
    sym (set_past c.args.self.now c.args.index c.args.digit (omega (arith, plane_long _ _ _ c.self.view_is, c.if-index-self.false)))
