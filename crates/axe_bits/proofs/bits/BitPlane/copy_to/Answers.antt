use Rattle.std.proofs.Common.{length, ap, ◌∙◌, arith}
use Rattle.axe_layer.specs.Bits.{bits}
use Rattle.axe_layer.proofs.BitLaws.{plane_long}
use Rattle.axe_bits.proofs.bits.BitPlane.copy_to.Goals as goal

pub copy_digits-requires : goal.copy_digits-requires
copy_digits-requires c =
    omega (arith, c.requires, plane_long _ _ _ c.self.view_is, c.self.invariant.long, ap length c.deref.ensures.value)

pub returns : goal.returns
returns c =
    c.copy_digits.ensures ∙ ap (λ n. bits n c.deref.result.now) (c.requires ∙ plane_long _ _ _ c.self.view_is)
    ∙ ap (bits c.self.inside.len) c.deref.ensures.value ∙ c.self.view_is
