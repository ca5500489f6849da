use Rattle.std.proofs.Common.{◌∙◌, ap}
use Rattle.axe_layer.specs.Bits.{bits}
use Rattle.axe_bits.proofs.bits.BitPlane.copy.Goals as goal

pub invariant_of-result : goal.invariant_of-result
invariant_of-result c = rw (c.in_ok-words.ensures.items, c.deref.ensures.value) c.self.invariant

pub returns : goal.returns
returns c = ap (bits c.self.inside.len) (c.in_ok-words.ensures.items ∙ c.deref.ensures.value) ∙ c.self.view_is
