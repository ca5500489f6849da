use Rattle.std.proofs.Common.{◌∙◌, ap, sym, length, subst}
use Rattle.axe_lane.specs.Bytes.{AreDigits}
use Rattle.axe_layer.proofs.BitLaws.{length-bits, AreDigits-bits}
use Rattle.axe_bits.proofs.bits.BitPlane.len.Goals as goal

pub returns-clause-count : goal.returns-clause-count
returns-clause-count c = sym (length-bits c.self.inside.len c.self.inside.words.items) ∙ ap length c.self.view_is

pub returns-clause-digits : goal.returns-clause-digits
returns-clause-digits c = subst (AreDigits 2) c.self.view_is (AreDigits-bits c.self.inside.len c.self.inside.words.items)
