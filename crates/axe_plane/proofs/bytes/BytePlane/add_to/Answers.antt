use Rattle.std.proofs.Common.{length, arith, ap}
use Rattle.axe_layer.proofs.NumberSums.{added_all}
use Rattle.std.proofs.lemmas.Grind.{common_steps}
use Rattle.axe_plane.proofs.bytes.BytePlane.add_to.Goals as goal

pub returns : goal.returns
returns c =
    added_all _ _ _ _ _ c.loop-at.invariant
    (omega (arith, c.loop-at-test.false, c.len-at-end.ensures, ap (λ s. length s.digits) c.self.view_is))

pub loop-at-preserved : goal.loop-at-preserved
loop-at-preserved c = grind (arith, common_steps)

pub overflow_add-numbers : goal.overflow_add-numbers
overflow_add-numbers c = grind (arith, common_steps)
