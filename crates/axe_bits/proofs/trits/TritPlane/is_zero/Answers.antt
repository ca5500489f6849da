use Rattle.std.proofs.Common.{◌↔◌, IsTrue, List, ℕ, subst}
use Rattle.axe_lane.specs.Entries.{HasNonzero}
use Rattle.axe_bits.proofs.TritHalves.{zero_halves}
use Rattle.axe_bits.proofs.trits.TritPlane.is_zero.Goals as goal

pub returns : goal.returns
returns c =
    zero_halves c.any_nonzero.result _ _ _ c.self.invariant c.self.view_is
    (subst (λ (words : List ℕ). IsTrue c.any_nonzero.result ↔ HasNonzero words) c.deref.ensures.value c.any_nonzero.ensures)
