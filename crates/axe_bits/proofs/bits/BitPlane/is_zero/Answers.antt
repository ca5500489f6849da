use Rattle.std.proofs.Common.{◌≡◌, ◌↔◌, IsTrue, List, ℕ, not, subst, All}
use Rattle.axe_lane.specs.Entries.{HasNonzero}
use Rattle.axe_layer.proofs.ZeroDigits.{zero_bits}
use Rattle.axe_bits.proofs.bits.BitPlane.is_zero.Goals as goal

pub returns : goal.returns
returns c =
    subst (λ (digits : List ℕ). IsTrue (not c.any_nonzero.result) ↔ All (λ digit. digit ≡ 0) digits) c.self.view_is
    (zero_bits c.any_nonzero.result _ _ c.self.invariant
    (subst (λ (words : List ℕ). IsTrue c.any_nonzero.result ↔ HasNonzero words) c.deref.ensures.value c.any_nonzero.ensures))
