use Rattle.std.proofs.Common.{◌≡◌, List, ℕ, ◌^◌, subst, arith, All, MatchOption}
use Rattle.axe_lane.specs.Entries.{IsFirstNonzero}
use Rattle.axe_lane.specs.Words.{HasNoSetBitBefore, IsFirstSetBit}
use Rattle.axe_layer.proofs.ZeroDigits.{first_of_bits}
use Rattle.axe_bits.proofs.bits.BitPlane.first_nonzero.Goals as goal

pub returns : goal.returns
returns c =
    subst (λ (digits : List ℕ). MatchOption c.first_set.result (All (λ digit. digit ≡ 0) digits) (IsFirstNonzero digits)) c.self.view_is
    (first_of_bits c.first_set.result _ (2 ^ 64) _ c.self.invariant
    (omega (arith, c.self.invariant.long, c.self.invariant.counted))
    (subst (λ (words : List ℕ). MatchOption c.first_set.result (HasNoSetBitBefore words (2 ^ 64)) (IsFirstSetBit words)) c.deref.ensures.value c.first_set.ensures))
