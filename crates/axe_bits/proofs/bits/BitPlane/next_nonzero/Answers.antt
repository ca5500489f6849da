use Rattle.std.proofs.Common.{MatchOption, ◌≡◌, List, ℕ, length, ap, subst, arith}
use Rattle.axe_lane.specs.Entries.{AreZerosFrom, IsNextNonzero}
use Rattle.axe_layer.specs.Bits.{bits, HoldsBits}
use Rattle.axe_layer.proofs.BitLaws.{length-bits}
use Rattle.axe_layer.proofs.NextDigits.{next_of_all}
use Rattle.axe_bits.proofs.bits.BitPlane.next_nonzero.Goals as goal

pub next_in-requires-clause-within : goal.next_in-requires-clause-within
next_in-requires-clause-within c = omega (arith, c.self.invariant.long, ap length c.deref.ensures.value)

pub next_in-requires-clause-counted : goal.next_in-requires-clause-counted
next_in-requires-clause-counted c = omega (arith, c.self.invariant.long, c.self.invariant.counted, ap length c.deref.ensures.value)

pub returns : goal.returns
returns c =
    let held : HoldsBits c.self.inside.len c.deref.result.now = rw c.deref.ensures.value c.self.invariant in
    let plane : bits c.self.inside.len c.deref.result.now ≡ c.args.self.now = rw c.deref.ensures.value c.self.view_is in
    subst (λ (x : List ℕ). MatchOption c.next_in.result (AreZerosFrom x c.args.start) (IsNextNonzero x c.args.start)) plane
    (next_of_all _ c.args.start _ _ (length-bits c.self.inside.len c.deref.result.now) (c.next_in.ensures c.self.inside.len held))
