use Rattle.std.proofs.Common.{◌≡◌, ◌+◌, List, ℕ, subst, arith, All}
use Rattle.axe_lane.specs.Entries.{IsFirstNonzero, AreZerosFrom, IsNextNonzero}
use Rattle.axe_plane.specs.Primes.{ByteDigits}
use Rattle.axe_layer.proofs.NextDigits.{from_index, next_after, none_after}
use Rattle.axe_plane.proofs.bytes.BytePlane.next_nonzero.Goals as goal

pub returns-in-Some : goal.returns-in-Some
returns-in-Some c =
    subst (λ (s : ByteDigits). IsNextNonzero s.digits c.args.start (c.args.start + c.in-Some.index)) c.self.view_is
    (next_after c.self.inside.bytes.items c.args.start c.in-Some.index (omega arith)
    (subst (λ (rest : List ℕ). IsFirstNonzero rest c.in-Some.index) (from_index _ _ c.args.start c.deref.ensures.value) c.in-Some.ensures))

pub returns-in-None : goal.returns-in-None
returns-in-None c =
    subst (λ (s : ByteDigits). AreZerosFrom s.digits c.args.start) c.self.view_is
    (none_after c.self.inside.bytes.items c.args.start (subst (All (λ number. number ≡ 0)) (from_index _ _ c.args.start c.deref.ensures.value) c.in-None.ensures))
