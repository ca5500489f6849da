use Rattle.std.proofs.Common.{◌≡◌, ◌<◌, ℕ, length, get_or}
use Rattle.axe_poly.specs.Lanes.{code}
use Rattle.axe_poly.proofs.lanes.codes.Given as goal

abbrev pub invariant-loop-element : goal.invariant-loop-element
invariant-loop-element l = record {
  long : length l.codes ≡ 9;
  each : (a : ℕ) → a < l.element → get_or l.codes a 0 ≡ code l.field a;
}
