use Rattle.std.proofs.Common.{◌≡◌, ◌<◌, ℕ, length, get_or}
use Rattle.axe_poly.specs.Lanes.{lane_base, packed, term}
use Rattle.axe_poly.proofs.lanes.Lanes.scalings.Given as goal

abbrev pub invariant-loop-element : goal.invariant-loop-element
invariant-loop-element l = record {
  long : length l.scalings ≡ 9;
  each : (a : ℕ) → a < l.element →
      get_or l.scalings a 0 ≡ packed (lane_base l.field) (length l.divisor) (term l.field l.divisor a);
}
