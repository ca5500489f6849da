use Rattle.std.proofs.Common.{◌≡◌, ◌-◌, ◌<◌, ℕ, length, get_or}
use Rattle.axe_field.specs.Arithmetic.{field_neg}
use Rattle.axe_poly.specs.Lanes.{lane_base, packed, term}
use Rattle.axe_poly.proofs.lanes.Lanes.multiples.Given as goal

abbrev pub invariant-loop-element : goal.invariant-loop-element
invariant-loop-element l = record {
  long : length l.multiples ≡ 9;
  each : (a : ℕ) → a < l.element →
      get_or l.multiples a 0
      ≡ packed (lane_base l.field) (length l.divisor - 1) (term l.field l.divisor (field_neg l.field a));
}
