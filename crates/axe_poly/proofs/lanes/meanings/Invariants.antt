use Rattle.std.proofs.Common.{◌≡◌, ◌<◌, ℕ, length, get_or}
use Rattle.axe_poly.specs.Lanes.{meaning}
use Rattle.axe_poly.proofs.lanes.meanings.Given as goal

abbrev pub invariant-loop-lane : goal.invariant-loop-lane
invariant-loop-lane l = record {
  long : length l.meanings ≡ 512;
  each : (x : ℕ) → x < l.lane → get_or l.meanings x 0 ≡ meaning l.field x;
}
