use Rattle.std.proofs.Common.{◌-◌}
use Rattle.axe_poly.specs.Sieve.{IsNumberOfLanes}
use Rattle.axe_poly.proofs.products.number_of_lanes.Given as goal

abbrev pub invariant-loop-step : goal.invariant-loop-step
invariant-loop-step l = IsNumberOfLanes l.field (l.count - l.step) l.step l.word l.number
