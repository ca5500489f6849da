use Rattle.std.proofs.Common.{◌-◌, length}
use Rattle.axe_poly.specs.Lanes.{IsWindow}
use Rattle.axe_poly.proofs.windows.remainder.Given as goal

abbrev pub invariant-loop-step : goal.invariant-loop-step
invariant-loop-step l =
    IsWindow l.field l.divisor l.dividend (length l.divisor - 1) (length l.dividend - l.step) l.word
