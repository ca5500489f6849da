use Rattle.std.proofs.Common.{◌≡◌}
use Rattle.axe_lane.proofs.FiveRows.{four, wrapped}
use Rattle.axe_lane.proofs.Progress.{combined_to}
use Rattle.axe_lane.proofs.sums.add4_one_by_one.Given as goal

abbrev pub invariant-loop-at : goal.invariant-loop-at
invariant-loop-at l = l.dst ≡ combined_to wrapped l.at l.fn.dst (four wrapped l.a l.b l.c l.d)
