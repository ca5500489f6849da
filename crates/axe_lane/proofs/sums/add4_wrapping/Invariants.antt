use Rattle.std.proofs.Common.{◌≡◌, ◌*◌}
use Rattle.axe_lane.proofs.FiveRows.{four, wrapped}
use Rattle.axe_lane.proofs.Progress.{combined_to}
use Rattle.axe_lane.proofs.sums.add4_wrapping.Given as goal

abbrev pub invariant-loop-block : goal.invariant-loop-block
invariant-loop-block l = l.dst ≡ combined_to wrapped (l.block * 32) l.fn.dst (four wrapped l.a l.b l.c l.d)
