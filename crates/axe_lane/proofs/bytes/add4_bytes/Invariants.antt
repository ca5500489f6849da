use Rattle.std.proofs.Common.{◌≡◌, ◌*◌}
use Rattle.axe_lane.proofs.FiveRows.{four, plus}
use Rattle.axe_lane.proofs.Progress.{combined_to}
use Rattle.axe_lane.proofs.bytes.add4_bytes.Given as goal

abbrev pub invariant-loop-block : goal.invariant-loop-block
invariant-loop-block l = l.dst ≡ combined_to (plus l.p) (l.block * 32) l.fn.dst (four (plus l.p) l.a l.b l.c l.d)
