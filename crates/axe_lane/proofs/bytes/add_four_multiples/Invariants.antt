use Rattle.std.proofs.Common.{◌≡◌, ◌*◌}
use Rattle.axe_lane.proofs.FiveRows.{plus}
use Rattle.axe_lane.proofs.FourMultiples.{multiples}
use Rattle.axe_lane.proofs.Progress.{combined_to}
use Rattle.axe_lane.proofs.bytes.add_four_multiples.Given as goal

abbrev pub invariant-loop-block : goal.invariant-loop-block
invariant-loop-block g l = l.dst ≡ combined_to (plus g.row.P) (l.block * 32) l.fn.dst (multiples g.row.P l.factors l.a l.b l.c l.d)
