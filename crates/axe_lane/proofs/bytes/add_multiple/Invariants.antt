use Rattle.std.proofs.Common.{◌≡◌, ◌+◌, ◌*◌, ◌%◌}
use Rattle.axe_lane.proofs.Progress.{combined_to}
use Rattle.axe_lane.proofs.bytes.add_multiple.Given as goal

abbrev pub invariant-loop-block : goal.invariant-loop-block
invariant-loop-block g l = l.dst ≡ combined_to (λ x y. (x + l.m * y) % g.row.P) (l.block * 32) l.fn.dst l.src
