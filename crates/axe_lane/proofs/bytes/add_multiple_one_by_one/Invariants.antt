use Rattle.std.proofs.Common.{◌≡◌, ◌+◌, ◌*◌, ◌%◌}
use Rattle.axe_lane.proofs.Progress.{combined_to}
use Rattle.axe_lane.proofs.bytes.add_multiple_one_by_one.Given as goal

abbrev pub invariant-loop-at : goal.invariant-loop-at
invariant-loop-at g l = l.dst ≡ combined_to (λ x y. (x + l.m * y) % g.row.P) l.at l.fn.dst l.src
