use Rattle.std.proofs.Common.{◌≡◌, ◌*◌, ◌%◌}
use Rattle.axe_lane.proofs.Progress.{combined_to}
use Rattle.axe_lane.proofs.bytes.scale.Given as goal

abbrev pub invariant-loop-block : goal.invariant-loop-block
invariant-loop-block g l = l.dst ≡ combined_to (λ x y. (l.m * x) % g.row.P) (l.block * 32) l.fn.dst l.fn.dst

abbrev pub invariant-loop-at : goal.invariant-loop-at
invariant-loop-at g l = l.dst ≡ combined_to (λ x y. (l.m * x) % g.row.P) l.at l.fn.dst l.fn.dst
