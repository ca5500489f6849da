use Rattle.std.proofs.Common.{◌≡◌, ◌+◌, ◌*◌}
use Rattle.axe_lane.specs.Bytes.{less_where_not_below}
use Rattle.axe_lane.proofs.Progress.{combined_to}
use Rattle.axe_lane.proofs.sums.add_multiple.Given as goal

abbrev pub invariant-loop-block : goal.invariant-loop-block
invariant-loop-block g l =
    l.dst ≡ combined_to (λ d s. less_where_not_below (16 * g.row.P) (d + l.m * s)) (l.block * 32) l.fn.dst l.src
