use Rattle.std.proofs.Common.{◌≡◌, ◌+◌, ◌*◌}
use Rattle.axe_lane.specs.Bytes.{less_where_not_below, sum_of_multiples}
use Rattle.axe_lane.proofs.Progress.{combined_to}
use Rattle.axe_lane.proofs.sums.add_four_multiples.Given as goal

abbrev pub invariant-loop-block : goal.invariant-loop-block
invariant-loop-block g l =
    l.dst ≡ combined_to (λ y s. less_where_not_below (16 * g.row.P) (less_where_not_below (16 * g.row.P) (y + s)))
    (l.block * 32) l.fn.dst (sum_of_multiples l.factors l.a l.b l.c l.d)
