use Rattle.std.proofs.Common.{◌≡◌, ◌%◌}
use Rattle.axe_lane.proofs.Progress.{combined_to}
use Rattle.axe_lane.proofs.sums.reduce_one_by_one.Given as goal

abbrev pub invariant-loop-at : goal.invariant-loop-at
invariant-loop-at l = l.bytes ≡ combined_to (λ x y. x % l.p) l.at l.fn.bytes l.fn.bytes
