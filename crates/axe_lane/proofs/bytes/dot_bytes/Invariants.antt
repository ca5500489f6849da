use Rattle.std.proofs.Common.{◌≡◌, ◌*◌, take}
use Rattle.std.specs.Simd.Lanes.{products, sum_l}
use Rattle.axe_lane.proofs.bytes.dot_bytes.Given as goal

abbrev pub invariant-loop-block : goal.invariant-loop-block
invariant-loop-block l = sum_l l.sums ≡ sum_l (take (l.block * 16) (products l.a l.b))

abbrev pub invariant-loop-at : goal.invariant-loop-at
invariant-loop-at l = l.sum ≡ sum_l (take l.at (products l.a l.b))
