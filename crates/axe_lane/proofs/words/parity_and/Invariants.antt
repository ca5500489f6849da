use Rattle.std.proofs.Common.{◌≡◌, ◌*◌, ◌%◌, take, bit_and}
use Rattle.std.specs.Int.RustNames.{count_ones}
use Rattle.std.specs.Simd.Lanes.{sum_l, zip2}
use Rattle.axe_lane.proofs.SumLaws.{ones_of}
use Rattle.axe_lane.proofs.words.parity_and.Given as goal

abbrev pub invariant-loop-block : goal.invariant-loop-block
invariant-loop-block l = ones_of l.sums % 2 ≡ sum_l (take (l.block * 8) (zip2 (λ x y. count_ones (bit_and x y)) l.a l.b)) % 2

abbrev pub invariant-loop-at : goal.invariant-loop-at
invariant-loop-at l = count_ones l.sum % 2 ≡ sum_l (take l.at (zip2 (λ x y. count_ones (bit_and x y)) l.a l.b)) % 2
