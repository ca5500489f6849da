use Rattle.std.proofs.Common.{◌≡◌, ◌*◌, bit_xor}
use Rattle.axe_lane.specs.Words.{masked_sum_of_two}
use Rattle.axe_lane.proofs.Progress.{combined_to}
use Rattle.axe_lane.proofs.words.xor_masked_into_two.Given as goal

abbrev pub invariant-loop-pair : goal.invariant-loop-pair
invariant-loop-pair l =
    (l.first ≡ combined_to bit_xor (l.pair * 2) l.fn.first (masked_sum_of_two l.to_first l.a l.b))
    × (l.second ≡ combined_to bit_xor (l.pair * 2) l.fn.second (masked_sum_of_two l.to_second l.a l.b))
