use Rattle.std.proofs.Common.{◌≡◌, ◌*◌, bit_xor}
use Rattle.std.specs.Simd.Lanes.{zip2}
use Rattle.axe_lane.proofs.Progress.{combined_to, second}
use Rattle.axe_lane.proofs.words.put_xor.Given as goal

abbrev pub invariant-loop-block : goal.invariant-loop-block
invariant-loop-block l = l.dst ≡ combined_to second (l.block * 4) l.fn.dst (zip2 bit_xor l.a l.b)

abbrev pub invariant-loop-at : goal.invariant-loop-at
invariant-loop-at l = l.dst ≡ combined_to second l.at l.fn.dst (zip2 bit_xor l.a l.b)
