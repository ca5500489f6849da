use Rattle.std.proofs.Common.{ap}
use Rattle.std.specs.Simd.Lanes.{put_chunk}
use Rattle.axe_lane.proofs.sums.add_four_to_block.Goals as goal

pub returns : goal.returns
returns g c = ap (put_chunk c.args.at c.args.dst.now) c.sum_with_four-sum.ensures
