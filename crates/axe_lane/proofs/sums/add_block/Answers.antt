use Rattle.std.proofs.Common.{◌*◌, ◌<◌, ap}
use Rattle.std.specs.Simd.Lanes.{put_chunk}
use Rattle.std.proofs.lemmas.List.Elements.{All-take, All-drop}
use Rattle.axe_lane.proofs.sums.add_block.Goals as goal

pub sum_of-sum-requires-clause-d_below : goal.sum_of-sum-requires-clause-d_below
sum_of-sum-requires-clause-d_below g c =
    All-take (λ x. x < 16 * g.row.P) 32 _ (All-drop (λ x. x < 16 * g.row.P) c.args.at c.args.dst.now c.requires.dst_below)

pub sum_of-sum-requires-clause-s_below : goal.sum_of-sum-requires-clause-s_below
sum_of-sum-requires-clause-s_below g c =
    All-take (λ x. x < g.row.P) 32 _ (All-drop (λ x. x < g.row.P) c.args.at c.args.src.now c.requires.src_below)

pub returns : goal.returns
returns g c = ap (put_chunk c.args.at c.args.dst.now) c.sum_of-sum.ensures
