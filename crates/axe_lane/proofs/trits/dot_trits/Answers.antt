use Rattle.std.proofs.Common.{arith}
use Rattle.axe_lane.proofs.TritDots.{trits_all, trits_more}
use Rattle.axe_lane.proofs.trits.dot_trits.Goals as goal

pub loop-at-preserved : goal.loop-at-preserved
loop-at-preserved c =
    trits_more c.args.ones.now c.args.twos.now c.args.other_ones.now c.args.other_twos.now c.requires.twos c.requires.other_ones
    c.requires.other_twos c.loop-at.at c.loop-at.sum (omega arith) c.loop-at.invariant

pub returns : goal.returns
returns c =
    trits_all c.args.ones.now c.args.twos.now c.args.other_ones.now c.args.other_twos.now c.requires.twos c.requires.other_ones
    c.requires.other_twos c.loop-at.at c.loop-at.sum (omega arith) c.loop-at.invariant
