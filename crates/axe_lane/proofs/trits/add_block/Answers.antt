use Rattle.axe_lane.proofs.TritSums.{block_of_sum}
use Rattle.axe_lane.proofs.trits.add_block.Goals as goal

pub returns : goal.returns
returns c =
    block_of_sum 4 c.args.at c.args.ones.now c.args.twos.now c.args.more_ones.now c.args.more_twos.now c.requires.ones_has_block
    c.requires.twos_has_block c.requires.more_ones_has_block c.requires.more_twos_has_block
