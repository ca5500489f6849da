use Rattle.axe_layer.proofs.LaneBits.{each_in_lanes}
use Rattle.axe_layer.proofs.lanes.bits_in_lanes.Goals as goal

pub returns : goal.returns
returns c = each_in_lanes c.args.word
