use Rattle.axe_layer.proofs.LaneBits.{even_in_lanes}
use Rattle.axe_layer.proofs.lanes.even_bits_in_lanes.Goals as goal

pub returns : goal.returns
returns c = even_in_lanes c.args.word
