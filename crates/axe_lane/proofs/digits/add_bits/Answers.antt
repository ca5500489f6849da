use Rattle.axe_lane.proofs.SpreadLaws.{added_at}
use Rattle.axe_lane.proofs.digits.add_bits.Goals as goal

pub returns-clause-sums : goal.returns-clause-sums
returns-clause-sums c i low = added_at c.args.bytes.now c.to_le_bytes.result c.args.word c.args.factor i c.requires c.to_le_bytes.ensures low
