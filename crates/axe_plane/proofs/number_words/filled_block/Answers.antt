use Rattle.axe_lane.proofs.MaskLaws.{filled_with_zeros}
use Rattle.axe_plane.proofs.number_words.filled_block.Goals as goal

pub returns-clause-first : goal.returns-clause-first
returns-clause-first c i low = filled_with_zeros 64 c.args.bytes.now _ i c.copy_from_slice.ensures.after low
