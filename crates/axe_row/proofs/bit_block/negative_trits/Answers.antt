use Rattle.std.proofs.Common.{slice_index}
use Rattle.axe_row.proofs.TritBlockLaws.{digit_of_negative}
use Rattle.axe_row.proofs.bit_block.negative_trits.Goals as goal

pub returns : goal.returns
returns c i low = digit_of_negative (slice_index c.args.words 0) (slice_index c.args.words 1) i
