use Rattle.std.proofs.Common.{slice_index}
use Rattle.axe_row.proofs.TritBlockLaws.{digit_of_sum}
use Rattle.axe_row.proofs.bit_block.sum_of_trits.Goals as goal

pub returns : goal.returns
returns c i low =
    digit_of_sum (slice_index c.args.first 0) (slice_index c.args.first 1) (slice_index c.args.second 0) (slice_index c.args.second 1) i
