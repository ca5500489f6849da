use Rattle.std.proofs.Common.{◌-◌}
use Rattle.axe_matrix.proofs.PieceLaws.{AreBlockNumbersBelow}
use Rattle.axe_matrix.proofs.sums.block_numbers.Given as goal

abbrev pub invariant-loop-column : goal.invariant-loop-column
invariant-loop-column l = AreBlockNumbersBelow l.column l.a l.size l.blocks.items

abbrev pub decreases-loop-column : goal.decreases-loop-column
decreases-loop-column l = l.a.cols - l.column
