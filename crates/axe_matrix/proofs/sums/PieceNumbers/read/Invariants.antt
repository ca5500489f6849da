use Rattle.axe_matrix.proofs.PieceLaws.{ArePieceNumbersBelow}
use Rattle.axe_matrix.proofs.sums.PieceNumbers.read.Given as goal

abbrev pub invariant-loop-index : goal.invariant-loop-index
invariant-loop-index l = ArePieceNumbersBelow l.index l.a l.size l.at l.rows.items
