use Rattle.axe_matrix.proofs.DiagonalLaws.{diagonal_row}
use Rattle.axe_matrix.proofs.RewrittenRows.{IsRewrittenBelow}
use Rattle.axe_matrix.proofs.Matrix.add_to_diagonal.Given as goal

abbrev pub invariant-loop-index : goal.invariant-loop-index
invariant-loop-index l = IsRewrittenBelow l.index l.fn.self (diagonal_row l.fn.self l.scalar) l.self
