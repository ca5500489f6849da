use Rattle.axe_matrix.proofs.MultipleLaws.{sum_row}
use Rattle.axe_matrix.proofs.RewrittenRows.{IsRewrittenBelow}
use Rattle.axe_matrix.proofs.Matrix.add_prime_multiple.Given as goal

abbrev pub invariant-loop-index : goal.invariant-loop-index
invariant-loop-index l = IsRewrittenBelow l.index l.fn.self (sum_row l.fn.self l.scalar l.other) l.self
