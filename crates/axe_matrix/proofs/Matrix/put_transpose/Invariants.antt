use Rattle.axe_matrix.proofs.TransposedBlocks.{IsTransposedBelow}
use Rattle.axe_matrix.proofs.Matrix.put_transpose.Given as goal

abbrev pub invariant-loop-power : goal.invariant-loop-power
invariant-loop-power l = IsTransposedBelow l.power l.matrix l.self
