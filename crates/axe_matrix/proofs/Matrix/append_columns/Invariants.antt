use Rattle.std.proofs.Common.{◌+◌}
use Rattle.axe_matrix.proofs.StripLaws.{IsColumnsMatrix}
use Rattle.axe_matrix.proofs.Matrix.append_columns.Given as goal

abbrev pub invariant-loop-index : goal.invariant-loop-index
invariant-loop-index l = IsColumnsMatrix (l.start + l.index) l.matrix l.self
