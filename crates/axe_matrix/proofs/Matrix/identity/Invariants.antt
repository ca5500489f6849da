use Rattle.axe_algebra.specs.Lists.{unit_row}
use Rattle.axe_matrix.proofs.PartialMatrices.{IsPartialMatrix}
use Rattle.axe_matrix.proofs.Matrix.identity.Given as goal

abbrev pub invariant-loop-index : goal.invariant-loop-index
invariant-loop-index l = IsPartialMatrix l.field l.rows (unit_row l.rows) l.index l.matrix
