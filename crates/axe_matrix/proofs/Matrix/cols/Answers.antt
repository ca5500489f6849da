use Rattle.std.proofs.Common.{ap}
use Rattle.axe_matrix.specs.Matrices.{MatrixValue}
use Rattle.axe_matrix.proofs.Matrix.cols.Goals as goal

pub returns-clause-count : goal.returns-clause-count
returns-clause-count c = ap (λ (m : MatrixValue). m.cols) c.self.view_is
