use Rattle.std.proofs.Common.{subst}
use Rattle.axe_matrix.specs.Matrices.{MatrixValue, IsMatrix}
use Rattle.axe_matrix.specs.RowLists.{AreRowsOf}
use Rattle.axe_matrix.proofs.ReversedRows.{rows_of}
use Rattle.axe_matrix.proofs.Matrix.into_rows.Goals as goal

pub returns-clause-rows : goal.returns-clause-rows
returns-clause-rows c =
    subst (λ (m : MatrixValue). AreRowsOf m c.self.inside.rows.items) c.self.view_is
    (rows_of c.self.inside.field c.self.inside.cols c.self.inside.rows.items c.self.invariant)

pub returns-clause-well_formed : goal.returns-clause-well_formed
returns-clause-well_formed c = subst IsMatrix c.self.view_is c.self.invariant.matrix
