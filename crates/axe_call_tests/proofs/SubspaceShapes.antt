-- Subspaces into which rows of a matrix were inserted.
use Rattle.std.proofs.Common.{◌≡◌}
use Rattle.axe_matrix.specs.Matrices.{MatrixValue}
use Rattle.axe_echelon.specs.Echelons.{EchelonValue}

-- the space is over the field of the matrix, and its vectors are as long as the matrix's rows
pub record HasShapeOf (m : MatrixValue) (space : EchelonValue) : Type 0 where
  pub field : space.order ≡ m.order
  pub columns : space.cols ≡ m.cols
