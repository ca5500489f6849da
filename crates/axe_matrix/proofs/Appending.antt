-- Matrices to which the rows of another are appended, one after the other.
use Rattle.std.proofs.Common.{◌≡◌, ℕ, ◌++◌, take}
use Rattle.axe_matrix.specs.Matrices.{MatrixValue}

-- the first rows of the other are appended
pub record AreAppended (old rows : MatrixValue) (index : ℕ) (now : MatrixValue) : Type 0 where
  pub is : now ≡ record { order = old.order; cols = old.cols; rows = old.rows ++ take index rows.rows }
