-- Blocks of matrices that are lists of rows: each word is that of the theory, said of the lists' matrices.
use Rattle.std.specs.Prelude.{ℕ, List, length}
use Rattle.axe_algebra.specs.NumberField.{NumberField}
use Rattle.axe_algebra.specs.Bridge.{field_of, matrix_of}
use Rattle.axe_algebra.specs.Blocks
use Rattle.axe_algebra.specs.Lists.{IsSquareOver}

-- the matrix, square with as many rows as the sizes add up to, is block lower triangular for these sizes
pub record IsBlockLowerTriangular (K : NumberField) (sizes : List ℕ) (matrix : List (List ℕ)) : Type 0 where
  pub square : IsSquareOver K (Blocks.block_start sizes (length sizes)) matrix
  pub triangular : Blocks.IsBlockLowerTriangular (field_of K) sizes (matrix_of K matrix)

-- `diagonal` is the diagonal block of this number of the square matrix
pub record IsDiagonalBlock (K : NumberField) (sizes : List ℕ) (block : ℕ)
    (matrix diagonal : List (List ℕ)) : Type 0 where
  pub square : IsSquareOver K (Blocks.block_start sizes (length sizes)) matrix
  pub diagonal_square : IsSquareOver K (Blocks.block_size sizes block) diagonal
  pub block_is : Blocks.IsDiagonalBlock (field_of K) sizes block (matrix_of K matrix) (matrix_of K diagonal)
