-- By what null vectors of the value of a word are seen to generate everything: the dot products of vectors that they
-- generate with the null vectors of the transpose (after Norton's criterion: Parker 1984; Holt and Rees 1994).
use Rattle.std.specs.Prelude.{◌≡◌, ℕ, ◌<◌, List, map, length}
use Rattle.axe_algebra.specs.Vectors.{transposed, times}
use Rattle.axe_algebra.specs.Modules.{InGenerated}
use Rattle.axe_algebra.specs.Bridge.{vector_of, matrix_of, module_of}
use Rattle.axe_algebra.specs.Lists.{IsVectorOver}
use Rattle.axe_algebra.specs.ListArithmetic.{combination}
use Rattle.axe_field.specs.NumberFields.{number_field, gf}
use Rattle.axe_row.specs.Rows.{RowValue}
use Rattle.axe_matrix.specs.Matrices.{MatrixValue, IsMatrix, transposed_matrix, vector_product}
use Rattle.axe_echelon.specs.Echelons.{IsNullSpaceMatrix}
use Rattle.axe_spin.specs.Modules.{ModuleValue}
use Rattle.axe_word.specs.PointsOfMatrix.{points_of}
use Rattle.axe_norton.specs.Spaces.{point_of}
use Rattle.axe_norton.specs.Searches.{IsTestedWord}

-- the rows of the two matrices are the reduced bases of the null spaces of the value of a word, which is singular, and
-- of its transpose
pub record AreNullSpaces (m : ModuleValue) (basis others : MatrixValue) : Type 0 where
  pub matrix : MatrixValue
  pub tested : IsTestedWord m (record { matrix = matrix; null_space = basis })
  pub some_row : 0 < length basis.rows
  pub of_transpose : IsNullSpaceMatrix (transposed_matrix matrix) others
  pub well_formed : IsMatrix others

-- the vector u is in what the vector v generates
abbrev pub GeneratesVector : ModuleValue → List ℕ → List ℕ → Type 0
GeneratesVector m v u =
    InGenerated (gf m.order) (module_of (number_field m.order) m.dim m.generators) 1
    (λ i. vector_of (number_field m.order) v) (vector_of (number_field m.order) u)

-- y has the dot products of a vector, the image, that v generates with the rows of the matrix
pub record IsPaired (m : ModuleValue) (others : MatrixValue) (v y : List ℕ) : Type 0 where
  pub image : List ℕ
  pub generated : GeneratesVector m v image
  pub products : vector_of (number_field m.order) y ≡
      times (gf m.order) m.dim (vector_of (number_field m.order) image)
      (transposed (gf m.order) (matrix_of (number_field m.order) others.rows))

-- the combination of the rows of the pairing with coordinates over the basis has the dot products of a vector that the
-- combination of the basis generates with the rows of the other matrix
pub record IsPairing (m : ModuleValue) (basis others pairing : MatrixValue) : Type 0 where
  pub field : pairing.order ≡ m.order
  pub columns : pairing.cols ≡ length others.rows
  pub count : length pairing.rows ≡ length basis.rows
  pub paired : (c : List ℕ) → IsVectorOver (number_field m.order) (length basis.rows) c →
      IsPaired m others (combination (number_field m.order) m.dim c basis.rows)
      (combination (number_field m.order) (length others.rows) c pairing.rows)

-- the matrix is over the row's field, and takes rows as long as this one to rows of so many entries
pub record TakesTo (c : RowValue) (columns : ℕ) (matrix : MatrixValue) : Type 0 where
  pub field : matrix.order ≡ c.order
  pub columns_are : matrix.cols ≡ columns
  pub count : length matrix.rows ≡ length c.entries

-- the row times each of the matrices
abbrev pub combinations : RowValue → List MatrixValue → List (List ℕ)
combinations c matrices = map (λ (matrix : MatrixValue). (vector_product c matrix).entries) matrices

-- the row has the coordinates over the basis of a point of the basis's span
pub record AreCoordinatesOfPoint (m : ModuleValue) (basis : MatrixValue) (c : RowValue) : Type 0 where
  pub field : c.order ≡ m.order
  pub over : IsVectorOver (number_field m.order) (length basis.rows) c.entries
  pub number : ℕ
  pub below : number < length (points_of basis)
  pub combine : (vector_product c basis).entries ≡ point_of basis number
