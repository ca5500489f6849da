-- What the law functions on standard bases promise, of matrices over the seven fields (Parker 1984; Holt and Rees
-- 1994).
use Rattle.std.specs.Prelude.{◌≡◌, ◌≢◌, ℕ, ◌↔◌, List, length}
use Rattle.axe_algebra.specs.ModulesOfLists.{IsSubAction, IsIsomorphism}
use Rattle.axe_field.specs.Order.{IsElement}
use Rattle.axe_field.specs.NumberFields.{number_field}
use Rattle.axe_row.specs.Rows.{RowValue, IsRow}
use Rattle.axe_row.specs.Operations.{multiple_row}
use Rattle.axe_matrix.specs.Matrices.{MatrixValue, IsMatrix, matrix_product, vector_product}
use Rattle.axe_spin.specs.Modules.{ModuleValue, IsModule}
use Rattle.axe_spin.specs.Spinning.{IsStandardMatrix}

-- the row is a vector of the module: over its field, with as many entries as its dimension
pub record IsVectorOf (m : ModuleValue) (v : RowValue) : Type 0 where
  pub field : v.order ≡ m.order
  pub fits : length v.entries ≡ m.dim
  pub well_formed : IsRow v

-- the modules are over one field and of one dimension, and the square matrix t is an isomorphism from n's generators g'
-- to m's generators g: it is invertible, and t g' = g t for each generator (Holt and Rees 1994)
pub record IsIsomorphismMatrix (m n : ModuleValue) (t : MatrixValue) : Type 0 where
  pub one_field : n.order ≡ m.order
  pub one_dimension : n.dim ≡ m.dim
  pub field : t.order ≡ m.order
  pub columns : t.cols ≡ m.dim
  pub isomorphism : IsIsomorphism (number_field m.order) m.dim m.generators n.generators t.rows

-- an isomorphism carries the standard basis of v to that of its image
abbrev pub IsomorphismCarriesStandardBasis : Type 0
IsomorphismCarriesStandardBasis =
    (m n : ModuleValue) (t : MatrixValue) (v : RowValue) (basis : MatrixValue) → IsModule m →
    IsIsomorphismMatrix m n t → IsVectorOf m v → IsMatrix basis → IsStandardMatrix m v basis →
    IsStandardMatrix n (vector_product v t) (matrix_product basis t)

-- the matrices are the sub action of the module on the rows of a matrix
abbrev pub IsActionOn : ModuleValue → MatrixValue → List (List (List ℕ)) → Type 0
IsActionOn m rows matrices = IsSubAction (number_field m.order) m.dim m.generators rows.rows matrices

-- a nonzero multiple of v has the same standard matrices: the sub actions on the standard bases are the same
abbrev pub MultipleHasTheSameStandardMatrices : Type 0
MultipleHasTheSameStandardMatrices =
    (m : ModuleValue) (c : ℕ) (v : RowValue) (basis other : MatrixValue) (matrices : List (List (List ℕ))) →
    IsModule m → IsElement m.order c → c ≢ 0 → IsVectorOf m v →
    IsStandardMatrix m v basis → IsStandardMatrix m (multiple_row c v) other →
    IsActionOn m basis matrices ↔ IsActionOn m other matrices
