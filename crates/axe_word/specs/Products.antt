-- Products of generators of a module.
use Rattle.std.specs.Prelude.{◌≡◌, ℕ, List}
use Rattle.axe_algebra.specs.Lists.{IsSquareOver}
use Rattle.axe_algebra.specs.Bridge.{field_of, matrix_of, module_of}
use Rattle.axe_algebra.specs.Modules.{path_product}
use Rattle.axe_field.specs.NumberFields.{number_field}
use Rattle.axe_matrix.specs.Matrices.{MatrixValue}
use Rattle.axe_spin.specs.Modules.{ModuleValue}

-- the square matrix is the product of the generators with these numbers from left to right (Parker 1984)
pub record IsProductOf (m : ModuleValue) (numbers : List ℕ) (x : MatrixValue) : Type 0 where
  pub field : x.order ≡ m.order
  pub columns : x.cols ≡ m.dim
  pub square : IsSquareOver (number_field m.order) m.dim x.rows
  pub product : let K = number_field m.order in
      matrix_of K x.rows ≡ path_product (field_of K) (module_of K m.dim m.generators) numbers
