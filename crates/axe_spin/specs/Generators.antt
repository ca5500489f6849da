-- The generators of a module as matrices that know their field.
use Rattle.std.specs.Prelude.{◌≡◌, ℕ, List, length, All}
use Rattle.axe_field.specs.Order.{Order}
use Rattle.axe_matrix.specs.Matrices.{MatrixValue, IsMatrix}
use Rattle.axe_spin.specs.Modules.{IsModule, rows_of_each}

-- a square matrix over the field with so many rows
pub record IsGeneratorMatrix (order : Order) (dim : ℕ) (m : MatrixValue) : Type 0 where
  pub field : m.order ≡ order
  pub columns : m.cols ≡ dim
  pub rows : length m.rows ≡ dim
  pub well_formed : IsMatrix m

-- the matrices are such, and the generators of a module
pub record MakeModule (order : Order) (dim : ℕ) (matrices : List MatrixValue) : Type 0 where
  pub each : All (IsGeneratorMatrix order dim) matrices
  pub well_formed : IsModule (record { order = order; dim = dim; generators = rows_of_each matrices })
