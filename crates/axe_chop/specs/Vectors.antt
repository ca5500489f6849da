-- Unit vectors as the rows of a matrix.
use Rattle.std.specs.Prelude.{ℕ, List, map}
use Rattle.axe_algebra.specs.Lists.{unit_row}
use Rattle.axe_field.specs.Order.{Order}
use Rattle.axe_matrix.specs.Matrices.{MatrixValue}

-- the matrix with the unit vectors of these columns as its rows, in their order
abbrev pub matrix_of_unit_vectors : Order → ℕ → List ℕ → MatrixValue
matrix_of_unit_vectors order dim columns = record { order = order; cols = dim; rows = map (unit_row dim) columns }
