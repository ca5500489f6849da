-- Matrices of the values of linear forms.
use Rattle.std.specs.Prelude.{ℕ, List, map}
use Rattle.axe_field.specs.Forms.{prime_order, form_value}
use Rattle.axe_matrix.specs.Matrices.{MatrixValue}

-- the matrix over the prime field of the values of a linear form at a matrix's entries
abbrev pub matrix_of_values : List ℕ → MatrixValue → MatrixValue
matrix_of_values form m =
    record { order = prime_order m.order; cols = m.cols; rows = map (map (form_value m.order form)) m.rows }
