-- Multiples of a matrix, and a matrix plus a multiple of another.
use Rattle.std.specs.Prelude.{ℕ, List, length}
use Rattle.axe_algebra.specs.NumberField.{NumberField}
use Rattle.axe_algebra.specs.Lists.{entry, table}
use Rattle.axe_field.specs.NumberFields.{number_field}
use Rattle.axe_matrix.specs.Matrices.{MatrixValue}

-- the rows of so many columns of a plus c times b: entry i, j is a[i][j] + c b[i][j] (any linear algebra text)
unfoldable pub rows_with_multiple : NumberField → ℕ → List (List ℕ) → ℕ → List (List ℕ) → List (List ℕ)
rows_with_multiple K columns a c b = table (length a) columns (λ i j. K.add (entry a i j) (K.mul c (entry b i j)))

-- the matrix a plus c times the matrix b of its shape
abbrev pub matrix_with_multiple : MatrixValue → ℕ → MatrixValue → MatrixValue
matrix_with_multiple a c b =
    record { order = a.order; cols = a.cols; rows = rows_with_multiple (number_field a.order) a.cols a.rows c b.rows }

-- the rows of so many columns of c times a: entry i, j is c a[i][j] (any linear algebra text)
unfoldable pub rows_multiple : NumberField → ℕ → ℕ → List (List ℕ) → List (List ℕ)
rows_multiple K columns c a = table (length a) columns (λ i j. K.mul c (entry a i j))

-- c times the matrix a
abbrev pub matrix_multiple : ℕ → MatrixValue → MatrixValue
matrix_multiple c a =
    record { order = a.order; cols = a.cols; rows = rows_multiple (number_field a.order) a.cols c a.rows }
