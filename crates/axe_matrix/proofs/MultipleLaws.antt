-- A matrix to which a multiple of another is added row by row.
use Rattle.std.proofs.Common.{◌≡◌, ℕ, ◌<◌, List, [], length, get_or, refl, sym, ap, ap₂, ◌∙◌, arith}
use Rattle.std.proofs.lemmas.List.{ext_get_or}
use Rattle.axe_algebra.specs.Lists.{entry, listed}
use Rattle.axe_algebra.proofs.ListEntries.{listed_length, listed_at}
use Rattle.axe_field.specs.NumberFields.{number_field}
use Rattle.axe_row.specs.Operations.{sum_with_multiple}
use Rattle.axe_matrix.specs.Matrices.{MatrixValue, IsMatrix}
use Rattle.axe_matrix.specs.Multiples.{rows_with_multiple, matrix_with_multiple}
use Rattle.axe_matrix.proofs.MatrixLaws.{same_matrix, length-row_of}

-- row i of the sum
abbrev pub sum_row : MatrixValue → ℕ → MatrixValue → ℕ → List ℕ
sum_row a c b i = sum_with_multiple (number_field a.order) (get_or a.rows i []) c (get_or b.rows i [])

-- the same from the rows of a matrix of which this one was not yet changed
pub sum_row-kept : (a : MatrixValue) (c : ℕ) (b m : MatrixValue) (i : ℕ) (row : List ℕ) → m.order ≡ a.order → get_or m.rows i [] ≡ get_or a.rows i [] →
    row ≡ get_or b.rows i [] → sum_with_multiple (number_field m.order) (get_or m.rows i []) c row ≡ sum_row a c b i
sum_row-kept a c b m i row order kept row_is =
    ap (λ o. sum_with_multiple (number_field o) (get_or m.rows i []) c row) order
    ∙ ap₂ (λ (x y : List ℕ). sum_with_multiple (number_field a.order) x c y) kept row_is

sum_row-at : (a : MatrixValue) (c : ℕ) (b : MatrixValue) (i : ℕ) → IsMatrix a → i < length a.rows →
    sum_row a c b i ≡ get_or (rows_with_multiple (number_field a.order) a.cols a.rows c b.rows) i []
unfolding sum_with_multiple rows_with_multiple
sum_row-at a c b i h below =
    ap (λ n. listed n (λ j. (number_field a.order).add (entry a.rows i j) ((number_field a.order).mul c (entry b.rows i j)))) (length-row_of a i h below)
    ∙ sym (listed_at (length a.rows) _ i [] below)

length-rows_with_multiple : (a : MatrixValue) (c : ℕ) (b : MatrixValue) → length (rows_with_multiple (number_field a.order) a.cols a.rows c b.rows) ≡ length a.rows
unfolding rows_with_multiple
length-rows_with_multiple a c b = listed_length (length a.rows) _

-- the sum by its rows
pub matrix_with_multiple-rows : (a : MatrixValue) (c : ℕ) (b : MatrixValue) → IsMatrix a →
    record { order = a.order; cols = a.cols; rows = listed (length a.rows) (sum_row a c b) } ≡ matrix_with_multiple a c b
matrix_with_multiple-rows a c b h =
    same_matrix (record { order = a.order; cols = a.cols; rows = listed (length a.rows) (sum_row a c b) }) (matrix_with_multiple a c b) refl refl
    (ext_get_or [] (listed (length a.rows) (sum_row a c b)) (matrix_with_multiple a c b).rows
    (listed_length (length a.rows) (sum_row a c b) ∙ sym (length-rows_with_multiple a c b))
    (λ i below. let inside : i < length a.rows = omega (arith, listed_length (length a.rows) (sum_row a c b)) in
    listed_at (length a.rows) (sum_row a c b) i [] inside ∙ sum_row-at a c b i h inside))
