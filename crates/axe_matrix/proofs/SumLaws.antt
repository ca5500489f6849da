-- Sums of matrices over the seven fields.
use Rattle.std.proofs.Common.{◌≡◌, ℕ, List, length, None, refl, ap}
use Rattle.std.proofs.lemmas.Bool.{eq-eqb}
use Rattle.axe_algebra.specs.Lists.{entry}
use Rattle.axe_algebra.specs.ListArithmetic.{matrix_sum}
use Rattle.axe_algebra.specs.NumberField.{NumberField}
use Rattle.axe_field.specs.Order.{order_number}
use Rattle.axe_field.specs.NumberFields.{number_field}
use Rattle.axe_matrix.specs.Matrices.{MatrixValue, IsMatrix, sum_refusal, sum_of_matrices}
use Rattle.axe_matrix.specs.Multiples.{rows_with_multiple, matrix_with_multiple}
use Rattle.axe_matrix.proofs.BlockLaws.{HasElements}
use Rattle.axe_matrix.proofs.BlockRows.{entries-below}
use Rattle.axe_matrix.proofs.ProductRows.{same_table}
use Rattle.axe_matrix.proofs.TermSums.{one-mul}

-- matrices over one field and of one shape have a sum
pub sum_refusal-none : (a b : MatrixValue) → order_number a.order ≡ order_number b.order → length a.rows ≡ length b.rows → a.cols ≡ b.cols → sum_refusal a b ≡ None
sum_refusal-none a b fields rows cols = rw (eq-eqb _ _ fields, eq-eqb _ _ rows, eq-eqb _ _ cols) refl

rows_with_one : (K : NumberField) (columns : ℕ) (a b : List (List ℕ)) → HasElements K b → rows_with_multiple K columns a 1 b ≡ matrix_sum K columns a b
unfolding rows_with_multiple matrix_sum
rows_with_one K columns a b over =
    same_table (length a) columns _ _ (λ i j _ _. ap (K.add (entry a i j)) (one-mul K (entry b i j) (over i j)))

-- a matrix plus 1 times another
pub matrix_with_one : (a b : MatrixValue) → IsMatrix b → b.order ≡ a.order → matrix_with_multiple a 1 b ≡ sum_of_matrices a b
matrix_with_one a b h field =
    ap (λ rows. record { order = a.order; cols = a.cols; rows = rows }) (rows_with_one (number_field a.order) a.cols a.rows b.rows (entries-below a.order b h field))
