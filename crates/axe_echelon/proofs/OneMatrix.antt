-- A matrix has one null space matrix, and at most one inverse.
use Rattle.std.proofs.Common.{◌≡◌, sym, ◌∙◌, subst, ℕ, length}
use Rattle.axe_algebra.specs.Bridge.{field_of, matrix_of}
use Rattle.axe_algebra.specs.Lists.{IsMatrixOver, IsSquareOver}
use Rattle.axe_algebra.specs.NumberField.{NumberField}
use Rattle.axe_algebra.specs.Spans.{IsNullVector}
use Rattle.axe_algebra.proofs.SquareMatrices.{inverse_is_unique}
use Rattle.axe_algebra.proofs.ListEntries.{same_matrix}
use Rattle.axe_algebra.proofs.ListLaws.{inverse_of_lists}
use Rattle.axe_algebra.proofs.ListReduced.{space_basis_list_is_unique}
use Rattle.axe_field.specs.Order.{Order}
use Rattle.axe_field.specs.NumberFields.{number_field}
use Rattle.axe_matrix.specs.Matrices.{MatrixValue, IsMatrix}
use Rattle.axe_matrix.proofs.MatrixLaws
use Rattle.axe_reduction.specs.Solutions.{IsInverseMatrix}
use Rattle.axe_echelon.specs.Echelons.{IsNullSpaceMatrix}
use Rattle.axe_echelon.proofs.InverseLaws.{matrix_over}

-- a matrix as a list over a field and of so many columns that are its own
pub over_of : (a : MatrixValue) (o : Order) (n : ℕ) → IsMatrix a → a.order ≡ o → a.cols ≡ n → IsMatrixOver (number_field o) n a.rows
over_of a o n well orders columns =
    subst (λ m. IsMatrixOver (number_field o) m a.rows) columns (subst (λ order. IsMatrixOver (number_field order) a.cols a.rows) orders (matrix_over a well))

pub null_space_is_one : (m a b : MatrixValue) → IsNullSpaceMatrix m a × IsMatrix a → IsNullSpaceMatrix m b × IsMatrix b → a ≡ b
null_space_is_one m a b (first, of_a) (second, of_b) =
    MatrixLaws.same_matrix a b (first.field ∙ sym second.field) (first.columns ∙ sym second.columns)
    (space_basis_list_is_unique K (IsNullVector (field_of K) (length m.rows) (matrix_of K m.rows)) (length m.rows) a.rows b.rows
    (over_of a m.order (length m.rows) of_a first.field first.columns) (over_of b m.order (length m.rows) of_b second.field second.columns)
    first.basis_of_null_space second.basis_of_null_space)
  where
    K : NumberField
    K = number_field m.order

pub inverse_is_one : (m a b : MatrixValue) → IsMatrix m → length m.rows ≡ m.cols → IsInverseMatrix m a → IsInverseMatrix m b → a ≡ b
inverse_is_one m a b well square first second =
    MatrixLaws.same_matrix a b (first.field ∙ sym second.field) (first.columns ∙ sym second.columns)
    (same_matrix K m.cols a.rows b.rows (first.square.length_is ∙ sym second.square.length_is) first.square.matrix second.square.matrix
    (inverse_is_unique (field_of K) m.cols (matrix_of K m.rows) (matrix_of K a.rows) (matrix_of K b.rows)
    (inverse_of_lists K m.cols m.rows a.rows of_m first.square first.inverts) (inverse_of_lists K m.cols m.rows b.rows of_m second.square second.inverts)))
  where
    K : NumberField
    K = number_field m.order

    of_m : IsSquareOver K m.cols m.rows
    of_m = record { length_is = square; matrix = matrix_over m well }
