-- The tested matrix of a module, the null spaces of it and of its transpose, and their points, over the module's field.
use Rattle.std.specs.Prelude.{◌≡◌, ℕ, ◌<◌, List, length}
use Rattle.axe_algebra.specs.Bridge.{matrix_of}
use Rattle.axe_algebra.specs.Lists.{IsMatrixOver, IsSquareOver}
use Rattle.axe_algebra.specs.ListArithmetic.{transpose}
use Rattle.axe_algebra.specs.SpansOfLists.{IsIndependent, IsNullSpaceBasis}
use Rattle.axe_algebra.specs.PointTheorems.{IsNonzeroSpanned}
use Rattle.axe_algebra.proofs.ReducedBases.{reduced_independent}
use Rattle.axe_algebra.proofs.NortonLists.{transpose_square}
use Rattle.axe_field.specs.Order.{Order}
use Rattle.axe_field.specs.NumberFields.{number_field, gf}
use Rattle.axe_matrix.specs.Matrices.{MatrixValue, IsMatrix, transposed_matrix}
use Rattle.axe_echelon.specs.Echelons.{IsNullSpaceMatrix}
use Rattle.axe_echelon.proofs.InverseLaws.{matrix_over}
use Rattle.axe_poly.specs.Polys.{PolyValue, IsValueAt}
use Rattle.axe_spin.specs.Modules.{ModuleValue}
use Rattle.axe_word.specs.Words.{WordValue, IsValueOf}
use Rattle.axe_word.specs.declared.tested.Tested.{Tested}
use Rattle.axe_word.specs.Tested.{IsTested, IsTestedBy}
use Rattle.axe_word.specs.PointsOfMatrix.{points_of}
use Rattle.axe_word.proofs.ReducedNullSpaces.{null_is_reduced}
use Rattle.axe_word.proofs.TestedLaws.{poly_value_field, poly_value_columns, poly_value_over}
use Rattle.axe_norton.specs.Spaces.{point_of}
use Rattle.axe_norton.specs.Searches.{IsReducedIn, IsSquareIn}
use Rattle.axe_norton.proofs.PointLaws.{point_is}
use mathlib.Core.Path.{sym, ◌∙◌, subst}

-- the rows of a square matrix and the reduced basis of its null space, over a field
pub record IsNullSpaceOver (o : Order) (n : ℕ) (matrix : List (List ℕ)) (null : MatrixValue) : Type 0 where
  pub field : null.order ≡ o
  pub columns : null.cols ≡ n
  pub square : IsSquareOver (number_field o) n matrix
  pub over : IsMatrixOver (number_field o) n null.rows
  pub basis : IsNullSpaceBasis (number_field o) matrix null.rows

pub null_space_over : (o : Order) (n : ℕ) (matrix null : MatrixValue) → matrix.order ≡ o → IsSquareOver (number_field o) n matrix.rows →
    IsNullSpaceMatrix matrix null → IsMatrix null → IsNullSpaceOver o n matrix.rows null
null_space_over o n matrix null field square is well_formed =
    let same_field : null.order ≡ o = is.field ∙ field in
    let same_columns : null.cols ≡ n = is.columns ∙ square.length_is in
    record {
      field = same_field;
      columns = same_columns;
      square = square;
      over = subst (λ k. IsMatrixOver (number_field o) k null.rows) same_columns
          (subst (λ p. IsMatrixOver (number_field p) null.cols null.rows) same_field (matrix_over null well_formed));
      basis = subst (λ p. IsNullSpaceBasis (number_field p) matrix.rows null.rows) field is.basis_of_null_space;
    }

-- the value of a word is square
pub value_square : (m : ModuleValue) (word : WordValue) (matrix : MatrixValue) → IsValueOf m word matrix → IsSquareIn m matrix
value_square m word matrix is_value = record { field = is_value.field; columns = is_value.columns; square = is_value.value.square }

-- and so is that of a polynomial at the value of a word
pub poly_value_square : (m : ModuleValue) (word : WordValue) (p : PolyValue) (x matrix : MatrixValue) → IsValueOf m word x →
    IsValueAt p.coefficients x matrix → IsSquareIn m matrix
poly_value_square m word p x matrix is_value is_value_at = record {
  field = poly_value_field m word p x matrix is_value is_value_at;
  columns = poly_value_columns m word p x matrix is_value is_value_at;
  square = poly_value_over m word p x matrix is_value is_value_at;
}

-- the null space of a square matrix is a space of vectors of the module
pub null_in_module : (m : ModuleValue) (matrix null : MatrixValue) → IsSquareIn m matrix → IsNullSpaceMatrix matrix null → IsReducedIn m null
null_in_module m matrix null square is = record {
  field = is.field ∙ square.field;
  columns = is.columns ∙ square.square.length_is;
  reduced = null_is_reduced matrix null is;
}

-- that of a tested matrix
pub tested_over : (m : ModuleValue) (t : Tested) → IsSquareIn m t.matrix → IsTested t → IsNullSpaceOver m.order m.dim t.matrix.rows t.null_space
tested_over m t square is = null_space_over m.order m.dim t.matrix t.null_space square.field square.square is.null_space is.well_formed

-- that of the value of a word
pub value_over : (m : ModuleValue) (word : WordValue) (t : Tested) → IsTestedBy m word t → IsNullSpaceOver m.order m.dim t.matrix.rows t.null_space
value_over m word t is = tested_over m t (value_square m word t.matrix is.value) is.tested

-- that of its transpose
pub transposed_square : (o : Order) (n : ℕ) (rows : List (List ℕ)) → IsSquareOver (number_field o) n rows → IsSquareOver (number_field o) n (transpose n rows)
transposed_square o n rows square = transpose_square (number_field o) n rows square

pub transposed_over : (m : ModuleValue) (matrix null : MatrixValue) → IsSquareIn m matrix →
    IsNullSpaceMatrix (transposed_matrix matrix) null → IsMatrix null → IsNullSpaceOver m.order m.dim (transpose m.dim matrix.rows) null
transposed_over m matrix null square is well_formed =
    subst (λ k. IsNullSpaceOver m.order m.dim (transpose k matrix.rows) null) square.columns
    (null_space_over m.order m.dim (transposed_matrix matrix) null square.field
    (subst (λ k. IsSquareOver (number_field m.order) m.dim (transpose k matrix.rows)) (sym square.columns)
    (transposed_square m.order m.dim matrix.rows square.square)) is well_formed)

pub independent_null : (o : Order) (n : ℕ) (matrix : List (List ℕ)) (null : MatrixValue) → IsNullSpaceOver o n matrix null → IsIndependent (number_field o) null.rows
independent_null o n matrix null is =
    reduced_independent (gf o) (length null.rows) (matrix_of (number_field o) null.rows) (length null.rows) (matrix_of (number_field o) null.rows) is.basis.reduced

-- the points of such a null space
pub null_point : (o : Order) (n : ℕ) (matrix : List (List ℕ)) (null : MatrixValue) → IsNullSpaceOver o n matrix null → (i : ℕ) →
    i < length (points_of null) → IsNonzeroSpanned (number_field o) n null.rows (point_of null i)
null_point o n matrix null is = point_is o n null is.field is.columns is.over (independent_null o n matrix null is)
