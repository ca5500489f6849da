-- Matrices that are tested: a matrix with rows has a null space, which is not refused. So have the value of a word, and
-- that of a polynomial there.
use Rattle.std.specs.Prelude.{◌≡◌, ◌<◌, length, None, Result}
use Rattle.std.proofs.lemmas.Bool.{ne_eqb}
use Rattle.axe_algebra.specs.Lists.{IsSquareOver}
use Rattle.axe_polynomial_algebra.specs.PolynomialsOfLists.{IsPolynomialValue}
use Rattle.axe_field.specs.NumberFields.{number_field}
use Rattle.axe_row.specs.Refusals.{Answers}
use Rattle.axe_row.specs.declared.refusals.Refusal.{Refusal}
use Rattle.axe_matrix.specs.Matrices.{MatrixValue, IsMatrix}
use Rattle.axe_echelon.specs.Echelons.{IsNullSpaceMatrix, null_space_refusal}
use Rattle.axe_echelon.proofs.Exits.{answers_more}
use Rattle.axe_poly.specs.Polys.{PolyValue, IsValueAt}
use Rattle.axe_spin.specs.Modules.{ModuleValue}
use Rattle.axe_word.specs.declared.tested.Tested.{Tested}
use Rattle.axe_word.specs.Words.{WordValue, IsValueOf}
use Rattle.axe_word.specs.Tested.{IsTested, IsTestedBy, IsTestedByPoly}
use mathlib.Core.Path.{sym, ◌∙◌, subst}
use native.Mathlib.Omega.{arith}

-- the null space of a matrix with rows is not refused
pub null_accepted : (matrix : MatrixValue) (result : Result MatrixValue Refusal) → 0 < length matrix.rows →
    Answers (null_space_refusal matrix) (IsNullSpaceMatrix matrix) result → Answers None (IsNullSpaceMatrix matrix) result
null_accepted matrix result some answer = rw (ne_eqb (length matrix.rows) 0 (λ none. omega (arith, none))) at answer

-- ---- the value of a word

-- it has rows
pub value_rows : (m : ModuleValue) (word : WordValue) (x : MatrixValue) → IsMatrix x → IsValueOf m word x → 0 < length x.rows
value_rows m word x formed is_value = omega (arith, is_value.value.square.length_is, is_value.columns, formed.some_column)

pub value_tested : (m : ModuleValue) (word : WordValue) (x : MatrixValue) (result : Result Tested Refusal) → IsValueOf m word x →
    Answers None (λ t. (t.matrix ≡ x) × IsTested t) result → Answers None (IsTestedBy m word) result
value_tested m word x result is_value answer =
    answers_more result (λ t. (t.matrix ≡ x) × IsTested t) (IsTestedBy m word) answer
    (λ t is. record { value = subst (IsValueOf m word) (sym is.0) is_value; tested = is.1 })

-- with its null space it is tested
pub tested_by : (m : ModuleValue) (word : WordValue) (x null : MatrixValue) → IsValueOf m word x → IsNullSpaceMatrix x null → IsMatrix null →
    IsTestedBy m word (record { matrix = x; null_space = null })
tested_by m word x null is_value is formed = record { value = is_value; tested = record { null_space = is; well_formed = formed } }

-- ---- the value of a polynomial p at the value x of a word, over the module's field

module _ (m : ModuleValue) (word : WordValue) (p : PolyValue) (x matrix : MatrixValue) (is_value : IsValueOf m word x)
    (is_value_at : IsValueAt p.coefficients x matrix) where
  pub poly_value : IsPolynomialValue (number_field m.order) p.coefficients x.rows matrix.rows
  poly_value = subst (λ o. IsPolynomialValue (number_field o) p.coefficients x.rows matrix.rows) is_value.field is_value_at.value_is

  pub poly_value_field : matrix.order ≡ m.order
  poly_value_field = is_value_at.field ∙ is_value.field

  pub poly_value_columns : matrix.cols ≡ m.dim
  poly_value_columns = is_value_at.columns ∙ is_value.columns

  pub poly_value_over : IsSquareOver (number_field m.order) m.dim matrix.rows
  poly_value_over = subst (λ n. IsSquareOver (number_field m.order) n matrix.rows) is_value.value.square.length_is poly_value.square

  pub poly_value_rows : IsMatrix matrix → 0 < length matrix.rows
  poly_value_rows formed = omega (arith, poly_value_over.length_is, poly_value_columns, formed.some_column)

  pub poly_value_tested : (result : Result Tested Refusal) → Answers None (λ t. (t.matrix ≡ matrix) × IsTested t) result →
      Answers None (IsTestedByPoly m word p) result
  poly_value_tested result answer =
      answers_more result (λ t. (t.matrix ≡ matrix) × IsTested t) (IsTestedByPoly m word p) answer
      (λ t is. record {
        argument = x;
        is_value = is_value;
        tested_at = record { value = subst (IsValueAt p.coefficients x) (sym is.0) is_value_at; tested = is.1 };
      })
