-- The basis of a null space is a reduced basis, so its points can be taken.
use Rattle.std.proofs.Common.{sym, subst, Option, Some, None, Result, Ok, Err}
use Rattle.std.specs.Prelude.{IfOk}
use Rattle.axe_algebra.specs.SpansOfLists.{IsReducedBasis}
use Rattle.axe_field.specs.NumberFields.{number_field}
use Rattle.axe_row.specs.Refusals.{Answers}
use Rattle.axe_row.specs.declared.refusals.Refusal.{Refusal}
use Rattle.axe_matrix.specs.Matrices.{MatrixValue}
use Rattle.axe_echelon.specs.Echelons.{IsNullSpaceMatrix}
use Rattle.axe_word.specs.PointsOfMatrix.{IsReduced}

pub null_is_reduced : (matrix null : MatrixValue) → IsNullSpaceMatrix matrix null → IsReduced null
null_is_reduced matrix null is = subst (λ o. IsReducedBasis (number_field o) null.rows null.rows) (sym is.field) is.basis_of_null_space.reduced

-- the same of a null space that was answered
pub reduced_if_answered : (m : MatrixValue) (why : Option Refusal) (result : Result MatrixValue Refusal) → Answers why (IsNullSpaceMatrix m) result → IfOk result IsReduced
reduced_if_answered m None (Ok basis) is = null_is_reduced m basis is
reduced_if_answered m None (Err refusal) is = tt
reduced_if_answered m (Some refusal) (Ok basis) is = absurd (cc)
reduced_if_answered m (Some refusal) (Err other) is = tt
