-- The rows that spinning gives are determined.
use Rattle.std.specs.Prelude.{◌≡◌, ℕ, ◌<◌, [], length, get_or, Bool, true, false}
use Rattle.axe_algebra.specs.NumberField.{NumberField}
use Rattle.axe_algebra.specs.Modules.{InGenerated}
use Rattle.axe_algebra.specs.Bridge.{field_of, matrix_of, module_of}
use Rattle.axe_algebra.proofs.ListReduced.{space_basis_list_is_unique}
use Rattle.axe_algebra.proofs.ListStandard.{standard_basis_list_is_unique}
use Rattle.axe_field.specs.NumberFields.{number_field}
use Rattle.axe_matrix.specs.Matrices.{MatrixValue, IsMatrix, row_of}
use Rattle.axe_matrix.proofs.MatrixLaws.{same_matrix}
use Rattle.axe_echelon.proofs.OneMatrix.{over_of}
use Rattle.axe_spin.specs.Modules.{ModuleValue}
use Rattle.axe_spin.specs.Spinning.{IsStandardMatrix, IsFirstNonzeroRow, HasSpunRows}
use mathlib.Core.Path.{sym, ◌∙◌, subst}
use native.Mathlib.Omega.{arith}
use native.Mathlib.Decide.{dec_lt}

-- a matrix has one first row that is not zero
pub first_nonzero_row_is_one : (m : MatrixValue) (i j : ℕ) → IsFirstNonzeroRow m i → IsFirstNonzeroRow m j → i ≡ j
first_nonzero_row_is_one m i j first second = cases (dec_lt i j) (dec_lt j i)
  where
    cases : Dec (i < j) → Dec (j < i) → i ≡ j
    cases (yes before) other = absurd (first.nonzero (second.zeros_before i before))
    cases (no late) (yes before) = absurd (second.nonzero (first.zeros_before j before))
    cases (no late) (no early) = omega arith

pub spun_matrix_is_one : (standard : Bool) (m : ModuleValue) (seed a b : MatrixValue) → HasSpunRows standard m seed a × IsMatrix a →
    HasSpunRows standard m seed b × IsMatrix b → a ≡ b
spun_matrix_is_one false m seed a b (first, of_a) (second, of_b) =
    same_matrix a b (first.field ∙ sym second.field) (first.columns ∙ sym second.columns)
    (space_basis_list_is_unique K (InGenerated (field_of K) (module_of K m.dim m.generators) (length seed.rows) (matrix_of K seed.rows)) m.dim a.rows b.rows
    (over_of a m.order m.dim of_a first.field first.columns) (over_of b m.order m.dim of_b second.field second.columns)
    first.basis_of_generated second.basis_of_generated)
  where
    K : NumberField
    K = number_field m.order
spun_matrix_is_one true m seed a b ((i, first, of_first), of_a) ((j, second, of_second), of_b) =
    same_matrix a b (of_first.field ∙ sym of_second.field) (of_first.columns ∙ sym of_second.columns)
    (standard_basis_list_is_unique K m.dim m.generators (get_or seed.rows i []) a.rows b.rows
    (over_of a m.order m.dim of_a of_first.field of_first.columns) (over_of b m.order m.dim of_b of_second.field of_second.columns)
    of_first.standard again.standard)
  where
    K : NumberField
    K = number_field m.order

    again : IsStandardMatrix m (row_of seed i) b
    again = subst (λ t. IsStandardMatrix m (row_of seed t) b) (first_nonzero_row_is_one seed j i second first) of_second
