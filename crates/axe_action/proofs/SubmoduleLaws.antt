-- What is known of submodules: the calls that test for them don't refuse them, and answer what is asked of them.
use Rattle.std.specs.Prelude.{◌≡◌, ℕ, ◌<◌, List, length, None, Result, Ok, Err, All}
use Rattle.axe_algebra.specs.Bridge.{matrix_of}
use Rattle.axe_algebra.specs.SpansOfLists.{IsIndependent, HaveSameSpan}
use Rattle.axe_algebra.proofs.Spanning.{span_row}
use Rattle.axe_field.specs.NumberFields.{number_field, gf}
use Rattle.axe_row.specs.Refusals.{Answers, AnswersOr}
use Rattle.axe_row.specs.declared.refusals.Refusal.{Refusal}
use Rattle.axe_matrix.specs.Matrices.{MatrixValue, IsMatrix, matrix_product, columns_at}
use Rattle.axe_matrix.proofs.ProductLaws.{IsMatrix-product}
use Rattle.axe_spin.specs.Modules.{ModuleValue, IsInvariantIn, SpansModule, rows_refusal}
use Rattle.axe_action.specs.Actions.{action_late, quotient_late, IsActionModulo, IsProperActionModulo}
use Rattle.axe_action.specs.Coordinates.{HasImagesIn, HasActionRows, AreCoordinateColumns}
use Rattle.axe_action.proofs.ColumnLaws.{AreImagesAt, action_if_combined, combined_if_within}
use Rattle.axe_action.proofs.EntryLaws.{product_at_columns}
use Rattle.axe_action.proofs.SubRows.{module_rows_over}
use Rattle.axe_action.proofs.QuotientSpans.{full_if_spans}
use mathlib.Core.Logic.{inl, inr}
use mathlib.Core.Path.{refl, ◌∙◌, subst}
use native.Mathlib.Omega.{arith}

-- rows whose span is invariant are not refused
pub invariant_answers : (m : ModuleValue) (rows : MatrixValue) (P : ModuleValue → Type 0) (result : Result ModuleValue Refusal) →
    IsInvariantIn m rows → AnswersOr None (λ action. IsInvariantIn m rows × P action) (action_late m rows) result → Answers None P result
invariant_answers m rows P (Ok action) invariant h = h.1
invariant_answers m rows P (Err refusal) invariant (inl memory) = memory
invariant_answers m rows P (Err refusal) invariant (inr stands) = absurd (stands.1 invariant)

-- rows times the entries of a generator at the columns of their coordinates are its action, where their images are in their span
pub at_columns_act : (rows g action : MatrixValue) (columns : List ℕ) → rows.order ≡ g.order → rows.cols ≡ g.cols → IsMatrix rows → IsMatrix g →
    AreCoordinateColumns (number_field rows.order) rows.cols rows.rows columns → HasImagesIn g rows.rows rows.rows →
    action ≡ matrix_product rows (columns_at columns g) → IsMatrix action → HasActionRows g rows.rows (length rows.rows) action
at_columns_act rows g action columns field fits rows_h g_h coordinates within is formed =
    action_if_combined g rows (matrix_product rows g) action columns are (combined_if_within g rows (matrix_product rows g) action columns are within)
  where
    are : AreImagesAt g rows (matrix_product rows g) action columns
    are = record {
      field = field;
      fits = fits;
      coordinates = coordinates;
      made = refl;
      images_well_formed = IsMatrix-product rows g rows_h g_h field;
      entries = is ∙ product_at_columns rows g columns (subst (λ n. All (λ column. column < n) columns) fits coordinates.within);
      well_formed = formed;
    }

-- fewer independent rows than the dimension don't span everything
pub not_everything : (m : ModuleValue) (rows : MatrixValue) → rows.order ≡ m.order → rows.cols ≡ m.dim → IsMatrix rows →
    IsIndependent (number_field rows.order) rows.rows → length rows.rows < m.dim → ¬ (SpansModule m rows)
not_everything m rows field fits rows_h independent small = λ all.
    omega (
      arith,
      small,
      full_if_spans (number_field m.order) m.dim rows.rows rows.rows (module_rows_over m rows rows_h field fits)
          (subst (λ o. IsIndependent (number_field o) rows.rows) field independent) same all,
    )
  where
    same : HaveSameSpan (number_field m.order) rows.rows rows.rows
    same = record {
      forth = span_row (gf m.order) (length rows.rows) (matrix_of (number_field m.order) rows.rows);
      back = span_row (gf m.order) (length rows.rows) (matrix_of (number_field m.order) rows.rows);
    }

-- a proper submodule is not refused by the call that tests for one
pub proper_answers : (m : ModuleValue) (rows : MatrixValue) (result : Result ModuleValue Refusal) → rows_refusal m rows ≡ None →
    ¬ (SpansModule m rows) → IsInvariantIn m rows → AnswersOr (rows_refusal m rows) (IsProperActionModulo m rows) (quotient_late m rows) result →
    Answers None (IsActionModulo m rows) result
proper_answers m rows result none proper invariant answer =
    at result (subst (λ why. AnswersOr why (IsProperActionModulo m rows) (quotient_late m rows) result) none answer)
  where
    at : (result : Result ModuleValue Refusal) → AnswersOr None (IsProperActionModulo m rows) (quotient_late m rows) result →
        Answers None (IsActionModulo m rows) result
    at (Ok action) h = h.2
    at (Err refusal) (inl memory) = memory
    at (Err refusal) (inr (inl whole)) = absurd (proper whole.1)
    at (Err refusal) (inr (inr moved)) = absurd (moved.1.1 invariant)
