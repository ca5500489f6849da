-- The action on a span over its reduced basis, from that over the rows of this basis.
use Rattle.std.specs.Prelude.{◌≡◌, ℕ, ◌≤◌, List, [], ◌∷◌, length, false, Option, None, Result}
use Rattle.axe_algebra.specs.NumberField.{NumberField}
use Rattle.axe_algebra.specs.Field.{Field}
use Rattle.axe_algebra.specs.Vectors.{Matrix}
use Rattle.axe_algebra.specs.Spans
use Rattle.axe_algebra.specs.Modules.{Module, IsInvariant}
use Rattle.axe_algebra.specs.Bridge.{matrix_of, module_of}
use Rattle.axe_algebra.specs.Lists.{IsMatrixOver}
use Rattle.axe_algebra.specs.SpansOfLists.{IsIndependent, IsReducedBasis, HaveSameSpan}
use Rattle.axe_algebra.proofs.Spanning.{span_within, same_sym, same_trans}
use Rattle.axe_algebra.proofs.Generated.{invariant_span_is_set}
use Rattle.axe_algebra.proofs.ReducedBases.{reduced_spans, reduced_independent, reduced_of_same_span}
use Rattle.axe_algebra.proofs.ListEntries.{rows_length}
use Rattle.axe_field.specs.NumberFields.{number_field, gf}
use Rattle.axe_row.specs.declared.refusals.Refusal.{Refusal}
use Rattle.axe_row.specs.declared.refusals.Refusal.TheVariants.{ZeroSpace}
use Rattle.axe_matrix.specs.Matrices.{MatrixValue, IsMatrix, has_only_zeros}
use Rattle.axe_echelon.specs.Echelons.{EchelonValue, IsReducedMatrix, IsSpanOfRows}
use Rattle.axe_echelon.proofs.Exits.{answered_late}
use Rattle.axe_echelon.proofs.InverseLaws.{matrix_over}
use Rattle.axe_row.specs.Refusals.{AnswersOr}
use Rattle.axe_spin.specs.Modules.{ModuleValue, rows_refusal, IsInvariantIn}
use Rattle.axe_spin.proofs.ZeroRows.{some_basis_row}
use Rattle.axe_spin.proofs.SeedLaws.{vectors_of, none_of_both, zeros_refusal, some_nonzero_if_accepted}
use Rattle.axe_action.specs.Actions.{sub_action_refusal, action_late, IsActionOverRows, IsActionOnSpan}
use mathlib.Core.Path.{sym, ◌∙◌, subst}
use native.Mathlib.Omega.{arith}

-- spans that are the same are invariant together
pub same_invariant : (F : Field) (M : Module F) (k : ℕ) (v : Matrix F) (r : ℕ) (w : Matrix F) → Spans.SameSpan F k v r w → IsInvariant F M k v → IsInvariant F M r w
same_invariant F M k v r w same invariant = record {
  images = λ t i below inside. span_within F k v r w _ same.forth ((invariant_span_is_set F M k v invariant).images (w t) i (same.back t below) inside);
}

-- rows that are vectors of the module, and of which one is not zero
pub record AreSpaceRows (m : ModuleValue) (rows : MatrixValue) : Type 0 where
  pub field : rows.order ≡ m.order
  pub columns : rows.cols ≡ m.dim
  pub some : has_only_zeros rows.rows ≡ false

pub space_rows : (m : ModuleValue) (rows : MatrixValue) → sub_action_refusal m rows ≡ None → AreSpaceRows m rows
space_rows m rows none =
    let both = none_of_both (rows_refusal m rows) (zeros_refusal (has_only_zeros rows.rows) ZeroSpace) none in
    let vectors = vectors_of m rows both.0 in
    record { field = vectors.field; columns = vectors.columns; some = some_nonzero_if_accepted (has_only_zeros rows.rows) ZeroSpace both.1 }

-- there is one of them
pub some_row : (rows : List (List ℕ)) → has_only_zeros rows ≡ false → 1 ≤ length rows
some_row [] e = cc
some_row (row ∷ rest) e = omega arith

-- what is known of the reduced basis of their span
pub record IsBasisOfSpan (m : ModuleValue) (rows basis : MatrixValue) : Type 0 where
  pub field : basis.order ≡ m.order
  pub columns : basis.cols ≡ m.dim
  pub over : IsMatrixOver (number_field m.order) m.dim basis.rows
  pub same : HaveSameSpan (number_field m.order) rows.rows basis.rows
  pub reduced : IsReducedBasis (number_field m.order) rows.rows basis.rows
  pub independent : IsIndependent (number_field basis.order) basis.rows
  pub some : 1 ≤ length basis.rows

pub basis_of_span : (m : ModuleValue) (rows : MatrixValue) (e : EchelonValue) (basis : MatrixValue) → AreSpaceRows m rows → IsMatrix rows → IsSpanOfRows rows e →
    IsReducedMatrix e basis → IsMatrix basis → IsBasisOfSpan m rows basis
basis_of_span m rows e basis space rows_h span reduced basis_h = record {
  field = field;
  columns = columns;
  over = subst (λ n. IsMatrixOver K n basis.rows) columns (subst (λ o. IsMatrixOver (number_field o) basis.cols basis.rows) field (matrix_over basis basis_h));
  same = same;
  reduced = reduced_of_same_span F (length e.rows) (matrix_of K e.rows) (length rows.rows) (matrix_of K rows.rows) (length basis.rows) (matrix_of K basis.rows)
      (same_sym F (length rows.rows) (matrix_of K rows.rows) (length e.rows) (matrix_of K e.rows) span_same) reduced_e;
  independent = subst (λ o. IsIndependent (number_field o) basis.rows) (sym field)
      (reduced_independent F (length e.rows) (matrix_of K e.rows) (length basis.rows) (matrix_of K basis.rows) reduced_e);
  some = some_basis_row K m.dim rows.rows basis.rows rows_over same space.some;
}
  where
    K : NumberField
    K = number_field m.order

    F : Field
    F = gf m.order

    field : basis.order ≡ m.order
    field = reduced.field ∙ span.field ∙ space.field

    columns : basis.cols ≡ m.dim
    columns = reduced.columns ∙ span.columns ∙ space.columns

    rows_over : IsMatrixOver K m.dim rows.rows
    rows_over = subst (λ n. IsMatrixOver K n rows.rows) space.columns (subst (λ o. IsMatrixOver (number_field o) rows.cols rows.rows) space.field (matrix_over rows rows_h))

    e_over : IsMatrixOver K e.cols e.rows
    e_over = subst (λ o. IsMatrixOver (number_field o) e.cols e.rows) (span.field ∙ space.field) span.well_formed.over

    reduced_e : IsReducedBasis K e.rows basis.rows
    reduced_e = subst (λ o. IsReducedBasis (number_field o) e.rows basis.rows) (span.field ∙ space.field) reduced.basis

    span_same : HaveSameSpan K rows.rows e.rows
    span_same = subst (λ o. HaveSameSpan (number_field o) rows.rows e.rows) space.field span.same

    same : HaveSameSpan K rows.rows basis.rows
    same = same_trans F (length rows.rows) (matrix_of K rows.rows) (length e.rows) (matrix_of K e.rows) (length basis.rows) (matrix_of K basis.rows) span_same
        (reduced_spans F e.cols (length e.rows) (matrix_of K e.rows) (length basis.rows) (matrix_of K basis.rows) (rows_length K e.cols e.rows e_over) reduced_e)

-- the action over the basis is the action on the span
pub action_on_span : (m : ModuleValue) (rows basis : MatrixValue) (why : Option Refusal) (result : Result ModuleValue Refusal) → why ≡ None →
    IsBasisOfSpan m rows basis → AnswersOr None (IsActionOverRows m basis) (action_late m basis) result →
    AnswersOr why (λ action. IsInvariantIn m rows × IsActionOnSpan m rows action) (action_late m rows) result
action_on_span m rows basis why result none is =
    answered_late why (IsActionOverRows m basis) (λ action. IsInvariantIn m rows × IsActionOnSpan m rows action) (action_late m basis) (action_late m rows) result none
    on_span (λ refusal stands. (stands.0, λ invariant. stands.1 (back invariant)))
  where
    K : NumberField
    K = number_field m.order

    F : Field
    F = gf m.order

    M : Module F
    M = module_of K m.dim m.generators

    forth : IsInvariantIn m basis → IsInvariantIn m rows
    forth = same_invariant F M (length basis.rows) (matrix_of K basis.rows) (length rows.rows) (matrix_of K rows.rows)
        (same_sym F (length rows.rows) (matrix_of K rows.rows) (length basis.rows) (matrix_of K basis.rows) is.same)

    back : IsInvariantIn m rows → IsInvariantIn m basis
    back = same_invariant F M (length rows.rows) (matrix_of K rows.rows) (length basis.rows) (matrix_of K basis.rows) is.same

    on_span : (action : ModuleValue) → IsActionOverRows m basis action → IsInvariantIn m rows × IsActionOnSpan m rows action
    on_span action (invariant, acts) = (
      forth invariant,
      record {
        field = acts.field;
        basis = basis.rows;
        over = is.over;
        reduced = is.reduced;
        dimension = acts.dimension;
        acts = acts.acts;
      },
    )
