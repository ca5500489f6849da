-- Rows modulo a span: which are zero, when a span is invariant or everything, and quotient actions modulo one span.
use Rattle.std.specs.Prelude.{◌≡◌, ℕ, ◌<◌, ◌≤◌, List, length, Bool, true, false, None, Result, Err, IsTrue, ◌↔◌}
use Rattle.axe_algebra.specs.NumberField.{NumberField}
use Rattle.axe_algebra.specs.Field.{Field}
use Rattle.axe_algebra.specs.Vectors.{unit_matrix, subtract}
use Rattle.axe_algebra.specs.Bridge.{field_of, vector_of, matrix_of}
use Rattle.axe_algebra.specs.Lists.{IsVectorOver, IsMatrixOver}
use Rattle.axe_algebra.specs.SpansOfLists.{IsSpanned, IsRepresentative, HaveSameSpan, IsIndependent, SpansEverything}
use Rattle.axe_algebra.proofs.FieldLaws.{zero-add, neg-neg, neg-sum_of_two}
use Rattle.axe_algebra.proofs.ProductLaws.{unit_is_matrix}
use Rattle.axe_algebra.proofs.Spanning.{span_same, span_subtract, span_within}
use Rattle.axe_algebra.proofs.Exchange.{exchange}
use Rattle.axe_algebra.proofs.Isomorphisms.{unit_rows_independent}
use Rattle.axe_algebra.proofs.ReducedBases.{zero_at_pivots_is_zero}
use Rattle.axe_algebra.proofs.ListEntries.{rows_length}
use Rattle.axe_algebra.proofs.ListSpans.{enough_rows_span, independent_rows_are_few}
use Rattle.axe_field.specs.NumberFields.{number_field}
use Rattle.axe_row.specs.Operations.{IsZeroVector}
use Rattle.axe_row.specs.Refusals.{AnswersOr}
use Rattle.axe_row.specs.declared.refusals.Refusal.{Refusal}
use Rattle.axe_row.specs.declared.refusals.Refusal.TheVariants.{WholeSpace}
use Rattle.axe_matrix.specs.Matrices.{MatrixValue}
use Rattle.axe_echelon.specs.Echelons.{EchelonValue, IsSpanOfRows}
use Rattle.axe_echelon.proofs.Exits.{answered_late, stands_late}
use Rattle.axe_echelon.proofs.EliminationLaws.{zero_row_of_vector}
use Rattle.axe_spin.specs.Modules.{ModuleValue, rows_refusal, IsInvariantIn, SpansModule}
use Rattle.axe_spin.proofs.SeedLaws.{AreVectors, vectors_of}
use Rattle.axe_action.specs.Actions.{quotient_late, action_late, IsActionModulo, IsProperActionModulo}
use mathlib.Core.Logic.{inl, inr}
use mathlib.Core.Path.{refl, sym, ◌∙◌, ap, subst, fun_ext}
use native.Mathlib.Omega.{arith}

-- the representative of a vector of the span is zero
pub zero_of_spanned : (K : NumberField) (n : ℕ) (rows : List (List ℕ)) (v x : List ℕ) → IsMatrixOver K n rows → IsVectorOver K n x →
    IsRepresentative K rows v x → IsSpanned K rows v → IsZeroVector x
zero_of_spanned K n rows v x over over_x is spanned =
    zero_row_of_vector K n x over_x
    (zero_at_pivots_is_zero F n (length rows) (matrix_of K rows) (vector_of K x) (rows_length K n rows over)
    (span_same F (length rows) (matrix_of K rows) (vector_of K x) (subtract F (vector_of K v) (subtract F (vector_of K v) (vector_of K x)))
    (fun_ext λ j. sym (difference (vector_of K v j) (vector_of K x j)))
    (span_subtract F (length rows) (matrix_of K rows) (vector_of K v) (subtract F (vector_of K v) (vector_of K x)) spanned is.in_coset))
    is.at_pivots)
  where
    F : Field
    F = field_of K

    difference : (a b : F.Element) → F.add a (F.neg (F.add a (F.neg b))) ≡ b
    difference a b =
        ap (F.add a) (neg-sum_of_two F a (F.neg b))
        ∙ sym (F.add_assoc a (F.neg a) (F.neg (F.neg b)))
        ∙ ap (λ (e : F.Element). F.add e (F.neg (F.neg b))) (F.add-neg a)
        ∙ zero-add F (F.neg (F.neg b)) ∙ neg-neg F b

-- what a test tells
pub test_failed : (P : Type 0) (b : Bool) → (IsTrue b ↔ P) → b ≡ false → ¬ P
test_failed P b exactly is = λ p. different b is (exactly.1 p)
  where
    different : (b : Bool) → b ≡ false → b ≡ true → ⊥
    different b first second = cc

-- independent rows of length n span everything exactly where there are n of them
pub spans_if_full : (K : NumberField) (n : ℕ) (rows spanning : List (List ℕ)) → IsMatrixOver K n spanning → IsIndependent K spanning →
    HaveSameSpan K rows spanning → length spanning ≡ n → SpansEverything K n rows
spans_if_full K n rows spanning over independent same full x long =
    span_within (field_of K) (length spanning) (matrix_of K spanning) (length rows) (matrix_of K rows) x same.back
    (enough_rows_span K n spanning over independent full x long)

pub full_if_spans : (K : NumberField) (n : ℕ) (rows spanning : List (List ℕ)) → IsMatrixOver K n spanning → IsIndependent K spanning →
    HaveSameSpan K rows spanning → SpansEverything K n rows → length spanning ≡ n
full_if_spans K n rows spanning over independent same all = omega (arith, at_least, independent_rows_are_few K n spanning over independent)
  where
    F : Field
    F = field_of K

    at_least : n ≤ length spanning
    at_least = exchange F n (unit_matrix F n) (length spanning) (matrix_of K spanning) (unit_rows_independent F n)
        (λ t below. span_within F (length rows) (matrix_of K rows) (length spanning) (matrix_of K spanning) (unit_matrix F n t) same.forth
        (all (unit_matrix F n t) ((unit_is_matrix F n).columns t)))

-- the span of such rows, in the module's field
pub record IsSpanIn (m : ModuleValue) (rows : MatrixValue) (e : EchelonValue) : Type 0 where
  pub field : e.order ≡ m.order
  pub columns : e.cols ≡ m.dim
  pub over : IsMatrixOver (number_field m.order) m.dim e.rows
  pub independent : IsIndependent (number_field m.order) e.rows
  pub same : HaveSameSpan (number_field m.order) rows.rows e.rows

pub span_in : (m : ModuleValue) (rows : MatrixValue) (e : EchelonValue) → rows.order ≡ m.order → rows.cols ≡ m.dim → IsSpanOfRows rows e → IsSpanIn m rows e
span_in m rows e rows_field rows_columns span = record {
  field = field;
  columns = columns;
  over = subst (λ n. IsMatrixOver (number_field m.order) n e.rows) columns
      (subst (λ o. IsMatrixOver (number_field o) e.cols e.rows) field span.well_formed.over);
  independent = subst (λ o. IsIndependent (number_field o) e.rows) field span.well_formed.independent;
  same = subst (λ o. HaveSameSpan (number_field o) rows.rows e.rows) rows_field span.same;
}
  where
    field : e.order ≡ m.order
    field = span.field ∙ rows_field

    columns : e.cols ≡ m.dim
    columns = span.columns ∙ rows_columns

module _ (m : ModuleValue) (rows : MatrixValue) (e : EchelonValue) (none : rows_refusal m rows ≡ None) (spans : IsSpanOfRows rows e) where
  abbrev Answer : Result ModuleValue Refusal → Type 0
  Answer result = AnswersOr (rows_refusal m rows) (IsProperActionModulo m rows) (quotient_late m rows) result

  span_of_vectors : IsSpanIn m rows e
  span_of_vectors = let vectors : AreVectors m rows = vectors_of m rows none in span_in m rows e vectors.field vectors.columns spans

  answered : (refusal : Refusal) → quotient_late m rows refusal → Answer (Err refusal)
  answered refusal = stands_late (rows_refusal m rows) (IsProperActionModulo m rows) (quotient_late m rows) refusal none

  proper : ¬ (length e.rows ≡ m.dim) → ¬ (SpansModule m rows)
  proper few = λ all.
      few (full_if_spans (number_field m.order) m.dim rows.rows e.rows span_of_vectors.over span_of_vectors.independent span_of_vectors.same all)

  pub proper_span : ¬ (length e.rows ≡ m.dim) → length e.rows < m.dim
  proper_span few = omega (arith, few, independent_rows_are_few (number_field m.order) m.dim e.rows span_of_vectors.over span_of_vectors.independent)

  -- the two answers
  pub whole_answer : length e.rows ≡ m.dim → Answer (Err WholeSpace)
  whole_answer full =
      answered WholeSpace
      (inl (refl, spans_if_full (number_field m.order) m.dim rows.rows e.rows span_of_vectors.over span_of_vectors.independent span_of_vectors.same full))

  pub action_answer : (result : Result ModuleValue Refusal) → ¬ (length e.rows ≡ m.dim) →
      AnswersOr None (λ action. IsInvariantIn m rows × IsActionModulo m rows action) (action_late m rows) result → Answer result
  action_answer result few =
      answered_late (rows_refusal m rows) (λ action. IsInvariantIn m rows × IsActionModulo m rows action) (IsProperActionModulo m rows) (action_late m rows)
      (quotient_late m rows) result none
      (λ action is. (proper few, is.0, is.1))
      (λ refusal stands. inr (stands.0, (proper few, stands.1)))
