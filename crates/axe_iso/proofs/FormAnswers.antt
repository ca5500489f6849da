-- What the calls that make a form answer: operands that are not refused, and what is left but Memory.
use Rattle.std.proofs.Common.{◌≡◌, ◌≢◌, ◌<◌, false, [], length, get_or, None, Ok, Err, refl, sym, ap, ◌∙◌}
use Rattle.std.proofs.lemmas.Bool.{eq-eqb}
use Rattle.axe_algebra.specs.Field.{Field}
use Rattle.axe_algebra.specs.NumberField.{NumberField}
use Rattle.axe_algebra.specs.Vectors.{Vector, zero_vector, unit_vector, times}
use Rattle.axe_algebra.specs.Modules.{Module, VectorGeneratesAll, InGenerated, path_product}
use Rattle.axe_algebra.specs.Bridge.{vector_of, matrix_of, module_of}
use Rattle.axe_algebra.specs.ModulesOfLists.{GeneratesEverything}
use Rattle.axe_algebra.proofs.ProductLaws.{times_zero, times_zero_rows, unit_at, unit_length}
use Rattle.axe_algebra.proofs.StandardBases.{standard_basis_is_invariant}
use Rattle.axe_echelon.proofs.EliminationLaws.{vector_of_zero_row}
use Rattle.axe_echelon.proofs.Exits.{asked_late}
use Rattle.axe_field.specs.Order.{order_number}
use Rattle.axe_field.specs.NumberFields.{number_field, gf}
use Rattle.axe_row.specs.Rows.{RowValue}
use Rattle.axe_row.specs.Operations.{IsZeroVector}
use Rattle.axe_row.specs.Refusals.{AnswersOr, RefusedAs}
use Rattle.axe_row.specs.declared.refusals.Refusal.{Refusal}
use Rattle.axe_row.specs.declared.refusals.Refusal.TheVariants.{NotInvariant, Memory}
use Rattle.axe_matrix.specs.Matrices.{MatrixValue, has_only_zeros}
use Rattle.axe_matrix.proofs.OnlyZeros.{some_nonzero}
use Rattle.axe_spin.specs.Modules.{ModuleValue, IsModule, IsInvariantIn}
use Rattle.axe_spin.specs.Spinning.{IsStandardMatrix}
use Rattle.axe_action.specs.Actions.{sub_action_refusal, action_late, IsBasisAction, IsActionOverRows}
use mathlib.Core.Logic.{inl, inr}

-- ---- vectors that generate everything

module _ (F : Field) (M : Module F) where
  -- what the zero vector generates is zero
  zero_generates_zero : (v x : Vector F) → v ≡ zero_vector F → InGenerated F M 1 (λ t. v) x → x ≡ zero_vector F
  zero_generates_zero v x zero generated =
      generated.in_span.combines
      ∙ times_zero_rows F generated.size generated.in_span.coefficients generated.vectors (λ s below.
      let each = generated.each s below in
      each.equals ∙ ap (λ (y : Vector F). times F M.dimension y (path_product F M each.path)) zero ∙ times_zero F M.dimension (path_product F M each.path))

  pub generator_is_nonzero : (v : Vector F) → 0 < M.dimension → VectorGeneratesAll F M v → v ≢ zero_vector F
  generator_is_nonzero v positive all zero =
      F.one-not-zero (sym (unit_at F 0)
      ∙ ap (λ (x : Vector F). x 0) (zero_generates_zero v (unit_vector F 0) zero (all (unit_vector F 0) (unit_length F M.dimension 0 positive))))

module _ (m : ModuleValue) (v : RowValue) (is_module : IsModule m)
    (generates : GeneratesEverything (number_field m.order) m.dim m.generators v.entries) where
  abbrev K : NumberField
  K = number_field m.order

  vector-nonzero : vector_of K v.entries ≢ zero_vector (gf m.order)
  vector-nonzero = generator_is_nonzero (gf m.order) (module_of K m.dim m.generators) (vector_of K v.entries) is_module.over.positive generates

  pub row-nonzero : ¬ (IsZeroVector v.entries)
  row-nonzero zeros = vector-nonzero (vector_of_zero_row K v.entries zeros)

  module _ (basis : MatrixValue) (standard : IsStandardMatrix m v basis) where
    -- the standard basis is no space that is refused
    pub basis_accepted : sub_action_refusal m basis ≡ None
    basis_accepted = rw (eq-eqb _ _ (ap order_number standard.field), eq-eqb _ _ standard.columns, nonzero) refl
      where
        first-nonzero : IsZeroVector (get_or basis.rows 0 []) → ⊥
        first-nonzero zeros = vector-nonzero (sym standard.standard.first ∙ vector_of_zero_row K (get_or basis.rows 0 []) zeros)

        nonzero : has_only_zeros basis.rows ≡ false
        nonzero = some_nonzero basis.rows 0 (get_or basis.rows 0 []) false standard.standard.nonempty refl (λ zeros. absurd (first-nonzero zeros)) refl

    pub basis_invariant : IsInvariantIn m basis
    basis_invariant =
        standard_basis_is_invariant (gf m.order) (module_of K m.dim m.generators) (vector_of K v.entries) (length basis.rows) (matrix_of K basis.rows) standard.standard

-- ---- actions

only_memory : {T : Type 0} (P : T → Type 0) (name refusal : Refusal) (Why : Type 0) → ¬ Why → AnswersOr None P (RefusedAs name Why) (Err refusal) →
    refusal ≡ Memory
only_memory P name refusal Why not_so (inl memory) = memory
only_memory P name refusal Why not_so (inr stands) = absurd (not_so stands.1)

-- rows that are not refused early, and whose span is invariant, are not refused at all
module _ (m : ModuleValue) (rows : MatrixValue) (accepted : sub_action_refusal m rows ≡ None) where
  pub action_refused : (refusal : Refusal) → IsInvariantIn m rows →
      AnswersOr (sub_action_refusal m rows) (IsActionOverRows m rows) (action_late m rows) (Err refusal) → refusal ≡ Memory
  action_refused refusal invariant h =
      only_memory (IsActionOverRows m rows) NotInvariant refusal (¬ (IsInvariantIn m rows)) (λ outside. outside invariant)
      (asked_late (sub_action_refusal m rows) (IsActionOverRows m rows) (action_late m rows) (Err refusal) accepted h)

  pub action_given : (action : ModuleValue) →
      AnswersOr (sub_action_refusal m rows) (IsActionOverRows m rows) (action_late m rows) (Ok action) → IsBasisAction m rows action
  action_given action h = (asked_late (sub_action_refusal m rows) (IsActionOverRows m rows) (action_late m rows) (Ok action) accepted h).1
