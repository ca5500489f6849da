-- A section that takes the place of one: with the action of a factor that is isomorphic to it.
use Rattle.std.specs.Prelude.{◌≡◌, ℕ, List, length}
use Rattle.std.specs.List.{All}
use Rattle.axe_algebra.specs.NumberField.{NumberField}
use Rattle.axe_algebra.specs.Spans
use Rattle.axe_algebra.specs.Actions
use Rattle.axe_algebra.specs.Bridge.{field_of, matrix_of, module_of}
use Rattle.axe_algebra.specs.Lists.{IsMatrixOver, IsSquareOver}
use Rattle.axe_algebra.specs.ListArithmetic.{product}
use Rattle.axe_algebra.specs.SpansOfLists.{SpansEverything}
use Rattle.axe_algebra.specs.ModulesOfLists.{IsSubAction, IsIsomorphism}
use Rattle.axe_algebra.proofs.SquareMatrices.{rows_of_invertible}
use Rattle.axe_algebra.proofs.Sections.{action_of_isomorphism}
use Rattle.axe_algebra.proofs.ListProducts.{product_length}
use Rattle.axe_algebra.proofs.ListSpans.{enough_rows_span}
use Rattle.axe_algebra.proofs.ListModules.{module_shape}
use Rattle.axe_field.specs.NumberFields.{number_field, gf}
use Rattle.axe_matrix.specs.Matrices.{MatrixValue}
use Rattle.axe_spin.specs.Modules.{ModuleValue, IsModule}
use Rattle.axe_series.specs.Sections.{SectionValue, lifted_rows}
use Rattle.axe_series.proofs.AppendedRows.{IsWithin}
use Rattle.axe_series.proofs.ActingRows.{ActsOn}
use Rattle.axe_series.proofs.CutRows.{lifted_over, within_lifted, acts_on_lifted}
use Rattle.axe_series.proofs.SectionChain.{IsSectionOf, ActsBySection}
use mathlib.Core.Path.{sym, ◌∙◌, ap, subst}

-- an isomorphism is a sub action on its own rows, as lists
pub action_of_isomorphism_of_lists : (K : NumberField) (d : ℕ) (generators others : List (List (List ℕ))) (t : List (List ℕ)) → All (IsSquareOver K d) generators →
    IsIsomorphism K d generators others t → IsSubAction K d others t generators
action_of_isomorphism_of_lists K d generators others t squares iso =
    subst (λ k. Actions.IsSubAction (field_of K) (module_of K d others) k (matrix_of K t) (module_of K k generators)) (sym iso.square.length_is)
    (action_of_isomorphism (field_of K) (module_of K d generators) (module_of K d others) (matrix_of K t) (module_shape K d generators squares) iso.isomorphism)

-- what stands in the place of a section
pub record TakesPlace (m : ModuleValue) (before : List (List ℕ)) (s lifted : SectionValue) : Type 0 where
  pub of_module : IsSectionOf m lifted
  pub acts : ActsBySection m before lifted
  pub within : IsWithin (number_field m.order) s.rows.rows lifted.rows.rows
  pub as_many : length lifted.rows.rows ≡ length s.rows.rows

-- the section of a factor, with the lifted rows of a square invertible matrix on whose rows it is the sub action
abbrev pub lifted_section : SectionValue → ModuleValue → MatrixValue → SectionValue
lifted_section s factor t = record { action = factor; rows = lifted_rows s t }

module _ (m : ModuleValue) (before : List (List ℕ)) (s : SectionValue) (of_module : IsSectionOf m s) (acts : ActsBySection m before s) where
  abbrev K : NumberField
  K = number_field m.order

  abbrev d : ℕ
  d = s.action.dim

  abbrev r : List (List ℕ)
  r = s.rows.rows

  pub factor_takes_place : (factor : ModuleValue) (t : MatrixValue) → IsModule factor → factor.order ≡ m.order → t.order ≡ m.order → factor.dim ≡ d →
      IsSquareOver K d t.rows → IsSubAction K d s.action.generators t.rows factor.generators → Spans.IsInvertible (gf m.order) d (matrix_of K t.rows) →
      TakesPlace m before s (lifted_section s factor t)
  factor_takes_place factor t is_factor field field_of_t dimension square sub invertible = record {
    of_module = record {
      field = field;
      is_module = is_factor;
      rows_field = field_of_t;
      columns = of_module.columns;
      size = ap length same ∙ product_length K m.dim t.rows r ∙ square.length_is ∙ sym dimension;
      over = subst (IsMatrixOver K m.dim) (sym same) (lifted_over K m.dim m.generators before r d s.action.generators of_module.over of_module.size t.rows square.matrix);
    };
    acts =
        subst (λ (rows : List (List ℕ)). ActsOn K m.dim m.generators before rows factor.dim factor.generators) (sym same)
        (subst (λ k. ActsOn K m.dim m.generators before (product K m.dim t.rows r) k factor.generators) (square.length_is ∙ sym dimension)
        (acts_on_lifted K m.dim m.generators before r d s.action.generators of_module.over of_module.size t.rows factor.generators square.matrix sub acts));
    within = subst (IsWithin K r) (sym same)
        (within_lifted K m.dim m.generators before r d s.action.generators of_module.over of_module.size t.rows square.matrix spans);
    as_many = ap length same ∙ product_length K m.dim t.rows r ∙ square.length_is ∙ sym of_module.size;
  }
    where
      same : product (number_field t.order) s.rows.cols t.rows r ≡ product K m.dim t.rows r
      same = ap (λ o. product (number_field o) s.rows.cols t.rows r) field_of_t ∙ ap (λ n. product K n t.rows r) of_module.columns

      spans : SpansEverything K d t.rows
      spans = enough_rows_span K d t.rows square.matrix
          (subst (λ k. Spans.IsIndependent (gf m.order) k (matrix_of K t.rows)) (sym square.length_is) (rows_of_invertible (gf m.order) d (matrix_of K t.rows) invertible))
          square.length_is
