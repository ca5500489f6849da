-- A submodule cuts a section in one way.
use Rattle.std.specs.Prelude.{◌≡◌, ℕ, List, ◌++◌, map, length, get_or}
use Rattle.std.proofs.lemmas.List.{ext_get_or}
use Rattle.axe_algebra.specs.NumberField.{NumberField}
use Rattle.axe_algebra.specs.Actions.{IsFree}
use Rattle.axe_algebra.specs.Bridge.{field_of, matrix_of}
use Rattle.axe_algebra.specs.Lists.{unit_row}
use Rattle.axe_algebra.specs.SpansOfLists.{IsExtendedBasis}
use Rattle.axe_algebra.proofs.ReducedBases.{same_size, same_places}
use Rattle.axe_field.specs.NumberFields.{number_field}
use Rattle.axe_matrix.specs.Matrices.{MatrixValue, IsMatrix, matrix_block}
use Rattle.axe_matrix.proofs.MatrixLaws.{same_matrix}
use Rattle.axe_spin.specs.Modules.{ModuleValue, IsModule}
use Rattle.axe_action.specs.Actions.{IsExtendedMatrix}
use Rattle.axe_action.proofs.OneAction.{basis_action_is_one, quotient_is_one}
use Rattle.axe_word.proofs.ValueLaws.{drawn_word-in}
use Rattle.axe_norton.specs.declared.verdicts.At
use Rattle.axe_norton.specs.declared.verdicts.Verdict.TheVariants.{Reducible}
use Rattle.axe_norton.specs.Spaces.{IsProperSubmodule}
use Rattle.axe_norton.specs.OneVector.{ShowsReducibleByOne}
use Rattle.axe_norton.specs.Verdicts.{ShowsReducible, Tells, Decides, word_of_seed}
use Rattle.axe_norton.proofs.TruthLaws.{rows_over_field}
use Rattle.axe_norton.proofs.SaidLaws.{said_is_true}
use Rattle.axe_series.specs.Sections.{SectionValue, IsCut, lifted_rows}
use mathlib.Core.Logic.{inl, inr}
use mathlib.Core.Path.{refl, sym, ◌∙◌, ap}

-- rows are extended in one way
pub extended_list_is_one : (K : NumberField) (n : ℕ) (rows a b : List (List ℕ)) → IsExtendedBasis K n rows a →
    IsExtendedBasis K n rows b → a ≡ b
extended_list_is_one K n rows a b first second =
    first.equals ∙ ap (λ (columns : List ℕ). rows ++ map (unit_row n) columns) columns ∙ sym second.equals
  where
    columns : first.columns ≡ second.columns
    columns = ext_get_or 0 first.columns second.columns
        (same_size (IsFree (field_of K) n (length rows) (matrix_of K rows)) (length first.columns)
        (λ t. get_or first.columns t 0)
        (length second.columns) (λ t. get_or second.columns t 0) first.free second.free)
        (same_places (IsFree (field_of K) n (length rows) (matrix_of K rows)) (length first.columns)
        (λ t. get_or first.columns t 0)
        (length second.columns) (λ t. get_or second.columns t 0) first.free second.free)

-- and so is a matrix
pub extended_matrix_is_one : (rows a b : MatrixValue) → IsExtendedMatrix rows a → IsExtendedMatrix rows b → a ≡ b
extended_matrix_is_one rows a b first second =
    same_matrix a b (first.field ∙ sym second.field) (first.columns ∙ sym second.columns)
    (extended_list_is_one (number_field rows.order) rows.cols rows.rows a.rows b.rows first.extends second.extends)

-- what a reducible verdict gives is a basis of a proper submodule
pub reducible_is_submodule : (m : ModuleValue) (seed words : ℕ) (space : MatrixValue) → IsModule m →
    Decides m seed words (Reducible space) →
    IsProperSubmodule m space
reducible_is_submodule m seed words space is (j, decides) =
    said_is_true m is (word_of_seed m seed j) (At.TheVariants.Reducible space)
    (drawn_word-in m seed j _ _ refl refl is.some_generator) decides.says

-- and a matrix
shown_is_matrix : (m : ModuleValue) (matrix null space : MatrixValue) → ShowsReducible m matrix null space →
    IsMatrix space
shown_is_matrix m matrix null space (inl found) = found.proper.well_formed
shown_is_matrix m matrix null space (inr (all, found)) = found.well_formed

shown_by_one_is_matrix : (m : ModuleValue) (matrix null space : MatrixValue) →
    ShowsReducibleByOne m matrix null space → IsMatrix space
shown_by_one_is_matrix m matrix null space (inl proper) = proper.well_formed
shown_by_one_is_matrix m matrix null space (inr (all, found)) = found.well_formed

told_is_matrix : (m : ModuleValue) (matrix null space : MatrixValue) →
    Tells m matrix null (At.TheVariants.Reducible space) → IsMatrix space
told_is_matrix m matrix null space (inl shows) = shown_is_matrix m matrix null space shows
told_is_matrix m matrix null space (inr told) =
    shown_by_one_is_matrix m told.tested.matrix told.tested.null_space space told.tells

pub reducible_is_matrix : (m : ModuleValue) (seed words : ℕ) (space : MatrixValue) →
    Decides m seed words (Reducible space) → IsMatrix space
reducible_is_matrix m seed words space (j, decides) =
    told_is_matrix m decides.says.tested.matrix decides.says.tested.null_space space decides.says.tells

-- sections with the same parts are the same
pub same_section : (a b : SectionValue) → a.action ≡ b.action → a.rows ≡ b.rows → a ≡ b
same_section a b actions rows = λ i. record { action = actions i; rows = rows i }

-- a basis of a submodule cuts a section in one way
module _ (section : SectionValue) (space : MatrixValue) (sub quotient other_sub other_quotient : SectionValue)
    (is : IsModule section.action) (proper : IsProperSubmodule section.action space) (formed : IsMatrix space)
    (first : IsCut section space sub quotient) (second : IsCut section space other_sub other_quotient) where
  extended : first.extended ≡ second.extended
  extended = extended_matrix_is_one space first.extended second.extended first.extends second.extends

  sub_actions : sub.action ≡ other_sub.action
  sub_actions = basis_action_is_one section.action space sub.action other_sub.action proper.independent
      (first.sub_action, first.sub_module.over.square) (second.sub_action, second.sub_module.over.square)

  quotient_actions : quotient.action ≡ other_quotient.action
  quotient_actions = quotient_is_one section.action space quotient.action other_quotient.action is.over.square
      (rows_over_field section.action.order section.action.dim space proper.field proper.columns formed)
      first.quotient_action first.quotient_module.over.square second.quotient_action second.quotient_module.over.square

  abbrev lifted_by : MatrixValue
  lifted_by = lifted_rows section second.extended

  lifted : lifted_rows section first.extended ≡ lifted_by
  lifted = ap (lifted_rows section) extended

  pub other_sub_is_one : sub ≡ other_sub
  other_sub_is_one = same_section sub other_sub sub_actions
      (first.sub_rows
      ∙ ap (λ (x : MatrixValue). matrix_block x 0 sub.action.dim 0 section.rows.cols) lifted
      ∙ ap (λ (x : ModuleValue). matrix_block lifted_by 0 x.dim 0 section.rows.cols) sub_actions
      ∙ sym second.sub_rows)

  pub other_quotient_is_one : quotient ≡ other_quotient
  other_quotient_is_one = same_section quotient other_quotient quotient_actions
      (first.quotient_rows
      ∙ ap (λ (x : MatrixValue). matrix_block x sub.action.dim quotient.action.dim 0 section.rows.cols) lifted
      ∙ ap (λ (x : ModuleValue). matrix_block lifted_by x.dim quotient.action.dim 0 section.rows.cols) sub_actions
      ∙ ap (λ (x : ModuleValue). matrix_block lifted_by other_sub.action.dim x.dim 0 section.rows.cols) quotient_actions
      ∙ sym second.quotient_rows)
