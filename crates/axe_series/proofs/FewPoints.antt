-- The sections of a module have no more points than it, so none of a module with few points stays undecided.
use Rattle.std.specs.Prelude.{◌≡◌, ◌≢◌, ℕ, ◌+◌, ◌≤◌, List, [], ◌∷◌, ⊤}
use Rattle.axe_algebra.proofs.PointLists.{count_grows}
use Rattle.axe_field.specs.Order.{Order, order_number}
use Rattle.axe_field.proofs.Orders.{order_number-at_least}
use Rattle.axe_matrix.specs.Matrices.{MatrixValue, IsMatrix}
use Rattle.axe_spin.specs.Modules.{ModuleValue, IsModule}
use Rattle.axe_word.specs.PointsOfMatrix.{point_count, most_points}
use Rattle.axe_norton.specs.Spaces.{IsProperSubmodule}
use Rattle.axe_norton.proofs.OpenLaws.{small_is_decided}
use Rattle.axe_series.specs.Sections.{SectionValue, IsCut}
use Rattle.axe_series.specs.Runs.{FoundValue, Outcome, complete, open_section, Runs, all_found, undecided, reducible}
use Rattle.axe_series.specs.Runs.{known, new, RunOf}
use Rattle.axe_series.proofs.SomeCut.{dimensions_add_up}
use Rattle.axe_series.proofs.OneCut.{reducible_is_submodule, reducible_is_matrix}
use mathlib.Core.Path.{refl, sym, ◌∙◌, subst}
use native.Mathlib.Omega.{arith}

-- a module over the field of an order, of at most so many dimensions
pub record IsWithin (o : Order) (n : ℕ) (m : ModuleValue) : Type 0 where
  pub is : IsModule m
  pub field : m.order ≡ o
  pub dim_within : m.dim ≤ n

-- all sections are such modules
abbrev pub AreWithin : Order → ℕ → List SectionValue → Type 0
AreWithin o n [] = ⊤
AreWithin o n (section ∷ rest) = IsWithin o n section.action × AreWithin o n rest

-- the dimensions of the two parts of a section add up to its own
pub dimensions_of_parts : (section : SectionValue) (space : MatrixValue) (sub quotient : SectionValue) →
    IsProperSubmodule section.action space → IsMatrix space →
    IsCut section space sub quotient → sub.action.dim + quotient.action.dim ≡ section.action.dim
dimensions_of_parts section space sub quotient proper formed cut =
    let sizes = dimensions_add_up section.action space quotient.action proper formed cut.quotient_action in
    omega (arith, cut.sub_action.dimension, sizes)

complete_or_open : (found : FoundValue) (rows : List (List ℕ)) (offset dim : ℕ) →
    complete found ≢ open_section rows offset dim
complete_or_open found rows offset dim same = cc

module _ (seed words : ℕ) (o : Order) (n : ℕ) (few : point_count (order_number o) n ≤ most_points) where
  -- a section within few points has few
  few_of_section : (section : SectionValue) → IsWithin o n section.action →
      point_count (order_number section.action.order) section.action.dim ≤ most_points
  few_of_section section within =
      let grows : point_count (order_number o) section.action.dim ≤ point_count (order_number o) n =
      count_grows (order_number o) section.action.dim n (order_number-at_least o) within.dim_within in
      subst (λ p. point_count (order_number p) section.action.dim ≤ most_points) (sym within.field)
      (omega (arith, grows, few))

  -- its parts are within, too
  parts_within : (section : SectionValue) (rest : List SectionValue) (space : MatrixValue)
      (sub quotient : SectionValue) → IsProperSubmodule section.action space →
      IsMatrix space → IsCut section space sub quotient → AreWithin o n (section ∷ rest) →
      AreWithin o n (sub ∷ quotient ∷ rest)
  parts_within section rest space sub quotient proper formed cut (within, others) =
      let sizes : sub.action.dim + quotient.action.dim ≡ section.action.dim =
      dimensions_of_parts section space sub quotient proper formed cut in (
        record {
          is = cut.sub_module;
          field = cut.sub_action.field ∙ within.field;
          dim_within = omega (arith, sizes, within.dim_within);
        },
        (
          record {
            is = cut.quotient_module;
            field = cut.quotient_action.field ∙ within.field;
            dim_within = omega (arith, sizes, within.dim_within);
          },
          others,
        ),
      )

  -- no section stays undecided
  pub none_stays_open : {sections : List SectionValue} {found : FoundValue} {outcome : Outcome} →
      Runs seed words sections found outcome → AreWithin o n sections →
      (rows : List (List ℕ)) (offset dim : ℕ) → outcome ≢ open_section rows offset dim
  none_stays_open (all_found {found}) within rows offset dim same = complete_or_open found rows offset dim same
  none_stays_open (undecided {section} decides) within rows offset dim same =
      small_is_decided section.action seed words within.0.is (few_of_section section within.0) decides
  none_stays_open (reducible {section} {rest} space sub quotient decides cut later) within rows offset dim same =
      none_stays_open later
      (parts_within section rest space sub quotient
      (reducible_is_submodule section.action seed words space within.0.is decides)
      (reducible_is_matrix section.action seed words space decides) cut within) rows offset dim same
  none_stays_open (known word poly v number t decides is later) within rows offset dim same =
      none_stays_open later within.1 rows offset dim same
  none_stays_open (new word poly v form decides others is later) within rows offset dim same =
      none_stays_open later within.1 rows offset dim same

-- no section of a module with few points stays undecided
pub small_has_a_series : (m : ModuleValue) (seed words : ℕ) (rows : List (List ℕ)) (offset dim : ℕ) → IsModule m →
    point_count (order_number m.order) m.dim ≤ most_points → ¬ (RunOf m seed words (open_section rows offset dim))
small_has_a_series m seed words rows offset dim is few run =
    none_stays_open seed words m.order m.dim few run
    (record { is = is; field = refl; dim_within = omega arith }, tt) rows offset dim refl
