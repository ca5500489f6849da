-- The two sections into which a submodule cuts one, and which take its place.
use Rattle.std.specs.Prelude.{◌≡◌, ℕ, ◌+◌, List, ◌++◌, length}
use Rattle.axe_algebra.specs.NumberField.{NumberField}
use Rattle.axe_algebra.specs.Lists.{entry, table, IsMatrixOver}
use Rattle.axe_algebra.specs.ListArithmetic.{product}
use Rattle.axe_algebra.specs.SpansOfLists.{IsIndependent, IsExtendedBasis}
use Rattle.axe_algebra.specs.ModulesOfLists.{IsSubAction, IsQuotientAction}
use Rattle.axe_algebra.proofs.ListProducts.{product_length}
use Rattle.axe_field.specs.NumberFields.{number_field}
use Rattle.axe_matrix.specs.Matrices.{MatrixValue}
use Rattle.axe_spin.specs.Modules.{ModuleValue}
use Rattle.axe_series.specs.Sections.{SectionValue, IsCut}
use Rattle.axe_series.proofs.AppendedRows.{IsWithin, first_block, second_block}
use Rattle.axe_series.proofs.ActingRows.{ActsOn}
use Rattle.axe_series.proofs.CutRows.{lifted_over, acts_on_lifted, units, units_length, units_over, acts_on_units, lifted_extended, within_both, sizes_of_both}
use Rattle.axe_series.proofs.SectionChain.{IsSectionOf, ActsBySection}
use mathlib.Core.Path.{sym, ◌∙◌, ap, ap₂, subst}
use native.Mathlib.Omega.{arith}

-- the two sections of a cut take a section's place
pub record TakePlace (m : ModuleValue) (before : List (List ℕ)) (s sub quotient : SectionValue) : Type 0 where
  pub sub_of_module : IsSectionOf m sub
  pub sub_acts : ActsBySection m before sub
  pub quotient_of_module : IsSectionOf m quotient
  pub quotient_acts : ActsBySection m (before ++ sub.rows.rows) quotient
  pub within : IsWithin (number_field m.order) s.rows.rows (sub.rows.rows ++ quotient.rows.rows)
  pub as_many : length sub.rows.rows + length quotient.rows.rows ≡ length s.rows.rows

-- a block of so many rows
abbrev pub rows_from : ℕ → ℕ → ℕ → List (List ℕ) → List (List ℕ)
rows_from start count n rows = table count n (λ i j. entry rows (start + i) (0 + j))

module _ (m : ModuleValue) (before : List (List ℕ)) (s : SectionValue) (of_module : IsSectionOf m s) (acts : ActsBySection m before s)
    (space : MatrixValue) (sub quotient : SectionValue) (cut : IsCut s space sub quotient) (field : space.order ≡ m.order) (columns : space.cols ≡ s.action.dim)
    (over_space : IsMatrixOver (number_field m.order) s.action.dim space.rows) (independent : IsIndependent (number_field m.order) space.rows) where
  abbrev K : NumberField
  K = number_field m.order

  abbrev d : ℕ
  d = s.action.dim

  abbrev r : List (List ℕ)
  r = s.rows.rows

  extends : IsExtendedBasis K d space.rows cut.extended.rows
  extends =
      subst (λ k. IsExtendedBasis K k space.rows cut.extended.rows) columns
      (subst (λ o. IsExtendedBasis (number_field o) space.cols space.rows cut.extended.rows) field cut.extends.extends)

  sub_acts : IsSubAction K d s.action.generators space.rows sub.action.generators
  sub_acts = subst (λ o. IsSubAction (number_field o) d s.action.generators space.rows sub.action.generators) of_module.field cut.sub_action.acts

  quotient_acts : IsQuotientAction K d s.action.generators space.rows quotient.action.dim quotient.action.generators
  quotient_acts =
      subst (λ o. IsQuotientAction (number_field o) d s.action.generators space.rows quotient.action.dim quotient.action.generators) of_module.field cut.quotient_action.acts

  abbrev first : List (List ℕ)
  first = product K m.dim space.rows r

  the_units : List (List ℕ)
  the_units = units K m.dim m.generators before r d s.action.generators of_module.over of_module.size space.rows over_space quotient.action.dim
      quotient.action.generators quotient_acts cut.extended.rows extends

  second : List (List ℕ)
  second = product K m.dim the_units r

  first_over : IsMatrixOver K m.dim first
  first_over = lifted_over K m.dim m.generators before r d s.action.generators of_module.over of_module.size space.rows over_space

  first_length : length first ≡ sub.action.dim
  first_length = product_length K m.dim space.rows r ∙ sym cut.sub_action.dimension

  second_over : IsMatrixOver K m.dim second
  unfolding second the_units
  second_over = lifted_over K m.dim m.generators before r d s.action.generators of_module.over of_module.size the_units
      (units_over K m.dim m.generators before r d s.action.generators of_module.over of_module.size space.rows over_space quotient.action.dim
      quotient.action.generators quotient_acts cut.extended.rows extends)

  second_length : length second ≡ quotient.action.dim
  unfolding second the_units
  second_length =
      product_length K m.dim the_units r
      ∙ units_length K m.dim m.generators before r d s.action.generators of_module.over of_module.size space.rows over_space quotient.action.dim
      quotient.action.generators quotient_acts cut.extended.rows extends

  lifted_are : product (number_field cut.extended.order) s.rows.cols cut.extended.rows r ≡ first ++ second
  unfolding second the_units
  lifted_are =
      ap (λ o. product (number_field o) s.rows.cols cut.extended.rows r) (cut.extends.field ∙ field)
      ∙ ap (λ n. product K n cut.extended.rows r) of_module.columns
      ∙ lifted_extended K m.dim m.generators before r d s.action.generators of_module.over of_module.size space.rows over_space quotient.action.dim
      quotient.action.generators quotient_acts cut.extended.rows extends

  sub_rows_are : sub.rows.rows ≡ first
  sub_rows_are =
      ap (λ (rows : MatrixValue). rows.rows) cut.sub_rows
      ∙ ap (rows_from 0 sub.action.dim s.rows.cols) lifted_are
      ∙ ap (λ n. rows_from 0 sub.action.dim n (first ++ second)) of_module.columns
      ∙ ap (λ k. rows_from 0 k m.dim (first ++ second)) (sym first_length)
      ∙ first_block K m.dim first second first_over

  quotient_rows_are : quotient.rows.rows ≡ second
  quotient_rows_are =
      ap (λ (rows : MatrixValue). rows.rows) cut.quotient_rows
      ∙ ap (rows_from sub.action.dim quotient.action.dim s.rows.cols) lifted_are
      ∙ ap (λ n. rows_from sub.action.dim quotient.action.dim n (first ++ second)) of_module.columns
      ∙ ap (λ k. rows_from sub.action.dim k m.dim (first ++ second)) (sym second_length)
      ∙ ap (λ k. rows_from k (length second) m.dim (first ++ second)) (sym first_length)
      ∙ second_block K m.dim first second second_over

  pub cut_takes_place : TakePlace m before s sub quotient
  unfolding second the_units
  cut_takes_place = record {
    sub_of_module = record {
      field = cut.sub_action.field ∙ of_module.field;
      is_module = cut.sub_module;
      rows_field = ap (λ (rows : MatrixValue). rows.order) cut.sub_rows ∙ cut.extends.field ∙ field;
      columns = ap (λ (rows : MatrixValue). rows.cols) cut.sub_rows ∙ of_module.columns;
      size = ap length sub_rows_are ∙ first_length;
      over = subst (IsMatrixOver K m.dim) (sym sub_rows_are) first_over;
    };
    sub_acts =
        subst (λ (rows : List (List ℕ)). ActsOn K m.dim m.generators before rows sub.action.dim sub.action.generators) (sym sub_rows_are)
        (subst (λ k. ActsOn K m.dim m.generators before first k sub.action.generators) (sym cut.sub_action.dimension)
        (acts_on_lifted K m.dim m.generators before r d s.action.generators of_module.over of_module.size space.rows sub.action.generators over_space sub_acts acts));
    quotient_of_module = record {
      field = cut.quotient_action.field ∙ of_module.field;
      is_module = cut.quotient_module;
      rows_field = ap (λ (rows : MatrixValue). rows.order) cut.quotient_rows ∙ cut.extends.field ∙ field;
      columns = ap (λ (rows : MatrixValue). rows.cols) cut.quotient_rows ∙ of_module.columns;
      size = ap length quotient_rows_are ∙ second_length;
      over = subst (IsMatrixOver K m.dim) (sym quotient_rows_are) second_over;
    };
    quotient_acts =
        subst (λ (rows : List (List ℕ)). ActsOn K m.dim m.generators (before ++ rows) quotient.rows.rows quotient.action.dim quotient.action.generators) (sym sub_rows_are)
        (subst (λ (rows : List (List ℕ)). ActsOn K m.dim m.generators (before ++ first) rows quotient.action.dim quotient.action.generators) (sym quotient_rows_are)
        (acts_on_units K m.dim m.generators before r d s.action.generators of_module.over of_module.size space.rows over_space quotient.action.dim
        quotient.action.generators quotient_acts cut.extended.rows extends acts));
    within = subst (IsWithin K r) (sym (ap₂ (λ (a b : List (List ℕ)). a ++ b) sub_rows_are quotient_rows_are))
        (within_both K m.dim m.generators before r d s.action.generators of_module.over of_module.size space.rows over_space quotient.action.dim
        quotient.action.generators quotient_acts cut.extended.rows extends);
    as_many =
        let all : length space.rows + quotient.action.dim ≡ d = sizes_of_both K m.dim m.generators before r d s.action.generators of_module.over of_module.size
        space.rows over_space quotient.action.dim quotient.action.generators quotient_acts cut.extended.rows extends independent in
        omega (arith, ap length sub_rows_are, first_length, cut.sub_action.dimension, ap length quotient_rows_are, second_length, all, of_module.size);
  }
