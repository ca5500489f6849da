-- The two sections into which a submodule cuts one: what the calls that make them answer.
use Rattle.std.proofs.Common.{◌≡◌, ℕ, List, ◌+◌, ◌<◌, ◌≤◌, ◌++◌, length, map, refl, sym, ap, subst, ◌∙◌, arith}
use Rattle.std.specs.List.{All}
use Rattle.std.proofs.Math.Seq.{take-append_seam, drop-append_seam}
use Rattle.std.proofs.lemmas.List.Elements.{All-append, All-from_get_or}
use Rattle.std.proofs.lemmas.List.{length-take-le, length-append, length-map}
use Rattle.axe_algebra.specs.Lists.{IsMatrixOver, IsVectorOver, unit_row}
use Rattle.axe_algebra.specs.SpansOfLists.{IsIndependent}
use Rattle.axe_algebra.proofs.ListExtended.{extended_is_square}
use Rattle.axe_algebra.proofs.ListProducts.{identity_length}
use Rattle.axe_field.specs.Order.{Order}
use Rattle.axe_field.specs.NumberFields.{number_field}
use Rattle.axe_matrix.specs.Limits.{most_rows}
use Rattle.axe_matrix.specs.Matrices.{MatrixValue, IsMatrix, AreSplit, identity_matrix, matrix_block, matrix_product, rows_at}
use Rattle.axe_matrix.proofs.ProductLaws.{IsMatrix-product}
use Rattle.axe_echelon.proofs.SomeMatrix.{matrix_of_rows_over}
use Rattle.axe_spin.specs.Modules.{ModuleValue, IsModule}
use Rattle.axe_action.specs.Actions.{IsBasisAction, IsActionModulo, IsExtendedMatrix}
use Rattle.axe_action.specs.FreeColumns.{AreFreeColumns, rows_to_span}
use Rattle.axe_action.proofs.UnitRows.{extended_by_units}
use Rattle.axe_norton.specs.Spaces.{IsProperSubmodule}
use Rattle.axe_norton.proofs.TruthLaws.{rows_over_field}
use Rattle.axe_series.specs.Sections.{SectionValue, IsCut, whole_section, lifted_rows}
use Rattle.axe_series.proofs.LiftedRows.{AreBlocks, split_in_blocks, parts_are_lifted}
use Rattle.axe_series.proofs.SomeCut.{dimensions_add_up}
use Rattle.axe_chop.specs.Stages.{IsSection}
use Rattle.axe_chop.specs.Vectors.{matrix_of_unit_vectors}
use Rattle.axe_chop.proofs.Choosing.{identity_is_matrix, units_are_matrix, chosen_by_units}
use Rattle.axe_chop.proofs.Lifting.{lifted_rows_count}

-- a module is its own section
pub whole_is_section : (m : ModuleValue) → IsModule m → IsSection (whole_section m)
whole_is_section m is = record {
  field = refl;
  count = identity_length (number_field m.order) m.dim;
  action_formed = is;
  rows_formed = identity_is_matrix m.order m.dim is.over.positive is.dim_fits;
}

-- also as it is kept
pub whole_is_kept : (m : ModuleValue) (rows : MatrixValue) (o : Order) (n : ℕ) → o ≡ m.order → n ≡ m.dim →
    rows ≡ identity_matrix o n → IsModule m → IsSection (record { action = m; rows = rows })
whole_is_kept m rows o n field dimension rows_are is =
    subst (λ (x : MatrixValue). IsSection (record { action = m; rows = x }))
    (sym (rows_are ∙ (λ k. identity_matrix (field k) (dimension k)))) (whole_is_section m is)

-- ---- the actions

module _ (m : ModuleValue) (space : MatrixValue) (proper : IsProperSubmodule m space) where
  pub space_independent : IsIndependent (number_field space.order) space.rows
  space_independent = subst (λ o. IsIndependent (number_field o) space.rows) (sym proper.field) proper.independent

  -- ---- the dimensions
  module _ (formed : IsMatrix space) where
    over : IsMatrixOver (number_field m.order) m.dim space.rows
    over = rows_over_field m.order m.dim space proper.field proper.columns formed

    pub extended_count : (extended : MatrixValue) → IsExtendedMatrix space extended → length extended.rows ≡ m.dim
    extended_count extended is =
        extended_is_square (number_field space.order) space.cols space.rows extended.rows
        (rows_over_field space.order space.cols space refl refl formed) is.extends space_independent
        ∙ proper.columns

-- ---- the rows

-- the rows of a submodule, and then the unit vectors of the other columns
abbrev pub extended_by : MatrixValue → MatrixValue → MatrixValue
extended_by space units = record units { rows = space.rows ++ units.rows }

-- the unit vectors of the other columns are over the field of the action
units_field : (section : SectionValue) (space units : MatrixValue) → IsProperSubmodule section.action space →
    IsExtendedMatrix space (extended_by space units) → units.order ≡ section.action.order
units_field section space units proper extends = extends.field ∙ proper.field

-- the rows of the submodule and the unit vectors of the other columns, and what they are lifted to
pub record AreLifted (section : SectionValue) (space units first after : MatrixValue) : Type 0 where
  pub is_section : IsSection section
  pub proper : IsProperSubmodule section.action space
  pub extends : IsExtendedMatrix space (extended_by space units)
  pub units_formed : IsMatrix units
  pub first_is : first ≡ lifted_rows section space
  pub after_is : after ≡ lifted_rows section units
  pub first_formed : IsMatrix first
  pub after_formed : IsMatrix after

module _ (section : SectionValue) (space units first after : MatrixValue)
    (are : AreLifted section space units first after) where
  abbrev extended : MatrixValue
  extended = extended_by space units

  abbrev lifted : MatrixValue
  lifted = lifted_rows section extended

  many : length extended.rows ≡ section.action.dim
  many = extended_count section.action space are.proper are.proper.well_formed extended are.extends

  extended_formed : IsMatrix extended
  extended_formed = matrix_of_rows_over units.order units.cols (space.rows ++ units.rows) are.units_formed.some_column
      are.units_formed.columns_fit (omega (arith, many, are.is_section.action_formed.dim_fits))
      (All-append (IsVectorOver (number_field units.order) units.cols) space.rows units.rows
      (rows_over_field units.order units.cols space (sym are.extends.field) (sym are.extends.columns) are.proper.well_formed)
      (rows_over_field units.order units.cols units refl refl are.units_formed))

  parts : AreSplit extended (length space.rows) space units
  parts = record {
    first_rows = λ i. record {
      order = sym are.extends.field i;
      cols = sym are.extends.columns i;
      rows = sym (take-append_seam space.rows units.rows) i;
    };
    rows_after = λ i. record {
      order = units.order;
      cols = units.cols;
      rows = sym (drop-append_seam space.rows units.rows) i;
    };
  }

  lifted_count : length lifted.rows ≡ section.action.dim
  lifted_count = lifted_rows_count section extended ∙ many

  lifted_field : lifted.order ≡ section.action.order
  lifted_field = units_field section space units are.proper are.extends

  lifted_formed : IsMatrix lifted
  lifted_formed = IsMatrix-product extended section.rows extended_formed are.is_section.rows_formed
      (lifted_field ∙ sym are.is_section.field)

  split : AreSplit lifted (length space.rows) first after
  split =
      let both : AreSplit lifted (length space.rows) (lifted_rows section space) (lifted_rows section units) =
      parts_are_lifted section extended space units (length space.rows) (omega (arith, many, are.proper.proper)) parts in
      record { first_rows = are.first_is ∙ both.first_rows; rows_after = are.after_is ∙ both.rows_after }

  -- so many rows of it, with an action of that dimension, are a section
  part_section : (action : ModuleValue) (part : MatrixValue) → part.order ≡ lifted.order → length part.rows ≡ action.dim →
      action.order ≡ section.action.order → IsModule action → IsMatrix part → IsSection (record { action = action; rows = part })
  part_section action part field count same_field action_formed rows_formed = record {
    field = field ∙ lifted_field ∙ sym same_field;
    count = count;
    action_formed = action_formed;
    rows_formed = rows_formed;
  }

  pub sub_section : (sub : ModuleValue) → IsBasisAction section.action space sub → IsModule sub →
      IsSection (record { action = sub; rows = first })
  sub_section sub acts formed =
      part_section sub first (ap (λ (x : MatrixValue). x.order) split.first_rows)
      (ap (λ (x : MatrixValue). length x.rows) split.first_rows
      ∙ length-take-le (length space.rows) lifted.rows (omega (arith, lifted_count, are.proper.proper)) ∙ sym acts.dimension)
      acts.field formed are.first_formed

  module _ (quotient : ModuleValue) (modulo : IsActionModulo section.action space quotient) where
    sizes : length space.rows + quotient.dim ≡ section.action.dim
    sizes = dimensions_add_up section.action space quotient are.proper are.proper.well_formed modulo

    blocks : AreBlocks lifted first after (length space.rows) quotient.dim
    blocks = split_in_blocks lifted first after (length space.rows) quotient.dim lifted_formed split
        (sizes ∙ sym lifted_count)

    pub quotient_section : IsModule quotient → IsSection (record { action = quotient; rows = after })
    quotient_section formed =
        part_section quotient after (ap (λ (x : MatrixValue). x.order) split.rows_after) blocks.count_after modulo.field
        formed are.after_formed

    -- the two parts
    pub is_cut : (sub : ModuleValue) → IsBasisAction section.action space sub → IsModule sub → IsModule quotient →
        IsCut section space (record { action = sub; rows = first }) (record { action = quotient; rows = after })
    is_cut sub acts sub_module quotient_module = record {
      sub_action = acts;
      sub_module = sub_module;
      quotient_action = modulo;
      quotient_module = quotient_module;
      extended = extended;
      extends = are.extends;
      sub_rows = blocks.first_rows
          ∙ ap (λ d. matrix_block (lifted_rows section extended) 0 d 0 section.rows.cols) (sym acts.dimension);
      quotient_rows = blocks.rows_after
          ∙ ap (λ d. matrix_block (lifted_rows section extended) d quotient.dim 0 section.rows.cols) (sym acts.dimension);
    }

-- ---- the columns that are no pivots

-- a submodule cuts a section, and these columns are no pivots of it
pub record IsCutAt (section : SectionValue) (space : MatrixValue) (columns : List ℕ) : Type 0 where
  pub is_section : IsSection section
  pub proper : IsProperSubmodule section.action space
  pub free : AreFreeColumns (rows_to_span space) columns

module _ (section : SectionValue) (space : MatrixValue) (columns : List ℕ) (at : IsCutAt section space columns) where
  abbrev units : MatrixValue
  units = matrix_of_unit_vectors space.order space.cols columns

  extends : IsExtendedMatrix space (extended_by space units)
  extends = extended_by_units space units columns at.free refl

  -- there is a lifted row at each
  dimension : space.cols ≡ length section.rows.rows
  dimension = at.proper.columns ∙ sym at.is_section.count

  pub columns_within : All (λ column. column < length section.rows.rows) columns
  columns_within = subst (λ n. All (λ column. column < n) columns) dimension (All-from_get_or (λ column. column < space.cols) columns 0 (λ t below. (at.free.each t below).below))

  pub columns_fit : length columns ≤ most_rows
  columns_fit = omega (
    arith,
    extended_count section.action space at.proper at.proper.well_formed (extended_by space units) extends,
    length-append space.rows (map (unit_row space.cols) columns),
    length-map columns (unit_row space.cols),
    at.is_section.action_formed.dim_fits,
  )

  units_formed : IsMatrix units
  units_formed = units_are_matrix space.order space.cols columns at.proper.well_formed.some_column at.proper.well_formed.columns_fit
      columns_fit

  -- and these rows are the unit vectors, lifted
  module _ (first after : MatrixValue) (first_is : first ≡ lifted_rows section space)
      (after_is : after ≡ rows_at columns section.rows) (first_formed : IsMatrix first) where
    field : section.rows.order ≡ space.order
    field = at.is_section.field ∙ sym at.proper.field

    after_lifted : after ≡ lifted_rows section units
    after_lifted =
        after_is ∙ chosen_by_units space.order section.rows columns field at.is_section.rows_formed columns_within
        ∙ ap (λ n. matrix_product (matrix_of_unit_vectors space.order n columns) section.rows) (sym dimension)

    pub are_lifted : AreLifted section space units first after
    are_lifted = record {
      is_section = at.is_section;
      proper = at.proper;
      extends = extends;
      units_formed = units_formed;
      first_is = first_is;
      after_is = after_lifted;
      first_formed = first_formed;
      after_formed = subst IsMatrix (sym after_lifted)
          (IsMatrix-product units section.rows units_formed at.is_section.rows_formed (sym field));
    }

-- ---- a section that is opened

-- a section is opened, to be cut by a submodule
pub record IsOpened (section self : SectionValue) (space : MatrixValue) : Type 0 where
  pub same : section ≡ self
  pub is_section : IsSection section
  pub proper : IsProperSubmodule self.action space

-- what the submodule makes of the action
pub record IsSplit (action : ModuleValue) (space : MatrixValue) (sub quotient : ModuleValue) (columns : List ℕ) : Type 0 where
  pub acts : IsBasisAction action space sub
  pub modulo : IsActionModulo action space quotient
  pub free : AreFreeColumns (rows_to_span space) columns
  pub sub_module : IsModule sub
  pub quotient_module : IsModule quotient

-- a submodule of the action is one of the module that it is
pub proper_in : (m action : ModuleValue) (space : MatrixValue) → m ≡ action → IsProperSubmodule action space →
    IsProperSubmodule m space
proper_in m action space same = subst (λ (x : ModuleValue). IsProperSubmodule x space) (sym same)

module _ (section self : SectionValue) (space : MatrixValue) (opened : IsOpened section self space) where
  pub proper_here : IsProperSubmodule section.action space
  proper_here = subst (λ (s : SectionValue). IsProperSubmodule s.action space) (sym opened.same) opened.proper

  pub lift_field : space.order ≡ section.rows.order
  lift_field = proper_here.field ∙ sym opened.is_section.field

  pub lift_fits : space.cols ≡ length section.rows.rows
  lift_fits = proper_here.columns ∙ sym opened.is_section.count

  pub cut_at : (columns : List ℕ) → AreFreeColumns (rows_to_span space) columns → IsCutAt section space columns
  cut_at columns free = record { is_section = opened.is_section; proper = proper_here; free = free }

  module _ (sub quotient : ModuleValue) (columns : List ℕ) (split_in : IsSplit section.action space sub quotient columns)
      (first after : MatrixValue) (first_is : first ≡ lifted_rows section space)
      (after_is : after ≡ rows_at columns section.rows) (first_formed : IsMatrix first) where
    lifted_parts : AreLifted section space (matrix_of_unit_vectors space.order space.cols columns) first after
    lifted_parts = are_lifted section space columns (cut_at columns split_in.free) first after first_is after_is first_formed

    pub sub_kept : IsSection (record { action = sub; rows = first })
    sub_kept =
        sub_section section space (matrix_of_unit_vectors space.order space.cols columns) first after lifted_parts sub split_in.acts
        split_in.sub_module

    pub quotient_kept : IsSection (record { action = quotient; rows = after })
    quotient_kept =
        quotient_section section space (matrix_of_unit_vectors space.order space.cols columns) first after lifted_parts quotient
        split_in.modulo split_in.quotient_module

    pub parts_kept : IsCut self space (record { action = sub; rows = first }) (record { action = quotient; rows = after })
    parts_kept =
        subst (λ (s : SectionValue). IsCut s space (record { action = sub; rows = first }) (record { action = quotient; rows = after }))
        opened.same
        (is_cut section space (matrix_of_unit_vectors space.order space.cols columns) first after lifted_parts quotient split_in.modulo
        sub split_in.acts split_in.sub_module split_in.quotient_module)
