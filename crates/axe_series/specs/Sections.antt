-- Sections of a module while its composition series is looked for, and the two into which a submodule cuts one (Parker
-- 1984).
use Rattle.std.specs.Prelude.{◌≡◌, ℕ, List, [], ◌∷◌, ◌++◌}
use Rattle.axe_matrix.specs.Matrices.{MatrixValue, identity_matrix, matrix_block, matrix_product}
use Rattle.axe_spin.specs.Modules.{ModuleValue, IsModule}
use Rattle.axe_action.specs.Actions.{IsBasisAction, IsActionModulo, IsExtendedMatrix}

-- a section: the action on a quotient of one invariant space by another, and its lifted rows, the vectors of the module
-- whose cosets are the basis to which that action belongs
pub record SectionValue : Type 0 where
  pub action : ModuleValue
  pub rows : MatrixValue

-- the first section: the module itself, with the unit vectors
abbrev pub whole_section : ModuleValue → SectionValue
whole_section m = record { action = m; rows = identity_matrix m.order m.dim }

-- the rows of some sections, one section after the other
abbrev pub rows_of_sections : List SectionValue → List (List ℕ)
rows_of_sections [] = []
rows_of_sections (section ∷ rest) = section.rows.rows ++ rows_of_sections rest

-- the lifted rows that `extended` gives: its rows times those of the section
abbrev pub lifted_rows : SectionValue → MatrixValue → MatrixValue
lifted_rows section extended = matrix_product extended section.rows

-- the rows of `space` are a basis of a submodule of the section's action; `sub` is the action on these rows, lifted by
-- them; and `quotient` is the action modulo their span, lifted by the unit vectors of the columns that are no pivots
pub record IsCut (section : SectionValue) (space : MatrixValue) (sub quotient : SectionValue) : Type 0 where
  pub sub_action : IsBasisAction section.action space sub.action
  pub sub_module : IsModule sub.action
  pub quotient_action : IsActionModulo section.action space quotient.action
  pub quotient_module : IsModule quotient.action
  pub extended : MatrixValue
  pub extends : IsExtendedMatrix space extended
  pub sub_rows : sub.rows ≡ matrix_block (lifted_rows section extended) 0 sub.action.dim 0 section.rows.cols
  pub quotient_rows : quotient.rows
      ≡ matrix_block (lifted_rows section extended) sub.action.dim quotient.action.dim 0 section.rows.cols
