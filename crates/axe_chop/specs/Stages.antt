-- The stages between a module and its composition series, as the code holds them.
use Rattle.std.specs.Prelude.{◌≡◌, ℕ, ◌+◌, List, [], ◌∷◌, ◌++◌, length}
use Rattle.axe_matrix.specs.Matrices.{MatrixValue, IsMatrix}
use Rattle.axe_spin.specs.Modules.{ModuleValue, IsModule}
use Rattle.axe_series.specs.Sections.{SectionValue, rows_of_sections}

-- a section's rows are as many as its action's dimension, over the same field
pub record IsSection (section : SectionValue) : Type 0 where
  pub field : section.rows.order ≡ section.action.order
  pub count : length section.rows.rows ≡ section.action.dim
  pub action_formed : IsModule section.action
  pub rows_formed : IsMatrix section.rows

-- a module over the field of m, with as many generators
pub record IsActionLike (m action : ModuleValue) : Type 0 where
  pub field : action.order ≡ m.order
  pub generators : length action.generators ≡ length m.generators

-- a section with rows over the field and of the columns of a matrix, as many as its dimension
pub record IsRowsLike (basis : MatrixValue) (section : SectionValue) : Type 0 where
  pub field : section.rows.order ≡ basis.order
  pub columns : section.rows.cols ≡ basis.cols
  pub count : length section.rows.rows ≡ section.action.dim

-- a matrix with the rows of sections after its own
abbrev pub with_sections : MatrixValue → List SectionValue → MatrixValue
with_sections basis sections = record basis { rows = basis.rows ++ rows_of_sections sections }

-- the sum of the dimensions of sections
abbrev pub sections_dim : List SectionValue → ℕ
sections_dim [] = 0
sections_dim (section ∷ rest) = section.action.dim + sections_dim rest
