-- A section as the code keeps it.
use Rattle.std.specs.Prelude.{⊤, ℕ, ◌<◌}
use Rattle.std.specs.List.{All}
use Rattle.axe_matrix.specs.Matrices.{MatrixValue, IsMatrix, identity_matrix}
use Rattle.axe_spin.specs.Modules.{ModuleValue}
use Rattle.axe_norton.specs.Known.{IsKnownOf}
use Rattle.axe_norton.specs.declared.known.Known.{Known}
use Rattle.axe_series.specs.Sections.{SectionValue}
use Rattle.axe_chop.specs.Stages.{IsSection}
use Rattle.axe_chop.specs.Vectors.{matrix_of_unit_vectors}
use Rattle.axe_chop.specs.declared.lifted.KeptRows.{KeptRows}
use Rattle.axe_chop.specs.declared.lifted.KeptRows.TheVariants.{Identity, Units, Rows}
use Rattle.axe_chop.specs.declared.section.Action.{Action}
use Rattle.axe_chop.specs.declared.section.Action.TheVariants.{Lent, Owned}

-- the lifted rows that are kept: all unit vectors, those of some columns, or rows of any kind
abbrev pub kept_rows : KeptRows → MatrixValue
kept_rows (Identity order dim) = identity_matrix order dim
kept_rows (Units order dim columns) = matrix_of_unit_vectors order dim columns.items
kept_rows (Rows m) = m

-- the columns whose unit vectors are kept are columns of the dimension
abbrev pub HasColumnsWithin : KeptRows → Type 0
HasColumnsWithin (Identity order dim) = ⊤
HasColumnsWithin (Units order dim columns) = All (λ column. column < dim) columns.items
HasColumnsWithin (Rows m) = ⊤

-- the rows that are kept are those of a matrix
pub record AreKept (kept : KeptRows) : Type 0 where
  pub well_formed : IsMatrix (kept_rows kept)
  pub within : HasColumnsWithin kept

-- the module that acts on a section, lent or its own
abbrev pub acting_module : Action → ModuleValue
acting_module (Lent m) = m.now
acting_module (Owned m) = m

-- the section that is kept
abbrev pub kept_section : Action → MatrixValue → SectionValue
kept_section action rows = record { action = acting_module action; rows = rows }

-- a section is kept; and what is known of its action for the seed is true of it
pub record IsKeptSection (action : Action) (rows : MatrixValue) (seed : ℕ) (known : Known) : Type 0 where
  pub section : IsSection (kept_section action rows)
  pub is_known : IsKnownOf (acting_module action) seed known
