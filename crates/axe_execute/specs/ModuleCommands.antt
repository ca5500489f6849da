-- What the commands of modules mean.
use Rattle.std.specs.Prelude.{ℕ, List, [], ◌∷◌, Bool, Option, Some, None, Ok}
use Rattle.axe_matrix.specs.Matrices.{MatrixValue, IsMatrix}
use Rattle.axe_spin.specs.Modules.{ModuleValue, rows_refusal, HasSquareGenerators}
use Rattle.axe_spin.specs.Spinning.{seed_refusal, HasSpunRows}
use Rattle.axe_action.specs.Actions.{IsBasisAction, IsProperActionModulo, quotient_late}
use Rattle.axe_file.specs.Packed.{packed}
use Rattle.axe_folder.specs.Files.{Files}
use Rattle.axe_plan.specs.Plans.{Put, Plan}
use Rattle.axe_plan.specs.Meanings.{Meaning, Is, Has, HasOr, UnlessRefused, ◌>>=◌}
use Rattle.axe_plan.specs.Inputs.{matrix_in, matrices_in, text_matrices_in, numbered_names}
use Rattle.axe_plan.specs.Inputs.{seeded_module, checked_module}
use Rattle.axe_plan.specs.Outputs.{put_packed, put_packed_module, put_generators}

-- `zcv -m`: the module is put, packed, of whose generators files are texts
unfoldable pub ModuleConversionPlan : ℕ → List ℕ → List ℕ → Files → Meaning Plan
ModuleConversionPlan count name out files = do
  matrices ← Is (text_matrices_in files (numbered_names name count))
  m ← Is (checked_module matrices)
  Is (Ok (put_packed_module out m))

-- what spinning a seed in a module gives, unless the seed is refused
unfoldable pub RowsOf : Bool → ModuleValue → MatrixValue → Meaning MatrixValue
RowsOf standard m seed =
    UnlessRefused (seed_refusal m seed) (Has (λ rows. HasSpunRows standard m seed rows × IsMatrix rows))

-- a sub action on rows as they stand; where they are independent there is at most one, and that they are is not said
-- here
unfoldable pub ActionOn : ModuleValue → MatrixValue → Meaning ModuleValue
ActionOn m rows = Has (λ action. IsBasisAction m rows action × HasSquareGenerators action)

-- the quotient action modulo the span of rows, unless they are no vectors of the module or it is refused
unfoldable pub ActionModulo : ModuleValue → MatrixValue → Meaning ModuleValue
ActionModulo m rows =
    UnlessRefused (rows_refusal m rows)
    (HasOr (λ action. IsProperActionModulo m rows action × HasSquareGenerators action) (quotient_late m rows))

-- rows are put, packed, and where a name is given, so are then the generators of the action on them
abbrev pub RowsPlan : Option (List ℕ) → List ℕ → ModuleValue → MatrixValue → Meaning Plan
RowsPlan None out m rows = Is (Ok (put_packed out rows))
RowsPlan (Some name) out m rows = do
  action ← ActionOn m rows
  Is (Ok (record { steps = Put out (packed rows) ∷ put_generators name action; shown = [] }))

-- what spinning a seed in a module gives is put
unfoldable pub SpunPlan : Bool → Option (List ℕ) → List ℕ → ModuleValue × MatrixValue → Meaning Plan
SpunPlan standard action out (m, seed) = do
  rows ← RowsOf standard m seed
  RowsPlan action out m rows

-- `zsp`: what spinning the rows of a packed matrix gives in the module with these packed generators is put
abbrev pub SpinPlan : ℕ → Bool → Option (List ℕ) → List ℕ → List ℕ → List ℕ → Files → Meaning Plan
SpinPlan count standard action name seed out files = do
  seeded ← Is (seeded_module count name seed files)
  SpunPlan standard action out seeded

-- `zqt`: the generators of the quotient action modulo the rows of a packed matrix are put, packed
unfoldable pub QuotientPlan : ℕ → List ℕ → List ℕ → List ℕ → Files → Meaning Plan
QuotientPlan count subspace name out files = do
  rows ← Is (matrix_in files subspace)
  matrices ← Is (matrices_in files (numbered_names name count))
  m ← Is (checked_module matrices)
  quotient ← ActionModulo m rows
  Is (Ok (record { steps = put_generators out quotient; shown = [] }))
