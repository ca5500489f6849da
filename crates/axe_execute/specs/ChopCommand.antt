-- What `chop` means: a composition series of a module is looked for, and its basis, its factors and its report are put.
use Rattle.std.specs.Prelude.{◌≡◌, ℕ, ◌≤◌, List, [], ◌∷◌, ◌++◌, Some, Result, Ok, Err}
use Rattle.axe_field.specs.Order.{order_number}
use Rattle.axe_matrix.specs.Matrices.{MatrixValue}
use Rattle.axe_spin.specs.Modules.{ModuleValue}
use Rattle.axe_word.specs.PointsOfMatrix.{point_count, most_points}
use Rattle.axe_series.specs.Runs.{Outcome, complete, open_section, RunOf}
use Rattle.axe_series.specs.Series.{IsSeries, IsOpenSection, basis_of_rows, factors_of_forms}
use Rattle.axe_report.specs.declared.report.ReportHeader.{ReportHeader}
use Rattle.axe_report.specs.Reports.{WitnessValue}
use Rattle.axe_chop.specs.Reported.{module_header, witnesses_of_forms, AreWitnessesOf}
use Rattle.axe_file.specs.Packed.{packed}
use Rattle.axe_folder.specs.Files.{Files, file_at}
use Rattle.axe_fault.specs.Causes.{Problem, StaysOpen}
use Rattle.axe_plan.specs.Plans.{Step, Put, Remove, applied, Plan}
use Rattle.axe_plan.specs.Meanings.{Meaning, Is, Has, ◌>>=◌}
use Rattle.axe_arguments.specs.declared.command.ModuleFiles.{ModuleFiles}
use Rattle.axe_plan.specs.Inputs.{module_in}
use Rattle.axe_plan.specs.Outcome.{IsOneOf}
use Rattle.axe_plan.specs.Outputs.{put_module}
use Rattle.axe_execute.specs.SeriesFiles.{report_file, basis_file, factor_name, constituents_of, series_files}
use Rattle.axe_execute.specs.SeriesFiles.{series_report_bytes, AllDecide, HoldsSeries}

-- the steps that put factors in order, each as a module under the module's name and then the factor's
abbrev pub put_factors : ModuleFiles → List ℕ → List (List ℕ) → List ModuleValue → List Step
put_factors stored name [] factors = []
put_factors stored name (constituent ∷ constituents) [] = []
put_factors stored name (constituent ∷ constituents) (factor ∷ factors) =
    put_module stored (factor_name name constituent) factor ++ put_factors stored name constituents factors

-- what a composition series changes under a name: an earlier report is taken away, the basis is put, then each factor
-- under its name, and last the report
abbrev pub series_steps : ModuleFiles → List ℕ → MatrixValue → List (List ℕ) → List ModuleValue → List ℕ → List Step
series_steps stored name basis constituents factors report =
    Remove (report_file name) ∷ Put (basis_file name) (packed basis) ∷ put_factors stored name constituents factors
    ++ Put (report_file name) report ∷ []

-- the plan that a composition series gives: what it changes, where the factors have their names by the rule, with its
-- report, which is shown, too
unfoldable pub series_plan : ModuleFiles → List ℕ → ReportHeader → MatrixValue → List ModuleValue → List WitnessValue →
    List ℕ → Plan
series_plan stored name header basis factors witnesses places = record {
  steps = series_steps stored name basis (constituents_of factors) factors
      (series_report_bytes header factors witnesses places);
  shown = series_report_bytes header factors witnesses places;
}

-- the answer to what a run finds: the plan of the series, or that a section stays undecided
abbrev pub chop_answer : ModuleFiles → List ℕ → ModuleValue → ℕ → ℕ → Outcome → Result Plan Problem
chop_answer stored name m seed words (complete found) =
    Ok (series_plan stored name (module_header m seed words) (basis_of_rows m found.rows)
    (factors_of_forms found.forms) (witnesses_of_forms found.forms) found.places)
chop_answer stored name m seed words (open_section rows offset dim) =
    Err (StaysOpen (basis_of_rows m rows) offset dim)

-- what the words 0 to `words` of a seed find of a module is put and shown
unfoldable pub FoundPlan : ModuleFiles → List ℕ → ModuleValue → ℕ → ℕ → Meaning Plan
FoundPlan stored name m seed words = do
  outcome ← Has (RunOf m seed words)
  Is (chop_answer stored name m seed words outcome)

-- `chop`: what the words find of the module of this name is put and shown
unfoldable pub ChopPlan : ModuleFiles → ℕ → ℕ → List ℕ → Files → Meaning Plan
ChopPlan stored seed words name files = do
  m ← Is (module_in stored name files)
  FoundPlan stored name m seed words

-- ---- what is true of it (Parker 1984; Holt and Rees 1994)

-- after all steps of the plan the files under the name hold a composition series of the module of this name; its
-- report, on this seed and so many words, is what is shown; and each other file is as it was
pub record LeavesSeries (stored : ModuleFiles) (seed words : ℕ) (name : List ℕ) (files : Files)
    (plan : Plan) :
    Type 0 where
  pub m : ModuleValue
  pub is_module : module_in stored name files ≡ Ok m
  pub holds : HoldsSeries stored m name (applied plan.steps files)
  pub header_is : holds.header ≡ module_header m seed words
  pub shown : file_at (applied plan.steps files) (report_file name) ≡ Some plan.shown
  pub others : (other : List ℕ) → ¬ (IsOneOf (series_files stored name (constituents_of holds.factors)) other) →
      file_at (applied plan.steps files) other ≡ file_at files other

-- the plan is that of a composition series of the module of this name, with a witness for each factor
pub record WritesSeries (stored : ModuleFiles) (seed words : ℕ) (name : List ℕ) (files : Files)
    (plan : Plan) :
    Type 0 where
  pub m : ModuleValue
  pub is_module : module_in stored name files ≡ Ok m
  pub basis : MatrixValue
  pub factors : List ModuleValue
  pub witnesses : List WitnessValue
  pub places : List ℕ
  pub series : IsSeries m basis factors places
  pub witnessed : AreWitnessesOf (module_header m seed words) factors witnesses
  pub decided : AllDecide seed factors witnesses
  pub plan_is : plan ≡ series_plan stored name (module_header m seed words) basis factors witnesses places

-- each of the words 0 to `words` of the seed leaves the section open that the basis shows of the module of this name
pub record FindsOpenSection (stored : ModuleFiles) (seed words : ℕ) (name : List ℕ) (files : Files)
    (basis : MatrixValue) (offset dim : ℕ) :
    Type 0 where
  pub m : ModuleValue
  pub is_module : module_in stored name files ≡ Ok m
  pub open_section : IsOpenSection m seed words basis offset dim

-- the module has at most 1,000 points, `most_points`: vectors whose first nonzero entry is 1 (Holt and Rees 1994)
abbrev pub IsSmallModule : ModuleValue → Type 0
IsSmallModule m = point_count (order_number m.order) m.dim ≤ most_points
