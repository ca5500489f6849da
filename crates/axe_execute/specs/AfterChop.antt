-- What a fault of `chop` leaves of the files.
use Rattle.std.specs.Prelude.{◌≡◌, ◌⊎◌, ℕ, List, take, Some, None, Err}
use Rattle.axe_folder.specs.Files.{Files, file_at}
use Rattle.axe_folder.specs.Outcomes.{KeepsOthers}
use Rattle.axe_arguments.specs.declared.command.Command.TheVariants.{Chop}
use Rattle.axe_arguments.specs.declared.command.ModuleFiles.{ModuleFiles}
use Rattle.axe_fault.specs.declared.fault.Fault.{Fault}
use Rattle.axe_plan.specs.Plans.{applied, Plan}
use Rattle.axe_plan.specs.Inputs.{module_names}
use Rattle.axe_execute.specs.Means.{Means}
use Rattle.axe_execute.specs.Execution.{Executes, HasPlan}
use Rattle.axe_execute.specs.SeriesFiles.{report_file}

-- `chop` of the module of this name, whose files it reads, may end with this fault, from the one files to the others
abbrev pub ChopFails : ModuleFiles → ℕ → ℕ → List ℕ → Fault → Files → Files → Type 0
ChopFails stored seed words name fault old new =
    (let command = Chop stored seed words name in
    Executes (Err fault) (module_names stored name) (Means command old) old new)

-- the file of the report has the first bytes of the report that the plan shows, and each other file is as after all
-- steps of the plan
pub record HasPartOfReport (name : List ℕ) (plan : Plan) (old new : Files) : Type 0 where
  pub count : ℕ
  pub report : file_at new (report_file name) ≡ Some (take count plan.shown)
  pub others : KeepsOthers (applied plan.steps old) (report_file name) new

-- what `chop` leaves where it fails: every file as it was; or no report; or the first bytes of this run's report, with
-- all other files of this run
abbrev pub IsLeftByChop : ModuleFiles → ℕ → ℕ → List ℕ → Files → Files → Type 0
IsLeftByChop stored seed words name old new =
    (new ≡ old)
    ⊎ ((file_at new (report_file name) ≡ None)
    ⊎ HasPlan (Means (Chop stored seed words name) old) (λ plan. HasPartOfReport name plan old new))

-- every file is as it was, or the whole plan of `chop` is carried out
abbrev pub IsBeforeOrAfterChop : ModuleFiles → ℕ → ℕ → List ℕ → Files → Files → Type 0
IsBeforeOrAfterChop stored seed words name old new =
    (new ≡ old) ⊎ HasPlan (Means (Chop stored seed words name) old) (λ plan. new ≡ applied plan.steps old)
