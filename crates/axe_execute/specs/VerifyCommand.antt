-- What `verify` means: whether what lies beside a module is a composition series of it is checked.
use Rattle.std.specs.Prelude.{◌≡◌, ◌⊎◌, ℕ, List, [], ◌∷◌, ◌++◌, length, codes, Result, Ok, Err}
use Rattle.axe_matrix.specs.Matrices.{MatrixValue}
use Rattle.axe_spin.specs.Modules.{ModuleValue}
use Rattle.axe_report.specs.Reasons.{reason_text}
use Rattle.axe_report.specs.Reports.{ReportValue, names}
use Rattle.axe_report.specs.declared.fault.ReportFault.TheVariants.{OldReport}
use Rattle.axe_report.specs.declared.reasons.Reason.{Reason}
use Rattle.axe_report.specs.declared.report.Version.{Version}
use Rattle.axe_report.specs.declared.report.Version.TheVariants.{One, Two}
use Rattle.axe_check.specs.Certificates.{Certificate, IsCertified}
use Rattle.axe_check.specs.Reasons.{IsFirstReason}
use Rattle.axe_folder.specs.Files.{Files}
use Rattle.axe_arguments.specs.Layouts.{files_with}
use Rattle.axe_arguments.specs.declared.command.ModuleFiles.{ModuleFiles}
use Rattle.axe_arguments.specs.declared.command.ModuleLayout.{ModuleLayout}
use Rattle.axe_fault.specs.Causes.{Problem, Unreported, Uncertified}
use Rattle.axe_plan.specs.Plans.{Plan}
use Rattle.axe_plan.specs.Meanings.{Meaning, Is, ◌>>=◌}
use Rattle.axe_plan.specs.Inputs.{and_then, matrix_in, module_names, generators_in, checked_module}
use Rattle.axe_plan.specs.ReportFiles.{ReportIn}
use Rattle.axe_execute.specs.SeriesFiles.{report_file, basis_file, factor_name, factor_files, HoldsCertificate}

-- ---- what is read

-- the report of a file, unless it is of version 1, which does not tell how the constituents were seen to be irreducible
abbrev pub unless_old : List ℕ → Version → ReportValue → Result ReportValue Problem
unless_old file One report = Err (Unreported file OldReport)
unless_old file Two report = Ok report

-- the report that the file of this name spells, unless it is of version 1
unfoldable pub CurrentReport : List ℕ → Files → Meaning ReportValue
CurrentReport file files = do
  report ← ReportIn file files
  Is (unless_old file report.header.version report)

-- the matrices of constituents, each of which stands under the module's name and then its own
abbrev pub constituents_in : ModuleFiles → List ℕ → List (List ℕ) → Files → Result (List (List MatrixValue)) Problem
constituents_in stored name [] files = Ok []
constituents_in stored name (constituent ∷ constituents) files =
    and_then (generators_in stored (factor_name name constituent) files) (λ first.
    and_then (constituents_in stored name constituents files) (λ rest. Ok (first ∷ rest)))

-- ---- what is found

-- the plan of a yes: nothing is changed, and one word is shown
abbrev pub verified_plan : Plan
verified_plan = record { steps = []; shown = codes "verified\n" }

-- the certificate is right; or it is not, and this is the text of the first reason
abbrev pub Verifies : Certificate → Meaning Plan
Verifies c (Ok plan) = IsCertified c × (plan ≡ verified_plan)
Verifies c (Err problem) = (reason : Reason) × IsFirstReason c reason × (problem ≡ Uncertified (reason_text reason))

-- what a report, the module of this name, the basis beside it and the matrices of the report's constituents certify:
-- the files are read in this order, and then the module's generators are looked at
unfoldable pub ReportedPlan : ModuleFiles → List ℕ → ReportValue → Files → Meaning Plan
ReportedPlan stored name report files = do
  generators ← Is (generators_in stored name files)
  basis ← Is (matrix_in files (basis_file name))
  factors ← Is (constituents_in stored name (names report.factors) files)
  m ← Is (checked_module generators)
  Verifies (record { report = report; m = m; basis = basis; factors = factors })

-- `verify`: what lies beside the module of this name, as its report tells, is checked
unfoldable pub VerifyPlan : ModuleLayout → List ℕ → Files → Meaning Plan
VerifyPlan layout name files = do
  report ← CurrentReport (report_file name) files
  ReportedPlan (files_with layout report.header.gens) name report files

-- ---- which files are read

-- the files that a report speaks of: those of the module, the basis, and those of the constituents
abbrev pub reported_files : ModuleFiles → List ℕ → List (List ℕ) → List (List ℕ)
reported_files stored name constituents =
    module_names stored name ++ basis_file name ∷ factor_files stored name constituents

-- the files that `verify` reads, in order: that of the report, and, where it holds one of version 2, those that the
-- report speaks of
abbrev pub AreReadToVerify : ModuleLayout → List ℕ → Files → List (List ℕ) → Type 0
AreReadToVerify layout name files read =
    (read ≡ report_file name ∷ [])
    ⊎ ((report : ReportValue) × CurrentReport (report_file name) files (Ok report)
    × (read ≡ report_file name ∷ reported_files (files_with layout report.header.gens) name (names report.factors)))

-- ---- what is true of it

-- the files under the name hold a composition series of the module of this name, whoever wrote them, and the plan is
-- that of a yes
pub record FindsSeries (layout : ModuleLayout) (name : List ℕ) (files : Files) (plan : Plan) : Type 0 where
  pub m : ModuleValue
  pub holds : HoldsCertificate (files_with layout (length m.generators)) m name files
  pub plan_is : plan ≡ verified_plan
