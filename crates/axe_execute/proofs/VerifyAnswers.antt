-- What `verify` means has an answer.
use Rattle.std.proofs.Common.{◌≡◌, refl, sym, subst, ◌∙◌, ap, ℕ, ◌<◌, ◌⊎◌, inl, inr, List, [], length, get_or, All, Result, Ok, Err, IfOk, arith}
use Rattle.std.specs.Prelude.{⊤}
use Rattle.std.specs.List.{AllZip}
use Rattle.std.proofs.lemmas.List.{length-map}
use Rattle.axe_matrix.specs.Matrices.{MatrixValue, IsMatrix}
use Rattle.axe_spin.specs.Modules.{ModuleValue, IsModule}
use Rattle.axe_report.specs.Reasons.{reason_text}
use Rattle.axe_report.specs.Reports.{FactorValue, ReportValue, names, IsReport}
use Rattle.axe_report.specs.declared.reasons.Reason.{Reason}
use Rattle.axe_report.specs.declared.report.Version.TheVariants.{Two}
use Rattle.axe_check.specs.Certificates.{Certificate, matrices_of, IsCertified}
use Rattle.axe_check.specs.Reasons.{IsFirstReason}
use Rattle.axe_check.proofs.SomeReason.{HasAnswer, some_answer}
use Rattle.axe_folder.specs.Files.{Files}
use Rattle.axe_arguments.specs.Commands.{HasFileCount}
use Rattle.axe_arguments.specs.Layouts.{files_with}
use Rattle.axe_arguments.specs.declared.command.ModuleFiles.{ModuleFiles}
use Rattle.axe_arguments.specs.declared.command.ModuleLayout.{ModuleLayout}
use Rattle.axe_fault.specs.Causes.{Problem, Uncertified}
use Rattle.axe_plan.specs.Plans.{Plan}
use Rattle.axe_plan.specs.Meanings.{Meaning, Answered, Is, ◌>>=◌}
use Rattle.axe_plan.specs.Inputs.{and_then, matrix_in, generators_in, checked_module, module_in}
use Rattle.axe_plan.specs.ReportFiles.{ReportIn}
use Rattle.axe_plan.proofs.Readings.{matrix_in_is_matrix}
use Rattle.axe_plan.proofs.ReadModules.{AreRead, HasAsMany, generators_are_read, module_is_module}
use Rattle.axe_plan.proofs.ReportAnswers.{report_in_some}
use Rattle.axe_plan.proofs.SomeAnswer.{then_some}
use Rattle.axe_execute.specs.SeriesFiles.{report_file, basis_file, factor_name}
use Rattle.axe_execute.specs.VerifyCommand.{unless_old, CurrentReport, constituents_in, verified_plan, Verifies, ReportedPlan, VerifyPlan}
use Rattle.axe_execute.proofs.PlanParts.{any_value}
use Rattle.axe_execute.proofs.VerifiedSeries.{IsReadFrom, read_from, read_each, zip_at, zip_length, counted_files}

-- one reading after another, where what comes after the value that is read has an answer
read_some : {A B : Type 0} (first : Result A Problem) (next : A → Meaning B) → ((a : A) → first ≡ Ok a → Answered (next a)) → Answered (Is first >>= next)
read_some first next some = cases first refl
  where
    cases : (answer : Result _ Problem) → first ≡ answer → Answered (Is first >>= next)
    cases (Ok a) e = let after = some a e in (after.0, (Ok a, e, after.1))
    cases (Err problem) e = (Err problem, (Err problem, e, refl))

verifies_some : (c : Certificate) → HasAnswer c → Answered (Verifies c)
verifies_some c (inl right) = (Ok verified_plan, (right, refl))
verifies_some c (inr (reason, is)) = (Err (Uncertified (reason_text reason)), (reason, is, refl))

current_report_some : (file : List ℕ) (files : Files) → Answered (CurrentReport file files)
unfolding CurrentReport
current_report_some file files =
    then_some (λ report. ⊤) (ReportIn file files) _ (λ before right. any_value before) (report_in_some file files)
    (λ report known. (unless_old file report.header.version report, refl))

-- the matrices of a constituent that are read
constituent_formed : (stored : ModuleFiles) (name : List ℕ) (files : Files) (constituents : List (List ℕ)) (lists : List (List MatrixValue)) → HasFileCount stored →
    AllZip (λ constituent list. generators_in stored (factor_name name constituent) files ≡ Ok list) constituents lists → (number : ℕ) → number < length lists →
    All IsMatrix (get_or lists number [])
constituent_formed stored name files constituents lists counted zipped number below =
    let R = λ (constituent : List ℕ) (list : List MatrixValue). generators_in stored (factor_name name constituent) files ≡ Ok list in
    let there : number < length constituents = omega (arith, below, zip_length R constituents lists zipped) in
    let read = zip_at R constituents lists number [] [] zipped there in
    (subst (λ (answer : Result (List MatrixValue) Problem). IfOk answer (λ matrices. AreRead matrices × HasAsMany stored (length matrices))) read
    (generators_are_read stored (factor_name name (get_or constituents number [])) files counted)).0.well

reported_plan_some : (stored : ModuleFiles) (name : List ℕ) (report : ReportValue) (files : Files) → HasFileCount stored → IsReport report → report.header.version ≡ Two →
    Answered (ReportedPlan stored name report files)
unfolding ReportedPlan module_in
reported_plan_some stored name report files counted is version =
    read_some (generators_in stored name files) _ (λ generators g.
    read_some (matrix_in files (basis_file name)) _ (λ basis b.
    read_some (constituents_in stored name (names report.factors) files) _ (λ lists f.
    read_some (checked_module generators) _ (λ m made.
    let zipped = read_each stored name (names report.factors) files lists f in
    let many : length lists ≡ length report.factors =
    zip_length (λ constituent list. generators_in stored (factor_name name constituent) files ≡ Ok list) (names report.factors) lists zipped
    ∙ length-map report.factors (λ (factor : FactorValue). factor.name) in
    let c : Certificate = record { report = report; m = m; basis = basis; factors = lists } in
    verifies_some c
    (some_answer c is version many (module_is_module stored name files m counted (ap (λ found. and_then found checked_module) g ∙ made))
    (subst (λ (answer : Result MatrixValue Problem). IfOk answer IsMatrix) b (matrix_in_is_matrix files (basis_file name)))
    (constituent_formed stored name files (names report.factors) lists counted zipped))))))

pub verify_plan_some : (layout : ModuleLayout) (name : List ℕ) (files : Files) → Answered (VerifyPlan layout name files)
unfolding VerifyPlan
verify_plan_some layout name files =
    then_some (IsReadFrom (report_file name) files) (CurrentReport (report_file name) files) _ has (current_report_some (report_file name) files) (λ report from.
    reported_plan_some (files_with layout report.header.gens) name report files
    (counted_files layout report.header.gens (record { some = from.is_report.header.some_generator; fits = from.is_report.header.gens })) from.is_report from.version)
  where
    has : (before : Result ReportValue Problem) → CurrentReport (report_file name) files before → IfOk before (IsReadFrom (report_file name) files)
    has (Ok report) current = read_from (report_file name) files report current
    has (Err problem) current = tt
