-- What `verify` means is one plan or one problem.
use Rattle.std.proofs.Common.{◌≡◌, refl, sym, ◌∙◌, ap, ℕ, List, Result, Ok, Err, IfOk}
use Rattle.std.specs.Prelude.{⊤}
use Rattle.axe_matrix.specs.Matrices.{MatrixValue}
use Rattle.axe_report.specs.Reasons.{reason_text}
use Rattle.axe_report.specs.Reports.{ReportValue, names}
use Rattle.axe_report.specs.declared.reasons.Reason.{Reason}
use Rattle.axe_check.specs.Certificates.{Certificate, IsCertified}
use Rattle.axe_check.specs.Reasons.{IsFirstReason}
use Rattle.axe_check.proofs.RightCertificates.{no_reason}
use Rattle.axe_check.proofs.OneReason.{one_reason}
use Rattle.axe_folder.specs.Files.{Files}
use Rattle.axe_arguments.specs.Layouts.{files_with}
use Rattle.axe_arguments.specs.declared.command.ModuleFiles.{ModuleFiles}
use Rattle.axe_arguments.specs.declared.command.ModuleLayout.{ModuleLayout}
use Rattle.axe_fault.specs.Causes.{Problem, Uncertified}
use Rattle.axe_plan.specs.Plans.{Plan}
use Rattle.axe_plan.specs.Meanings.{Meaning, Answered, AtMostOne, Is}
use Rattle.axe_plan.specs.ReportFiles.{ReportIn}
use Rattle.axe_plan.proofs.OneAnswer.{is_one, then_one}
use Rattle.axe_plan.proofs.SomeAnswer.{then_some}
use Rattle.axe_plan.proofs.ReportAnswers.{report_in_one, report_in_some}
use Rattle.axe_execute.specs.SeriesFiles.{report_file, basis_file}
use Rattle.axe_execute.specs.VerifyCommand.{unless_old, CurrentReport, constituents_in, verified_plan, Verifies, ReportedPlan, VerifyPlan}
use Rattle.axe_execute.proofs.PlanParts.{any_value}

verifies_one : (c : Certificate) → AtMostOne (Verifies c)
verifies_one c (Ok a) (Ok b) first second = ap Ok (first.1 ∙ sym second.1)
verifies_one c (Ok a) (Err problem) first (reason, is, e) = absurd (no_reason c reason first.0 is)
verifies_one c (Err problem) (Ok b) (reason, is, e) second = absurd (no_reason c reason second.0 is)
verifies_one c (Err problem) (Err other) (reason, is, e) (reason', is', e') =
    ap Err (e ∙ ap Uncertified (one_reason c reason reason' is is') ∙ sym e')

current_report_one : (file : List ℕ) (files : Files) → AtMostOne (CurrentReport file files)
unfolding CurrentReport
current_report_one file files =
    then_one (λ report. ⊤) (ReportIn file files) _ (λ before right. any_value before) (report_in_one file files)
    (λ report known. is_one (unless_old file report.header.version report))

reported_plan_one : (stored : ModuleFiles) (name : List ℕ) (report : ReportValue) (files : Files) → AtMostOne (ReportedPlan stored name report files)
unfolding ReportedPlan
reported_plan_one stored name report files =
    then_one (λ generators. ⊤) (Is _) _ (λ before right. any_value before) (is_one _) (λ generators known.
    then_one (λ basis. ⊤) (Is _) _ (λ before right. any_value before) (is_one _) (λ basis known.
    then_one (λ factors. ⊤) (Is _) _ (λ before right. any_value before) (is_one _) (λ factors known.
    then_one (λ m. ⊤) (Is _) _ (λ before right. any_value before) (is_one _) (λ m known.
    verifies_one (record { report = report; m = m; basis = basis; factors = factors })))))

pub verify_plan_one : (layout : ModuleLayout) (name : List ℕ) (files : Files) → AtMostOne (VerifyPlan layout name files)
unfolding VerifyPlan
verify_plan_one layout name files =
    then_one (λ report. ⊤) (CurrentReport (report_file name) files) _ (λ before right. any_value before) (current_report_one (report_file name) files)
    (λ report known. reported_plan_one (files_with layout report.header.gens) name report files)
