-- What is read of a report's file: it is right, it is the only answer, and there is one.
use Rattle.std.proofs.Common.{◌≡◌, refl, sym, ◌∙◌, ap, subst, ℕ, List, [], ◌++◌, Result, Ok, Err, IfOk, String, Global, string_bytes, ◌⊎◌, inl, inr}
use Rattle.std.specs.Prelude.{⊤}
use Rattle.axe_report.specs.Limits.{most_report_bytes}
use Rattle.axe_report.specs.Passing.{IsSpelling, FailsFirstAt, RefusesReport}
use Rattle.axe_report.specs.Reports.{ReportValue, IsReport}
use Rattle.axe_report.specs.Spelling.{report_bytes}
use Rattle.axe_report.specs.declared.fault.ReportFault.{ReportFault}
use Rattle.axe_report.specs.declared.fault.ReportFault.TheVariants.{BadReport, OldReport, Memory}
use Rattle.axe_report.proofs.Failing.{one_line}
use Rattle.axe_report.proofs.Unique.{report_apart}
use Rattle.axe_report.proofs.Deciding.{answered}
use Rattle.axe_folder.specs.Files.{Files}
use Rattle.axe_fault.specs.Causes.{Problem, Unreported}
use Rattle.axe_fault.specs.Faults.{report_fault}
use Rattle.axe_plan.specs.Inputs.{bytes_in}
use Rattle.axe_plan.specs.Meanings.{Meaning, Answered, AtMostOne, Is, ◌>>=◌}
use Rattle.axe_plan.specs.Outcome.{Agrees}
use Rattle.axe_plan.specs.ReportFiles.{SpellsReport, ReportIn}
use Rattle.axe_plan.proofs.OneAnswer.{is_one, then_one}
use Rattle.axe_plan.proofs.SomeAnswer.{then_some}

-- the fault of a reader is right
pub report_fault_agrees : (name : String Global) (file bytes : List ℕ) (fault : ReportFault) → string_bytes name ≡ file → RefusesReport bytes fault →
    Agrees [] (λ (report : ReportValue). report) (Err (report_fault name fault)) (SpellsReport file bytes)
report_fault_agrees name file bytes (BadReport line) e fails = (line, fails, ap (λ (n : List ℕ). Unreported n (BadReport line)) e)
report_fault_agrees name file bytes OldReport e never = absurd never
report_fault_agrees name file bytes Memory e any = tt

-- a report and a line that fails do not go together
report_or_line : (name bytes : List ℕ) → AtMostOne (SpellsReport name bytes)
report_or_line name bytes (Ok a) (Ok b) (is, e) (is', e') = ap Ok (report_apart a b is is' (sym e ∙ e'))
report_or_line name bytes (Ok a) (Err problem) (is, e) (line, fails, p) = absurd (fails.no_report (a, is, e))
report_or_line name bytes (Err problem) (Ok b) (line, fails, p) (is, e) = absurd (fails.no_report (b, is, e))
report_or_line name bytes (Err problem) (Err other) (line, fails, p) (line', fails', p') =
    ap Err (p ∙ ap (λ (n : ℕ). Unreported name (BadReport n)) (one_line bytes line line' fails fails') ∙ sym p')

some_report_or_line : (name bytes : List ℕ) → Answered (SpellsReport name bytes)
some_report_or_line name bytes = cases (answered bytes)
  where
    cases : IsSpelling bytes ⊎ ((line : ℕ) × FailsFirstAt bytes line) → Answered (SpellsReport name bytes)
    cases (inl (report, is, e)) = (Ok report, (is, e))
    cases (inr (line, fails)) = (Err (Unreported name (BadReport line)), (line, fails, refl))

-- anything
any : {A : Type 0} (before : Result A Problem) → IfOk before (λ value. ⊤)
any (Ok value) = tt
any (Err problem) = tt

pub report_in_one : (name : List ℕ) (files : Files) → AtMostOne (ReportIn name files)
unfolding ReportIn
report_in_one name files =
    then_one (λ bytes. ⊤) (Is (bytes_in files name most_report_bytes)) (SpellsReport name) (λ before is. any before) (is_one (bytes_in files name most_report_bytes))
    (λ bytes is. report_or_line name bytes)

pub report_in_some : (name : List ℕ) (files : Files) → Answered (ReportIn name files)
unfolding ReportIn
report_in_some name files =
    then_some (λ bytes. ⊤) (Is (bytes_in files name most_report_bytes)) (SpellsReport name) (λ before is. any before) (bytes_in files name most_report_bytes, refl)
    (λ bytes is. some_report_or_line name bytes)

-- what is read is a report
spelled_is_report : (name bytes : List ℕ) (answer : Result ReportValue Problem) → SpellsReport name bytes answer → IfOk answer IsReport
spelled_is_report name bytes (Ok report) right = right.0
spelled_is_report name bytes (Err problem) right = tt

pub read_is_report : (name : List ℕ) (files : Files) (answer : Result ReportValue Problem) → ReportIn name files answer → IfOk answer IsReport
unfolding ReportIn
read_is_report name files answer (Ok bytes, is, right) = spelled_is_report name bytes answer right
read_is_report name files (Ok report) (Err problem, is, right) = absurd cc
read_is_report name files (Err other) (Err problem, is, right) = tt
