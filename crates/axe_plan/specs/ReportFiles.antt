-- Reports in files.
use Rattle.std.specs.Prelude.{◌≡◌, ℕ, List, Ok, Err}
use Rattle.axe_report.specs.Limits.{most_report_bytes}
use Rattle.axe_report.specs.Passing.{FailsFirstAt}
use Rattle.axe_report.specs.Reports.{ReportValue, IsReport}
use Rattle.axe_report.specs.Spelling.{report_bytes}
use Rattle.axe_report.specs.declared.fault.ReportFault.TheVariants.{BadReport}
use Rattle.axe_folder.specs.Files.{Files}
use Rattle.axe_fault.specs.Causes.{Problem, Unreported}
use Rattle.axe_plan.specs.Inputs.{bytes_in}
use Rattle.axe_plan.specs.Meanings.{Meaning, Is, ◌>>=◌}

-- the report that these bytes of the file of a name spell, or the first line of them that fails
abbrev pub SpellsReport : List ℕ → List ℕ → Meaning ReportValue
SpellsReport name bytes (Ok report) = IsReport report × (bytes ≡ report_bytes report)
SpellsReport name bytes (Err problem) =
    (line : ℕ) × FailsFirstAt bytes line × (problem ≡ Unreported name (BadReport line))

-- the report that the file of this name spells
unfoldable pub ReportIn : List ℕ → Files → Meaning ReportValue
ReportIn name files = do
  bytes ← Is (bytes_in files name most_report_bytes)
  SpellsReport name bytes
