-- At which line bytes are no report.
use Rattle.std.specs.Prelude.{◌≡◌, ℕ, ◌+◌, ◌-◌, ◌≤◌, ◌⊎◌, List, ◌++◌, length}
use Rattle.axe_report.specs.Reports.{FactorValue, ReportValue, IsReportHeader, AreFactors, AreWitnessed, IsReport}
use Rattle.axe_report.specs.Spelling.{opening_bytes, report_bytes}
use Rattle.axe_report.specs.declared.fault.ReportFault.{ReportFault}
use Rattle.axe_report.specs.declared.fault.ReportFault.TheVariants.{BadReport, OldReport, Memory}
use Rattle.axe_report.specs.declared.report.ReportHeader.{ReportHeader}

-- the bytes begin with so many lines of which the first is a header, and the others are the lines of constituents that
-- may be the first ones of a report with this header, each with its witness by the version of the header
pub record BeginsWithOpening (bytes : List ℕ) (lines : ℕ) : Type 0 where
  pub header : ReportHeader
  pub factors : List FactorValue
  pub rest : List ℕ
  pub is_header : IsReportHeader header
  pub are_factors : AreFactors header.dim factors
  pub are_witnessed : AreWitnessed header factors
  pub count : lines ≡ length factors + 1
  pub spelled : bytes ≡ opening_bytes header factors ++ rest

-- the bytes begin with a whole report of so many lines
pub record BeginsWithReport (bytes : List ℕ) (lines : ℕ) : Type 0 where
  pub report : ReportValue
  pub rest : List ℕ
  pub is_report : IsReport report
  pub count : lines ≡ length report.factors + 2
  pub spelled : bytes ≡ report_bytes report ++ rest

-- so many lines pass: there are none to look at, or the bytes begin with so many lines that may stand at the front of a
-- report, or that are one
abbrev pub LinesPass : List ℕ → ℕ → Type 0
LinesPass bytes lines = (lines ≡ 0) ⊎ (BeginsWithOpening bytes lines ⊎ BeginsWithReport bytes lines)

-- the bytes are the spelling of a report
abbrev pub IsSpelling : List ℕ → Type 0
IsSpelling bytes = (report : ReportValue) × IsReport report × (bytes ≡ report_bytes report)

-- this is the first line that fails, lines counted from 1: the bytes are no report, the lines before it pass, and with
-- it they do not; the rest of the bytes after a whole report is a line that fails
pub record FailsFirstAt (bytes : List ℕ) (line : ℕ) : Type 0 where
  pub some_line : 1 ≤ line
  pub no_report : IsSpelling bytes → ⊥
  pub before : LinesPass bytes (line - 1)
  pub fails : LinesPass bytes line → ⊥

-- the reader may refuse with this fault
abbrev pub RefusesReport : List ℕ → ReportFault → Type 0
RefusesReport bytes (BadReport line) = FailsFirstAt bytes line
RefusesReport bytes OldReport = ⊥
RefusesReport bytes Memory = Unit {0}
