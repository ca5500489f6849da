-- The files of a composition series: their names, and when files hold one.
use Rattle.std.specs.Prelude.{◌≡◌, ℕ, List, [], ◌∷◌, ◌++◌, codes, slice_get, Some, Ok}
use Rattle.std.specs.List.{AllZip}
use Rattle.axe_matrix.specs.Matrices.{MatrixValue}
use Rattle.axe_spin.specs.Modules.{ModuleValue}
use Rattle.axe_series.specs.Series.{IsSeries}
use Rattle.axe_report.specs.Names.{names_of}
use Rattle.axe_report.specs.Reports.{WitnessValue, IsReportHeader}
use Rattle.axe_report.specs.Spelling.{report_bytes}
use Rattle.axe_report.specs.declared.report.ReportHeader.{ReportHeader}
use Rattle.axe_check.specs.Certificates.{WitnessLeavesOpen}
use Rattle.axe_chop.specs.Reported.{dims_of_factors, module_header, series_report, AreWitnessesOf}
use Rattle.axe_folder.specs.Files.{Files, file_at}
use Rattle.axe_arguments.specs.declared.command.ModuleFiles.{ModuleFiles}
use Rattle.axe_plan.specs.Inputs.{matrix_in, module_names, module_in}

-- ---- names

-- the file of the report on the module of this name
abbrev pub report_file : List ℕ → List ℕ
report_file name = name ++ codes ".rep"

-- the file of the basis that belongs to it
abbrev pub basis_file : List ℕ → List ℕ
basis_file name = name ++ codes ".bas"

-- the name under which a constituent stands as a module of its own: that of the whole module, and then the constituent's
abbrev pub factor_name : List ℕ → List ℕ → List ℕ
factor_name name constituent = name ++ constituent

-- the names of constituents of the module of this name
abbrev pub constituents_of : List ModuleValue → List (List ℕ)
constituents_of factors = names_of (dims_of_factors factors)

-- the files of constituents, each a module of its own
abbrev pub factor_files : ModuleFiles → List ℕ → List (List ℕ) → List (List ℕ)
factor_files stored name [] = []
factor_files stored name (constituent ∷ constituents) =
    module_names stored (factor_name name constituent) ++ factor_files stored name constituents

-- the files that a composition series has under a name, beside those of the module itself
abbrev pub series_files : ModuleFiles → List ℕ → List (List ℕ) → List (List ℕ)
series_files stored name constituents = report_file name ∷ basis_file name ∷ factor_files stored name constituents

-- ---- what they hold

-- the bytes of the report of a composition series
abbrev pub series_report_bytes : ReportHeader → List ModuleValue → List WitnessValue → List ℕ → List ℕ
series_report_bytes header factors witnesses places = report_bytes (series_report header factors witnesses places)

-- the files under a name hold a composition series of the module m: the module itself; a basis; each factor, as a
-- module under its name by the rule; and the report on them, in whose header the numbers are those of the module, with
-- a witness for each factor. All modules lie in such files
pub record HoldsSeries (stored : ModuleFiles) (m : ModuleValue) (name : List ℕ) (files : Files) : Type 0 where
  pub header : ReportHeader
  pub basis : MatrixValue
  pub factors : List ModuleValue
  pub witnesses : List WitnessValue
  pub places : List ℕ
  pub series : IsSeries m basis factors places
  pub of_module : header ≡ module_header m header.seed header.words
  pub in_range : IsReportHeader header
  pub witnessed : AreWitnessesOf header factors witnesses
  pub report_is : file_at files (report_file name) ≡ Some (series_report_bytes header factors witnesses places)
  pub basis_is : matrix_in files (basis_file name) ≡ Ok basis
  pub module_is : module_in stored name files ≡ Ok m
  pub factors_are :
      AllZip (λ constituent factor. module_in stored (factor_name name constituent) files ≡ Ok factor)
      (constituents_of factors) factors

-- no witness leaves its factor open, by the words of this seed
abbrev pub AllDecide : ℕ → List ModuleValue → List WitnessValue → Type 0
AllDecide seed factors witnesses =
    (number : ℕ) (factor : ModuleValue) (witness : WitnessValue) → slice_get factors number ≡ Some factor →
    slice_get witnesses number ≡ Some witness → ¬ (WitnessLeavesOpen factor seed witness)

-- the files under a name hold a certificate of the module m: a composition series of it, and no witness of the report
-- leaves its factor open
pub record HoldsCertificate (stored : ModuleFiles) (m : ModuleValue) (name : List ℕ) (files : Files) : Type 0 where
  pub holds : HoldsSeries stored m name files
  pub decided : AllDecide holds.header.seed holds.factors holds.witnesses
