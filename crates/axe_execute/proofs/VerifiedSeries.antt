-- What `verify` says of files: with a yes they hold a composition series.
use Rattle.std.proofs.Common.{◌≡◌, refl, sym, subst, ◌∙◌, ap, ℕ, zero, suc, ◌+◌, ◌<◌, ◌≤◌, List, [], ◌∷◌, length, map, get_or, slice_get, Option, Some, None, Result, Ok, Err, IfOk, Bool, true, false, nat_lt, if◌then◌else◌, ext_get_or, arith}
use Rattle.std.specs.List.{All, AllZip, range_with_len}
use Rattle.std.proofs.lemmas.List.{length-map, get_or-map}
use Rattle.std.proofs.lemmas.List.Elements.{All-nil, All-cons, All-head, All-tail}
use Rattle.std.proofs.lemmas.Option.{slice_get_within, slice_get-get_or, get_or_from_slice_get}
use Rattle.axe_algebra.specs.Lists.{listed}
use Rattle.axe_algebra.proofs.ListEntries.{listed_length, listed_at}
use Rattle.axe_matrix.specs.Matrices.{MatrixValue, IsMatrix}
use Rattle.axe_spin.specs.Modules.{ModuleValue, IsModule, rows_of_each}
use Rattle.axe_action.proofs.GeneratorLists.{module_of_generators}
use Rattle.axe_report.specs.Limits.{most_report_bytes}
use Rattle.axe_report.specs.Names.{count_of, names_of}
use Rattle.axe_report.specs.Reports.{WitnessValue, FactorValue, ReportValue, names, dims, multiplicities, counts_in, IsReportHeader, IsWitnessUnder, IsWitnessIn, IsWitnessed, AreWitnessed, IsReport}
use Rattle.axe_report.specs.Spelling.{report_bytes}
use Rattle.axe_report.specs.declared.report.ReportHeader.{ReportHeader}
use Rattle.axe_report.specs.declared.report.Version.{Version}
use Rattle.axe_report.specs.declared.report.Version.TheVariants.{One, Two}
use Rattle.axe_report.proofs.NumberedFactors.{numbered_factor, numbered_by_parts}
use Rattle.axe_check.specs.Certificates.{Certificate, IsCertified, HasShape, IsSquareOfSize, module_with, WitnessLeavesOpen, factor_of, factors_of, factor_count, dim_of, matrices_of}
use Rattle.axe_chop.specs.Reported.{dims_of_factors, reported_factor, module_header, series_report, AreWitnessesOf}
use Rattle.axe_folder.specs.declared.fault.FolderFault.{FolderFault}
use Rattle.axe_folder.specs.declared.fault.FolderFault.TheVariants.{TooLong}
use Rattle.axe_folder.specs.Files.{Files, file_at}
use Rattle.axe_folder.specs.Outcomes.{fetched}
use Rattle.axe_arguments.specs.Commands.{HasFileCount}
use Rattle.axe_arguments.specs.Counts.{IsGeneratorCount}
use Rattle.axe_arguments.specs.Layouts.{files_with}
use Rattle.axe_arguments.specs.declared.command.ModuleFiles.{ModuleFiles}
use Rattle.axe_arguments.specs.declared.command.ModuleLayout.{ModuleLayout}
use Rattle.axe_arguments.specs.declared.command.ModuleLayout.TheVariants.{Separate, Whole}
use Rattle.axe_fault.specs.Causes.{Problem}
use Rattle.axe_plan.specs.Plans.{Plan}
use Rattle.axe_plan.specs.Meanings.{Meaning, Is, ◌>>=◌}
use Rattle.axe_plan.specs.Inputs.{and_then, fetch_named, or_refuses, bytes_in, matrix_in, generators_in, checked_module, module_in}
use Rattle.axe_plan.specs.ReportFiles.{SpellsReport, ReportIn}
use Rattle.axe_plan.proofs.ReadModules.{AreRead, HasAsMany, generators_are_read}
use Rattle.axe_execute.specs.SeriesFiles.{report_file, basis_file, factor_name, constituents_of, series_report_bytes, HoldsSeries, HoldsCertificate}
use Rattle.axe_execute.specs.VerifyCommand.{unless_old, CurrentReport, constituents_in, verified_plan, Verifies, ReportedPlan, VerifyPlan, FindsSeries}

-- ---- one thing after another, with a value at the end

-- what comes first has a value, and so has what comes after it
pub both_values : {A B : Type 0} (first : Meaning A) (next : A → Meaning B) (b : B) → (first >>= next) (Ok b) → (a : A) × first (Ok a) × next a (Ok b)
both_values first next b (Ok a, is, right) = (a, is, right)
both_values first next b (Err problem, is, right) = absurd cc

pub both_read : {A B : Type 0} (first : Result A Problem) (next : A → Result B Problem) (b : B) → and_then first next ≡ Ok b → (a : A) × (first ≡ Ok a) × (next a ≡ Ok b)
both_read (Ok a) next b e = (a, refl, e)
both_read (Err problem) next b e = absurd cc

pub same_value : {A : Type 0} (a b : A) → ◌≡◌ {A = Result A Problem} (Ok a) (Ok b) → a ≡ b
same_value a b e = cc

-- ---- the report

-- a report that is not refused is of version 2
current_is : (file : List ℕ) (v : Version) (report found : ReportValue) → unless_old file v report ≡ Ok found → (v ≡ Two) × (report ≡ found)
current_is file One report found e = absurd cc
current_is file Two report found e = (refl, same_value report found e)

-- bytes that are fetched are those of the file
file_of_bytes : (files : Files) (name : List ℕ) (limit : ℕ) (bytes : List ℕ) → bytes_in files name limit ≡ Ok bytes → file_at files name ≡ Some bytes
unfolding bytes_in
file_of_bytes files name limit bytes e = cases (file_at files name) e
  where
    whole : (file : List ℕ) (long : Bool) → fetch_named name (if long then Err TooLong else Ok file) ≡ Ok bytes → file ≡ bytes
    whole file true fine = absurd cc
    whole file false fine = same_value file bytes fine

    cases : (file : Option (List ℕ)) → fetch_named name (fetched file limit) ≡ Ok bytes → file ≡ Some bytes
    cases None fine = absurd cc
    cases (Some file) fine = ap (λ (l : List ℕ). Some l) (whole file (nat_lt limit (length file)) fine)

-- a report that is read from a file
pub record IsReadFrom (file : List ℕ) (files : Files) (report : ReportValue) : Type 0 where
  pub here : file_at files file ≡ Some (report_bytes report)
  pub is_report : IsReport report
  pub version : report.header.version ≡ Two

pub read_from : (file : List ℕ) (files : Files) (report : ReportValue) → CurrentReport file files (Ok report) → IsReadFrom file files report
unfolding CurrentReport ReportIn
read_from file files report current =
    let found = both_values (ReportIn file files) (λ report. Is (unless_old file report.header.version report)) report current in
    let read = both_values (Is (bytes_in files file most_report_bytes)) (SpellsReport file) found.0 found.1 in
    let is = current_is file found.0.header.version found.0 report found.2 in
    let from : IsReadFrom file files found.0 = record {
      here = file_of_bytes files file most_report_bytes read.0 read.1 ∙ ap (λ (l : List ℕ). Some l) read.2.1;
      is_report = read.2.0;
      version = is.0;
    } in
    subst (IsReadFrom file files) is.1 from

-- ---- witnesses

-- a witness that is there, and else any
abbrev witness_value : Option WitnessValue → WitnessValue
witness_value (Some witness) = witness
witness_value None = record { word = 0; poly = None }

abbrev witness_values : List FactorValue → List WitnessValue
witness_values factors = map (λ (factor : FactorValue). witness_value factor.witness) factors

some_witness : (v : Version) (header : ReportHeader) (witness : Option WitnessValue) → v ≡ Two → IsWitnessIn v header witness →
    (witness ≡ Some (witness_value witness)) × IsWitnessUnder header (witness_value witness)
some_witness One header witness is seen = absurd cc
some_witness Two header None is seen = absurd seen
some_witness Two header (Some witness) is seen = (refl, seen)

all_seen : (header : ReportHeader) (factors : List FactorValue) → header.version ≡ Two → AreWitnessed header factors →
    map (λ (f : FactorValue). f.witness) factors ≡ map (λ (w : WitnessValue). Some w) (witness_values factors)
all_seen header [] two seen = refl
all_seen header (f ∷ factors) two seen =
    let one = some_witness header.version header f.witness two (All-head (IsWitnessed header) f factors seen) in
    let rest = all_seen header factors two (All-tail (IsWitnessed header) f factors seen) in
    λ i. one.0 i ∷ rest i

all_under : (header : ReportHeader) (factors : List FactorValue) → header.version ≡ Two → AreWitnessed header factors → All (IsWitnessUnder header) (witness_values factors)
all_under header [] two seen = All-nil (IsWitnessUnder header)
all_under header (f ∷ factors) two seen =
    let one = some_witness header.version header f.witness two (All-head (IsWitnessed header) f factors seen) in
    All-cons (IsWitnessUnder header) (witness_value f.witness) (witness_values factors) one.1 (all_under header factors two (All-tail (IsWitnessed header) f factors seen))

-- ---- constituents

-- the matrices of each constituent are those of its files
pub read_each : (stored : ModuleFiles) (name : List ℕ) (constituents : List (List ℕ)) (files : Files) (lists : List (List MatrixValue)) →
    constituents_in stored name constituents files ≡ Ok lists →
    AllZip (λ constituent list. generators_in stored (factor_name name constituent) files ≡ Ok list) constituents lists
read_each stored name [] files [] e = tt
read_each stored name [] files (list ∷ lists) e = absurd (let none : ◌≡◌ {A = List (List MatrixValue)} [] (list ∷ lists) = same_value [] (list ∷ lists) e in cc)
read_each stored name (c ∷ constituents) files lists e =
    let first = both_read (generators_in stored (factor_name name c) files) (λ first. and_then (constituents_in stored name constituents files) (λ rest. Ok (first ∷ rest))) lists e in
    let rest = both_read (constituents_in stored name constituents files) (λ rest. Ok (first.0 ∷ rest)) lists first.2 in
    subst (λ (all : List (List MatrixValue)). AllZip (λ constituent list. generators_in stored (factor_name name constituent) files ≡ Ok list) (c ∷ constituents) all)
    (same_value (first.0 ∷ rest.0) lists rest.2) (first.1, read_each stored name constituents files rest.0 rest.1)

-- matrices of one shape make a module
shaped_made : (m : ModuleValue) (dim : ℕ) (matrices : List MatrixValue) → 1 ≤ length matrices → All IsMatrix matrices → HasShape m dim matrices →
    checked_module matrices ≡ Ok (module_with m.order dim matrices)
unfolding checked_module
shaped_made m dim matrices some formed shape =
    ap or_refuses (module_of_generators m.order dim matrices some (λ i d inside.
    let square : IsSquareOfSize m.order dim (get_or matrices i d) = shape.squares i d inside in
    record { field = square.field; columns = square.columns; rows = square.rows; well_formed = formed i d inside }))

module_of_shape : (stored : ModuleFiles) (name : List ℕ) (files : Files) (m : ModuleValue) (dim : ℕ) (matrices : List MatrixValue) → HasFileCount stored →
    generators_in stored name files ≡ Ok matrices → HasShape m dim matrices → module_in stored name files ≡ Ok (module_with m.order dim matrices)
unfolding module_in
module_of_shape stored name files m dim matrices counted e shape =
    let read : AreRead matrices × HasAsMany stored (length matrices) =
    subst (λ (answer : Result (List MatrixValue) Problem). IfOk answer (λ matrices. AreRead matrices × HasAsMany stored (length matrices))) e (generators_are_read stored name files counted) in
    ap (λ found. and_then found checked_module) e ∙ shaped_made m dim matrices read.0.some read.0.well shape

-- what holds of the members of two lists, from what holds of those of each number, and the other way round
zip_from : {A B : Type 0} (R : A → B → Type 0) (xs : List A) (first n : ℕ) (f : ℕ → B) → length xs ≡ n → ((i : ℕ) (d : A) → i < n → R (get_or xs i d) (f (first + i))) →
    AllZip R xs (map f (range_with_len first n))
zip_from R [] first zero f count each = tt
zip_from R [] first (suc n) f count each = absurd (omega (arith, count))
zip_from R (x ∷ xs) first zero f count each = absurd (omega (arith, count))
zip_from R (x ∷ xs) first (suc n) f count each =
    let here : first + 0 ≡ first = omega arith in (
      subst (λ k. R x (f k)) here (each 0 x (omega arith)),
      zip_from R xs (first + 1) n f (omega (arith, count)) (λ i d below.
          let next : first + suc i ≡ first + 1 + i = omega arith in
          subst (λ k. R (get_or xs i d) (f k)) next (each (suc i) d (omega arith))),
    )

pub zip_at : {A B : Type 0} (R : A → B → Type 0) (xs : List A) (ys : List B) (i : ℕ) (d : A) (e : B) → AllZip R xs ys → i < length xs → R (get_or xs i d) (get_or ys i e)
zip_at R [] ys i d e all below = absurd (omega arith)
zip_at R (x ∷ xs) [] i d e all below = absurd all
zip_at R (x ∷ xs) (y ∷ ys) zero d e all below = all.0
zip_at R (x ∷ xs) (y ∷ ys) (suc i) d e all below = zip_at R xs ys i d e all.1 (omega arith)

pub zip_length : {A B : Type 0} (R : A → B → Type 0) (xs : List A) (ys : List B) → AllZip R xs ys → length ys ≡ length xs
zip_length R [] [] all = refl
zip_length R [] (y ∷ ys) all = absurd all
zip_length R (x ∷ xs) [] all = absurd all
zip_length R (x ∷ xs) (y ∷ ys) all = omega (arith, zip_length R xs ys all.1)

-- ---- a right certificate

module _ (stored : ModuleFiles) (name : List ℕ) (files : Files) (c : Certificate) (from : IsReadFrom (report_file name) files c.report)
    (counted : HasFileCount stored) (module_is : module_in stored name files ≡ Ok c.m) (basis_is : matrix_in files (basis_file name) ≡ Ok c.basis)
    (lists_are : constituents_in stored name (names c.report.factors) files ≡ Ok c.factors) (right : IsCertified c) where
  abbrev fs : List FactorValue
  fs = c.report.factors

  abbrev zipped : AllZip (λ constituent list. generators_in stored (factor_name name constituent) files ≡ Ok list) (names fs) c.factors
  zipped = read_each stored name (names fs) files c.factors lists_are

  many : factor_count c ≡ length fs
  many = zip_length (λ constituent list. generators_in stored (factor_name name constituent) files ≡ Ok list) (names fs) c.factors zipped ∙ length-map fs (λ (f : FactorValue). f.name)

  -- the dimensions that the report gives them are those of the constituents
  dims_are : dims_of_factors (factors_of c) ≡ dims fs
  dims_are =
      ext_get_or 0 (dims_of_factors (factors_of c)) (dims fs)
      (length-map (factors_of c) (λ (m : ModuleValue). m.dim) ∙ listed_length (factor_count c) (factor_of c) ∙ many ∙ sym (length-map fs (λ (f : FactorValue). f.dim)))
      (λ i inside. at i (omega (arith, inside, length-map (factors_of c) (λ (m : ModuleValue). m.dim), listed_length (factor_count c) (factor_of c))))
    where
      at : (i : ℕ) → i < factor_count c → get_or (dims_of_factors (factors_of c)) i 0 ≡ get_or (dims fs) i 0
      at i below =
          get_or-map (λ (m : ModuleValue). m.dim) (factors_of c) i (factor_of c i) 0 (omega (arith, below, listed_length (factor_count c) (factor_of c)))
          ∙ ap (λ (m : ModuleValue). m.dim) (listed_at (factor_count c) (factor_of c) i (factor_of c i) below)

  names_are : constituents_of (factors_of c) ≡ names fs
  names_are = ap names_of dims_are ∙ sym from.is_report.factors.named

  abbrev ws : List WitnessValue
  ws = witness_values fs

  header_is : c.report.header ≡ module_header c.m c.report.header.seed c.report.header.words
  header_is = λ i. record {
    version = from.version i;
    field = right.header.field i;
    dim = right.header.dimension i;
    gens = right.header.count i;
    seed = c.report.header.seed;
    words = c.report.header.words;
  }

  factors_listed : fs ≡ listed (length (factors_of c)) (reported_factor (factors_of c) ws c.report.series)
  factors_listed =
      numbered_by_parts (dims fs) ws c.report.series fs from.is_report.factors.named refl
      (from.is_report.series.counted ∙ ap (counts_in c.report.series) (sym (length-map fs (λ (f : FactorValue). f.dim)))) (all_seen c.report.header fs from.version from.is_report.witnessed)
      ∙ (λ i. listed (counts i) (numbered_factor (sized i) ws c.report.series))
    where
      counts : length (dims fs) ≡ length (factors_of c)
      counts = length-map fs (λ (f : FactorValue). f.dim) ∙ sym many ∙ sym (listed_length (factor_count c) (factor_of c))

      sized : dims fs ≡ dims_of_factors (factors_of c)
      sized = sym dims_are

  report_listed : c.report ≡ series_report c.report.header (factors_of c) ws c.report.series
  unfolding series_report
  report_listed = λ i. record { header = c.report.header; factors = factors_listed i; series = c.report.series }

  constituent_is : (i : ℕ) (d : List ℕ) → i < factor_count c → module_in stored (factor_name name (get_or (names fs) i d)) files ≡ Ok (factor_of c i)
  constituent_is i d below =
      module_of_shape stored (factor_name name (get_or (names fs) i d)) files c.m (dim_of c i) (matrices_of c i) counted
      (zip_at (λ constituent list. generators_in stored (factor_name name constituent) files ≡ Ok list) (names fs) c.factors i d [] zipped
      (omega (arith, below, many, length-map fs (λ (f : FactorValue). f.name)))) (right.shapes i below)

  pub found_series : HoldsSeries stored c.m name files
  found_series = record {
    header = c.report.header;
    basis = c.basis;
    factors = factors_of c;
    witnesses = ws;
    places = c.report.series;
    series = right.series;
    of_module = header_is;
    in_range = from.is_report.header;
    witnessed = record {
      count = length-map fs (λ (f : FactorValue). witness_value f.witness) ∙ sym many ∙ sym (listed_length (factor_count c) (factor_of c));
      each = all_under c.report.header fs from.version from.is_report.witnessed;
    };
    report_is = from.here ∙ ap (λ (r : ReportValue). Some (report_bytes r)) report_listed;
    basis_is = basis_is;
    module_is = module_is;
    factors_are =
        subst (λ (constituents : List (List ℕ)). AllZip (λ constituent factor. module_in stored (factor_name name constituent) files ≡ Ok factor) constituents (factors_of c)) (sym names_are)
        (zip_from (λ constituent factor. module_in stored (factor_name name constituent) files ≡ Ok factor) (names fs) 0 (factor_count c) (factor_of c)
        (length-map fs (λ (f : FactorValue). f.name) ∙ sym many) (λ i d below.
        let same : 0 + i ≡ i = omega arith in
        subst (λ k. module_in stored (factor_name name (get_or (names fs) i d)) files ≡ Ok (factor_of c k)) (sym same) (constituent_is i d below)));
  }

  -- and so do the witnesses
  pub found_certificate : HoldsCertificate stored c.m name files
  unfolding found_series
  found_certificate = record {
    holds = found_series;
    decided = λ number factor witness at there left.
        let below : number < factor_count c = omega (arith, slice_get_within (factors_of c) number factor at, listed_length (factor_count c) (factor_of c)) in
        let is : factor ≡ factor_of c number =
        sym (get_or_from_slice_get (factors_of c) number factor factor at) ∙ listed_at (factor_count c) (factor_of c) number factor below in
        right.decided number below (record {
          witness = witness;
          named =
              ap (λ (l : List (Option WitnessValue)). get_or l number None) (all_seen c.report.header fs from.version from.is_report.witnessed)
              ∙ get_or-map (λ (w : WitnessValue). Some w) ws number witness None (slice_get_within ws number witness there)
              ∙ ap (λ (w : WitnessValue). Some w) (get_or_from_slice_get ws number witness witness there);
          says = subst (λ (m : ModuleValue). WitnessLeavesOpen m c.report.header.seed witness) is left;
        });
  }

-- ---- a yes

pub counted_files : (layout : ModuleLayout) (count : ℕ) → IsGeneratorCount count → HasFileCount (files_with layout count)
counted_files Separate count is = is
counted_files Whole count is = tt

pub series_found : (layout : ModuleLayout) (name : List ℕ) (files : Files) (plan : Plan) → VerifyPlan layout name files (Ok plan) → FindsSeries layout name files plan
unfolding VerifyPlan ReportedPlan module_in
series_found layout name files plan meaning =
    let r = both_values (CurrentReport (report_file name) files) _ plan meaning in
    let stored = files_with layout r.0.header.gens in
    let g = both_values (Is (generators_in stored name files)) _ plan r.2 in
    let b = both_values (Is (matrix_in files (basis_file name))) _ plan g.2 in
    let f = both_values (Is (constituents_in stored name (names r.0.factors) files)) _ plan b.2 in
    let made = both_values (Is (checked_module g.0)) _ plan f.2 in
    let c : Certificate = record { report = r.0; m = made.0; basis = b.0; factors = f.0 } in
    let from = read_from (report_file name) files r.0 r.1 in
    let counted = counted_files layout r.0.header.gens (record { some = from.is_report.header.some_generator; fits = from.is_report.header.gens }) in
    record {
      m = made.0;
      holds = subst (λ (count : ℕ). HoldsCertificate (files_with layout count) made.0 name files) made.2.0.header.count
          (found_certificate stored name files c from counted (ap (λ found. and_then found checked_module) g.1 ∙ made.1) b.1 f.1 made.2.0);
      plan_is = made.2.1;
    }
