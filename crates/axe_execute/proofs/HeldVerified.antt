-- Files that hold a composition series are verified.
use Rattle.std.proofs.Common.{◌≡◌, refl, sym, subst, ◌∙◌, ap, ℕ, ◌^◌, ◌<◌, ◌≤◌, List, [], ◌∷◌, length, map, get_or, slice_get, Option, Some, None, Result, Ok, Err, Bool, true, false, not, ◌==◌, if◌then◌else◌, ext_get_or, arith}
use Rattle.std.specs.List.{All, AllZip}
use Rattle.std.proofs.lemmas.Bool.{eqb-true}
use Rattle.std.proofs.lemmas.List.{length-map, get_or-map}
use Rattle.std.proofs.lemmas.List.Elements.{All-nil, All-cons}
use Rattle.std.proofs.lemmas.Option.{slice_get-get_or}
use Rattle.axe_algebra.specs.Lists.{listed}
use Rattle.axe_algebra.proofs.ListEntries.{listed_length, listed_at}
use Rattle.axe_field.specs.Order.{Order, order_number}
use Rattle.axe_field.proofs.Orders.{order_number-injective}
use Rattle.axe_row.specs.declared.refusals.Refusal.{Refusal}
use Rattle.axe_row.specs.declared.refusals.Refusal.TheVariants.{NoRows, NotSquare, FieldsDiffer, ShapesDiffer}
use Rattle.axe_row.specs.Refusals.{first_of, unless_refused}
use Rattle.axe_matrix.specs.Matrices.{MatrixValue}
use Rattle.axe_spin.specs.Modules.{ModuleValue, IsModule, generator_refusal, generators_refusal, rows_of_each}
use Rattle.axe_series.specs.Series.{IsSeries, IsBlockOf, sizes_of_places}
use Rattle.axe_report.specs.Limits.{most_report_bytes}
use Rattle.axe_report.specs.Names.{names_of}
use Rattle.axe_report.specs.Reports.{WitnessValue, FactorValue, ReportValue, names, dims, IsReport}
use Rattle.axe_report.specs.Spelling.{report_bytes}
use Rattle.axe_report.specs.declared.report.ReportHeader.{ReportHeader}
use Rattle.axe_report.specs.declared.report.Version.TheVariants.{Two}
use Rattle.axe_report.proofs.Sizes.{report_within}
use Rattle.axe_check.specs.Certificates.{Certificate, IsCertified, HasShape, IsSquareOfSize, WitnessLeavesOpen, witnesses, factor_of, factors_of, factor_count, dim_of, matrices_of}
use Rattle.axe_chop.specs.Reported.{dims_of_factors, reported_factor, module_header, series_report, AreWitnessesOf}
use Rattle.axe_chop.proofs.SeriesReports.{series_has_report}
use Rattle.axe_folder.specs.declared.fault.FolderFault.{FolderFault}
use Rattle.axe_folder.specs.Files.{Files, file_at}
use Rattle.axe_folder.specs.Outcomes.{fetched}
use Rattle.axe_arguments.specs.Commands.{HasFileCount}
use Rattle.axe_arguments.specs.Layouts.{files_with}
use Rattle.axe_arguments.specs.declared.command.ModuleFiles.{ModuleFiles}
use Rattle.axe_arguments.specs.Counts.{IsWordCount}
use Rattle.axe_arguments.specs.declared.command.ModuleLayout.{ModuleLayout}
use Rattle.axe_arguments.specs.declared.command.ModuleLayout.TheVariants.{Separate, Whole}
use Rattle.axe_plan.specs.Plans.{Plan, applied}
use Rattle.axe_plan.specs.Inputs.{and_then, fetch_named, or_refuses, bytes_in, generators_in, checked_module, module_in}
use Rattle.axe_plan.specs.ReportFiles.{ReportIn}
use Rattle.axe_plan.proofs.ReadModules.{HasAsMany, module_is_module, generators_are_counted}
use Rattle.axe_execute.specs.SeriesFiles.{report_file, basis_file, factor_name, constituents_of, HoldsSeries, HoldsCertificate}
use Rattle.axe_execute.specs.VerifyCommand.{unless_old, CurrentReport, constituents_in, verified_plan, ReportedPlan, VerifyPlan}
use Rattle.axe_execute.specs.ChopCommand.{ChopPlan}
use Rattle.axe_execute.proofs.HeldSeries.{certificate_left_by_plan}
use Rattle.axe_execute.proofs.ReadBack.{fetched_whole}
use Rattle.axe_execute.proofs.VerifiedSeries.{both_read, same_value, zip_at, zip_length, counted_files}

-- ---- matrices of which a module is made

square_of_tests : (o : Order) (n : ℕ) (m : MatrixValue) (empty square field size : Bool) → (length m.rows == m.cols) ≡ square → (order_number m.order == order_number o) ≡ field →
    (m.cols == n) ≡ size →
    (if empty then Some NoRows else (if not square then Some NotSquare else (if not field then Some FieldsDiffer else (if not size then Some ShapesDiffer else None)))) ≡ None →
    IsSquareOfSize o n m
square_of_tests o n m true square field size is_square is_field is_size e = absurd cc
square_of_tests o n m false false field size is_square is_field is_size e = absurd cc
square_of_tests o n m false true false size is_square is_field is_size e = absurd cc
square_of_tests o n m false true true false is_square is_field is_size e = absurd cc
square_of_tests o n m false true true true is_square is_field is_size e = record {
  field = order_number-injective m.order o (eqb-true (order_number m.order) (order_number o) is_field);
  rows = eqb-true (length m.rows) m.cols is_square ∙ eqb-true m.cols n is_size;
  columns = eqb-true m.cols n is_size;
}

both_none : (r s : Option Refusal) → first_of r s ≡ None → (r ≡ None) × (s ≡ None)
both_none None s e = (refl, e)
both_none (Some r) s e = absurd cc

squares_of_accepted : (o : Order) (n : ℕ) (matrices : List MatrixValue) → generators_refusal o n matrices ≡ None → All (IsSquareOfSize o n) matrices
squares_of_accepted o n [] e = All-nil (IsSquareOfSize o n)
squares_of_accepted o n (m ∷ rest) e =
    let both = both_none (generator_refusal o n m) (generators_refusal o n rest) e in
    All-cons (IsSquareOfSize o n) m rest (square_of_tests o n m (length m.rows == 0) _ _ _ refl refl refl both.0) (squares_of_accepted o n rest both.1)

-- a module has the rows of the matrices that it is made of, and these are square
record IsMadeOf (matrices : List MatrixValue) (m : ModuleValue) : Type 0 where
  rows : m.generators ≡ rows_of_each matrices
  squares : All (IsSquareOfSize m.order m.dim) matrices

made_of : (matrices : List MatrixValue) (m : ModuleValue) → checked_module matrices ≡ Ok m → IsMadeOf matrices m
unfolding checked_module
made_of [] m e = absurd cc
made_of (first ∷ rest) m e = cases (generators_refusal first.order first.cols (first ∷ rest)) refl e
  where
    made : ModuleValue
    made = record { order = first.order; dim = first.cols; generators = rows_of_each (first ∷ rest) }

    cases : (refusal : Option Refusal) → generators_refusal first.order first.cols (first ∷ rest) ≡ refusal →
        or_refuses (unless_refused refusal (record { order = first.order; dim = first.cols; generators = rows_of_each (first ∷ rest) })) ≡ Ok m → IsMadeOf (first ∷ rest) m
    cases None accepted is =
        subst (IsMadeOf (first ∷ rest)) (same_value (record { order = first.order; dim = first.cols; generators = rows_of_each (first ∷ rest) }) m is) (record {
          rows = refl;
          squares = squares_of_accepted first.order first.cols (first ∷ rest) accepted;
        })
    cases (Some refusal) refused is = absurd cc

-- the matrices of the constituents
lists_of_factors : (stored : ModuleFiles) (name : List ℕ) (files : Files) (constituents : List (List ℕ)) (factors : List ModuleValue) →
    AllZip (λ constituent factor. module_in stored (factor_name name constituent) files ≡ Ok factor) constituents factors →
    (lists : List (List MatrixValue)) × (constituents_in stored name constituents files ≡ Ok lists) × AllZip (λ list factor. checked_module list ≡ Ok factor) lists factors
unfolding module_in
lists_of_factors stored name files [] [] all = ([], refl, tt)
lists_of_factors stored name files [] (factor ∷ factors) all = absurd all
lists_of_factors stored name files (c ∷ constituents) [] all = absurd all
lists_of_factors stored name files (c ∷ constituents) (factor ∷ factors) all =
    let first = both_read (generators_in stored (factor_name name c) files) checked_module factor all.0 in
    let rest = lists_of_factors stored name files constituents factors all.1 in (
      first.0 ∷ rest.0,
      ap (λ read. and_then read (λ list. and_then (constituents_in stored name constituents files) (λ lists. Ok (list ∷ lists)))) first.1
          ∙ ap (λ read. and_then read (λ lists. Ok (first.0 ∷ lists))) rest.1,
      (first.2, rest.2),
    )

-- ---- a series that is held

module _ (layout : ModuleLayout) (m : ModuleValue) (name : List ℕ) (files : Files) (certificate : HoldsCertificate (files_with layout (length m.generators)) m name files) where
  abbrev h : HoldsSeries (files_with layout (length m.generators)) m name files
  h = certificate.holds

  abbrev stored : ModuleFiles
  stored = files_with layout (length m.generators)

  abbrev report : ReportValue
  report = record { header = h.header; factors = listed (length h.factors) (reported_factor h.factors h.witnesses h.places); series = h.places }

  same_report : series_report h.header h.factors h.witnesses h.places ≡ report
  unfolding series_report
  same_report = refl

  count : h.header.gens ≡ length m.generators
  count = ap (λ (k : ReportHeader). k.gens) h.of_module

  counted : HasFileCount stored
  counted = counted_files layout (length m.generators) (record { some = omega (arith, count, h.in_range.some_generator); fits = omega (arith, count, h.in_range.gens) })

  is_module : IsModule m
  is_module = module_is_module stored name files m counted h.module_is

  is_report : IsReport report
  is_report =
      subst IsReport same_report
      (subst (λ (k : ReportHeader). IsReport (series_report k h.factors h.witnesses h.places)) (sym h.of_module)
      (series_has_report m h.header.seed h.header.words h.basis h.factors h.witnesses h.places is_module h.in_range.seed h.in_range.words h.series
      (subst (λ (k : ReportHeader). AreWitnessesOf k h.factors h.witnesses) h.of_module h.witnessed)))

  version : h.header.version ≡ Two
  version = ap (λ (k : ReportHeader). k.version) h.of_module

  bytes_read : bytes_in files (report_file name) most_report_bytes ≡ Ok (report_bytes report)
  unfolding bytes_in
  bytes_read =
      ap (λ file. fetch_named (report_file name) (fetched file most_report_bytes)) (h.report_is ∙ ap (λ (r : ReportValue). Some (report_bytes r)) same_report)
      ∙ ap (fetch_named (report_file name)) (fetched_whole (report_bytes report) most_report_bytes (report_within report is_report))

  current : CurrentReport (report_file name) files (Ok report)
  unfolding CurrentReport ReportIn
  current = (Ok report, (Ok (report_bytes report), bytes_read, (is_report, refl)), ap (λ v. unless_old (report_file name) v report) version)

  -- ---- what the report says of the factors

  abbrev many : ℕ
  many = length h.factors

  abbrev said : ℕ → FactorValue
  said = reported_factor h.factors h.witnesses h.places

  dims_are : dims report.factors ≡ dims_of_factors h.factors
  dims_are =
      ext_get_or 0 (dims report.factors) (dims_of_factors h.factors)
      (length-map report.factors (λ (f : FactorValue). f.dim) ∙ listed_length many said ∙ sym (length-map h.factors (λ (f : ModuleValue). f.dim)))
      (λ i inside. at i (omega (arith, inside, length-map report.factors (λ (f : FactorValue). f.dim), listed_length many said)))
    where
      at : (i : ℕ) → i < many → get_or (dims report.factors) i 0 ≡ get_or (dims_of_factors h.factors) i 0
      at i below =
          get_or-map (λ (f : FactorValue). f.dim) report.factors i (said i) 0 (omega (arith, below, listed_length many said))
          ∙ ap (λ (f : FactorValue). f.dim) (listed_at many said i (said i) below)

  names_are : names report.factors ≡ constituents_of h.factors
  names_are = is_report.factors.named ∙ ap names_of dims_are

  witness_is : (i : ℕ) → i < many → get_or (witnesses report.factors) i None ≡ slice_get h.witnesses i
  witness_is i below =
      get_or-map (λ (f : FactorValue). f.witness) report.factors i (said i) None (omega (arith, below, listed_length many said))
      ∙ ap (λ (f : FactorValue). f.witness) (listed_at many said i (said i) below)

  -- ---- the certificate

  read_lists : (lists : List (List MatrixValue)) × (constituents_in stored name (constituents_of h.factors) files ≡ Ok lists)
      × AllZip (λ list factor. checked_module list ≡ Ok factor) lists h.factors
  read_lists = lists_of_factors stored name files (constituents_of h.factors) h.factors h.factors_are

  abbrev c : Certificate
  c = record { report = report; m = m; basis = h.basis; factors = read_lists.0 }

  as_many : factor_count c ≡ many
  as_many = sym (zip_length (λ list factor. checked_module list ≡ Ok factor) read_lists.0 h.factors read_lists.2)

  module _ (i : ℕ) (below : i < factor_count c) where
    abbrev factor : ModuleValue
    factor = get_or h.factors i m

    inside : i < many
    inside = omega (arith, below, as_many)

    made : IsMadeOf (matrices_of c i) factor
    made = made_of (matrices_of c i) factor (zip_at (λ list factor. checked_module list ≡ Ok factor) read_lists.0 h.factors i [] m read_lists.2 below)

    there : slice_get h.factors i ≡ Some factor
    there = slice_get-get_or h.factors i m inside

    block : IsBlockOf h.series.conjugates (sizes_of_places h.factors h.places) (h.series.order.appear i inside).0 factor
    block = h.series.diagonal (h.series.order.appear i inside).0 i factor (h.series.order.appear i inside).1 there

    field : factor.order ≡ m.order
    field = block.field ∙ h.series.triangular.conjugate.field

    dimension : dim_of c i ≡ factor.dim
    dimension = ap (λ (ds : List ℕ). get_or ds i 0) dims_are ∙ get_or-map (λ (f : ModuleValue). f.dim) h.factors i m 0 inside

    same_factor : factor_of c i ≡ factor
    same_factor = sym (λ j. record { order = field j; dim = (sym dimension) j; generators = made.rows j })

    shaped : HasShape m (dim_of c i) (matrices_of c i)
    shaped = record {
      count =
          sym (length-map (matrices_of c i) (λ (a : MatrixValue). a.rows)) ∙ sym (ap (λ (l : List (List (List ℕ))). length l) made.rows) ∙ block.count
          ∙ h.series.triangular.conjugate.count;
      squares = subst (λ o. All (IsSquareOfSize o (dim_of c i)) (matrices_of c i)) field (subst (λ d. All (IsSquareOfSize factor.order d) (matrices_of c i)) (sym dimension) made.squares);
    }

  factors_are : factors_of c ≡ h.factors
  factors_are =
      ext_get_or m (factors_of c) h.factors (listed_length (factor_count c) (factor_of c) ∙ as_many) (λ i inside.
      let below : i < factor_count c = omega (arith, inside, listed_length (factor_count c) (factor_of c)) in
      listed_at (factor_count c) (factor_of c) i m below ∙ same_factor i below)

  certified : IsCertified c
  certified = record {
    header = record {
      field = ap (λ (k : ReportHeader). k.field) h.of_module;
      dimension = ap (λ (k : ReportHeader). k.dim) h.of_module;
      count = count;
    };
    shapes = shaped;
    series = subst (λ (factors : List ModuleValue). IsSeries m h.basis factors h.places) (sym factors_are) h.series;
    decided = λ i below left.
        certificate.decided i (factor i below) left.witness (there i below) (sym (witness_is i (inside i below)) ∙ left.named)
        (subst (λ (f : ModuleValue). WitnessLeavesOpen f h.header.seed left.witness) (same_factor i below) left.says);
  }

  reported : ReportedPlan stored name report files (Ok verified_plan)
  unfolding ReportedPlan module_in
  reported =
      let read = both_read (generators_in stored name files) checked_module m h.module_is in (
        Ok read.0,
        read.1,
        (
          Ok h.basis,
          h.basis_is,
          (
            Ok read_lists.0,
            ap (λ (constituents : List (List ℕ)). constituents_in stored name constituents files) names_are ∙ read_lists.1,
            (Ok m, read.2, (certified, refl)),
          ),
        ),
      )

  pub held_is_verified : VerifyPlan layout name files (Ok verified_plan)
  unfolding VerifyPlan
  held_is_verified = (Ok report, current, subst (λ (gens : ℕ). ReportedPlan (files_with layout gens) name report files (Ok verified_plan)) (sym count) reported)

-- ---- after `chop`

same_files : (layout : ModuleLayout) (count generators : ℕ) → HasAsMany (files_with layout count) generators → files_with layout count ≡ files_with layout generators
same_files Separate number generators so_many = ap (λ n. files_with Separate n) (sym so_many)
same_files Whole number generators so_many = refl

pub chopped_is_verified : (layout : ModuleLayout) (count seed words : ℕ) (name : List ℕ) (files : Files) (plan : Plan) → HasFileCount (files_with layout count) → seed < 2 ^ 64 →
    IsWordCount words → ChopPlan (files_with layout count) seed words name files (Ok plan) → VerifyPlan layout name (applied plan.steps files) (Ok verified_plan)
chopped_is_verified layout count seed words name files plan counted small few right =
    let left = certificate_left_by_plan (files_with layout count) seed words name files plan counted small few right in
    held_is_verified layout left.0 name (applied plan.steps files)
    (subst (λ (stored : ModuleFiles). HoldsCertificate stored left.0 name (applied plan.steps files))
    (same_files layout count (length left.0.generators) (generators_are_counted (files_with layout count) name files left.0 counted left.1)) left.2)
