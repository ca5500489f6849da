-- What a fault of `chop` leaves of the files.
use Rattle.std.proofs.Common.{◌≡◌, ◌≢◌, refl, sym, ◌∙◌, ap, subst, ℕ, suc, ◌^◌, ◌<◌, List, [], ◌∷◌, ◌++◌, append_assoc, append-nil, take, drop, take-append-drop, codes, decimal, length, length-append, get_or, Some, None, Ok, Err, IfOk, inl, inr, arith}
use Rattle.std.proofs.lemmas.List.{append_cancel_left}
use Rattle.axe_matrix.specs.Matrices.{MatrixValue}
use Rattle.axe_spin.specs.Modules.{ModuleValue, IsModule}
use Rattle.axe_series.specs.Runs.{Outcome, complete, open_section}
use Rattle.axe_series.specs.Series.{basis_of_rows, factors_of_forms}
use Rattle.axe_report.specs.Names.{letters, constituent_name, names_after, names_of}
use Rattle.axe_report.specs.declared.report.ReportHeader.{ReportHeader}
use Rattle.axe_report.specs.Passing.{IsSpelling}
use Rattle.axe_report.proofs.Letters.{some_letter}
use Rattle.axe_report.proofs.Unique.{no_prefix}
use Rattle.axe_report.specs.Reports.{WitnessValue}
use Rattle.axe_chop.specs.Reported.{dims_of_factors, module_header, series_report, witnesses_of_forms}
use Rattle.axe_chop.proofs.SeriesReports.{series_has_report}
use Rattle.axe_file.specs.Packed.{packed}
use Rattle.axe_folder.specs.Files.{Files, file_at}
use Rattle.axe_arguments.specs.Counts.{IsWordCount}
use Rattle.axe_arguments.specs.Commands.{HasFileCount}
use Rattle.axe_arguments.specs.declared.command.ModuleFiles.{ModuleFiles}
use Rattle.axe_fault.specs.declared.fault.Fault.{Fault}
use Rattle.axe_fault.specs.Causes.{Cause, Stands, DeviceFailed, NoMemory, NoCommand, cause_of}
use Rattle.axe_plan.specs.Plans.{Step, Put, Remove, Plan}
use Rattle.axe_plan.specs.Outcome.{BrokeOff, Halted}
use Rattle.axe_plan.specs.Inputs.{module_names}
use Rattle.axe_plan.specs.Outputs.{put_module}
use Rattle.axe_execute.specs.ChopCommand.{put_factors, series_plan, chop_answer, ChopPlan, FoundPlan, WritesSeries}
use Rattle.axe_execute.specs.Execution.{HasPlan, StopsCommand}
use Rattle.axe_execute.specs.AfterChop.{ChopFails, IsLeftByChop, IsBeforeOrAfterChop}
use Rattle.axe_execute.specs.SeriesFiles.{report_file, basis_file, factor_name}
use Rattle.axe_plan.proofs.ReadModules.{module_is_module}
use Rattle.axe_execute.proofs.ChopLaws.{plan_of_series}
use Rattle.axe_plan.proofs.ModuleSteps.{module_spares}
use Rattle.axe_plan.proofs.BrokenSteps.{Spare, spare_append, Left, unchanged, absent, torn, left_by_broken, left_by_halted, all_if_whole}

-- ---- the file of the report is no other file of a run

-- in `.rep` there is one dot, and it stands first
dot_is_first : (x y : List ℕ) → x ++ 46 ∷ y ≡ codes ".rep" → x ≡ []
dot_is_first [] y e = refl
dot_is_first (a ∷ []) y e = absurd (differ (ap (λ (text : List ℕ). get_or text 1 0) e))
  where
    differ : ◌≡◌ {A = ℕ} 46 114 → ⊥
    differ same = omega (arith, same)
dot_is_first (a ∷ b ∷ []) y e = absurd (differ (ap (λ (text : List ℕ). get_or text 2 0) e))
  where
    differ : ◌≡◌ {A = ℕ} 46 101 → ⊥
    differ same = omega (arith, same)
dot_is_first (a ∷ b ∷ c ∷ []) y e = absurd (differ (ap (λ (text : List ℕ). get_or text 3 0) e))
  where
    differ : ◌≡◌ {A = ℕ} 46 112 → ⊥
    differ same = omega (arith, same)
dot_is_first (a ∷ b ∷ c ∷ d ∷ x) y e = absurd (longer (ap (λ (text : List ℕ). length text) e))
  where
    longer : suc (suc (suc (suc (length (x ++ 46 ∷ y))))) ≡ 4 → ⊥
    longer same = omega (arith, same, length-append x (46 ∷ y))

-- the name of a constituent's file, whatever stands behind its dot
constituent_file_differs : (name constituent rest : List ℕ) → constituent ≢ [] → (name ++ constituent) ++ 46 ∷ rest ≢ report_file name
constituent_file_differs name constituent rest some e =
    some (dot_is_first constituent rest (append_cancel_left name (constituent ++ 46 ∷ rest) (codes ".rep")
    (sym (append_assoc name constituent (46 ∷ rest)) ∙ e)))

pub basis_file_differs : (name : List ℕ) → basis_file name ≢ report_file name
basis_file_differs name e = differ (ap (λ (text : List ℕ). get_or text 1 0) (append_cancel_left name (codes ".bas") (codes ".rep") e))
  where
    differ : ◌≡◌ {A = ℕ} 98 114 → ⊥
    differ same = omega (arith, same)

-- no name is empty
abbrev pub AreNonempty : List (List ℕ) → Type 0
AreNonempty [] = Unit {0}
AreNonempty (first ∷ names) = (first ≢ []) × AreNonempty names

nonempty_end : (x y : List ℕ) → y ≢ [] → x ++ y ≢ []
nonempty_end [] y some e = some e
nonempty_end (a ∷ x) y some e = absurd cc

some_letters : (number : ℕ) → letters number ≢ []
some_letters number e = absurd (omega (arith, some_letter number, ap (λ (text : List ℕ). length text) e))

names_nonempty : (earlier dims : List ℕ) → AreNonempty (names_after earlier dims)
unfolding names_after constituent_name
names_nonempty earlier [] = tt
names_nonempty earlier (dim ∷ dims) = (nonempty_end (decimal dim) (letters _) (some_letters _), names_nonempty (earlier ++ dim ∷ []) dims)

pub all_names_nonempty : (dims : List ℕ) → AreNonempty (names_of dims)
unfolding names_of
all_names_nonempty dims = names_nonempty [] dims

factors_spare : (stored : ModuleFiles) (name : List ℕ) (constituents : List (List ℕ)) (factors : List ModuleValue) → AreNonempty constituents →
    Spare (report_file name) (put_factors stored name constituents factors)
factors_spare stored name [] factors some = tt
factors_spare stored name (constituent ∷ constituents) [] some = tt
factors_spare stored name (constituent ∷ constituents) (factor ∷ factors) some =
    spare_append (report_file name) (put_module stored (factor_name name constituent) factor) (put_factors stored name constituents factors)
    (module_spares stored (report_file name) (factor_name name constituent) factor (λ rest. constituent_file_differs name constituent rest some.0))
    (factors_spare stored name constituents factors some.1)

-- ---- the plan

-- a plan takes the report away, goes on with steps that spare it, and puts it last as it is shown
record PutsReportLast (name : List ℕ) (plan : Plan) : Type 0 where
  middle : List Step
  spared : Spare (report_file name) middle
  steps_are : plan.steps ≡ Remove (report_file name) ∷ (middle ++ Put (report_file name) plan.shown ∷ [])

series_puts_report_last : (stored : ModuleFiles) (name : List ℕ) (header : ReportHeader) (basis : MatrixValue) (factors : List ModuleValue)
    (witnesses : List WitnessValue) (places : List ℕ) → PutsReportLast name (series_plan stored name header basis factors witnesses places)
unfolding series_plan
series_puts_report_last stored name header basis factors witnesses places = record {
  middle = Put (basis_file name) (packed basis) ∷ put_factors stored name (names_of (dims_of_factors factors)) factors;
  spared = (basis_file_differs name, factors_spare stored name (names_of (dims_of_factors factors)) factors (all_names_nonempty (dims_of_factors factors)));
  steps_are = refl;
}

answer_puts_report_last : (stored : ModuleFiles) (name : List ℕ) (m : ModuleValue) (seed words : ℕ) (outcome : Outcome) →
    IfOk (chop_answer stored name m seed words outcome) (PutsReportLast name)
answer_puts_report_last stored name m seed words (complete found) =
    series_puts_report_last stored name (module_header m seed words) (basis_of_rows m found.rows) (factors_of_forms found.forms) (witnesses_of_forms found.forms) found.places
answer_puts_report_last stored name m seed words (open_section rows offset dim) = tt

plan_puts_report_last : (stored : ModuleFiles) (seed words : ℕ) (name : List ℕ) (files : Files) (plan : Plan) → ChopPlan stored seed words name files (Ok plan) →
    PutsReportLast name plan
unfolding ChopPlan FoundPlan
plan_puts_report_last stored seed words name files plan (Err problem, is, right) =
    subst (λ answer. IfOk answer (PutsReportLast name)) (sym right) tt
plan_puts_report_last stored seed words name files plan (Ok m, is, (Err problem, none, right)) = absurd none
plan_puts_report_last stored seed words name files plan (Ok m, is, (Ok outcome, run, right)) =
    subst (λ answer. IfOk answer (PutsReportLast name)) right (answer_puts_report_last stored name m seed words outcome)

-- ---- what is left

left_by_plan : (stored : ModuleFiles) (seed words : ℕ) (name : List ℕ) (old new : Files) (plan : Plan) → ChopPlan stored seed words name old (Ok plan) →
    Left (report_file name) plan.shown plan.steps old new → IsLeftByChop stored seed words name old new
left_by_plan stored seed words name old new plan right (unchanged same) = inl same
left_by_plan stored seed words name old new plan right (absent none) = inr (inl none)
left_by_plan stored seed words name old new plan right (torn count is others) =
    inr (inr (plan, right, record { count = count; report = is; others = others }))

left_by_broken_plan : (stored : ModuleFiles) (seed words : ℕ) (name file : List ℕ) (old new : Files) →
    HasPlan (ChopPlan stored seed words name old) (λ plan. BrokeOff plan.steps file old new) → IsLeftByChop stored seed words name old new
left_by_broken_plan stored seed words name file old new (plan, right, broke) =
    let shape = plan_puts_report_last stored seed words name old plan right in
    left_by_plan stored seed words name old new plan right
    (left_by_broken (report_file name) plan.shown shape.middle old shape.spared plan.steps file new shape.steps_are broke)

left_by_halted_plan : (stored : ModuleFiles) (seed words : ℕ) (name : List ℕ) (old new : Files) →
    HasPlan (ChopPlan stored seed words name old) (λ plan. Halted plan.steps old new) → IsLeftByChop stored seed words name old new
left_by_halted_plan stored seed words name old new (plan, right, halted) =
    let shape = plan_puts_report_last stored seed words name old plan right in
    left_by_plan stored seed words name old new plan right
    (left_by_halted (report_file name) plan.shown shape.middle old shape.spared plan.steps new shape.steps_are halted)

left_where_stopped : (stored : ModuleFiles) (seed words : ℕ) (name : List ℕ) (cause : Cause) (names : List (List ℕ)) (old new : Files) →
    StopsCommand cause names (ChopPlan stored seed words name old) old new → IsLeftByChop stored seed words name old new
left_where_stopped stored seed words name (Stands problem) names old new stops = inl stops.1
left_where_stopped stored seed words name (DeviceFailed file) names old new (inl unread) = inl unread.1
left_where_stopped stored seed words name (DeviceFailed file) names old new (inr broke) = left_by_broken_plan stored seed words name file old new broke
left_where_stopped stored seed words name NoMemory names old new (inl same) = inl same
left_where_stopped stored seed words name NoMemory names old new (inr halted) = left_by_halted_plan stored seed words name old new halted
left_where_stopped stored seed words name NoCommand names old new stops = absurd stops

pub left_by_chop : (stored : ModuleFiles) (seed words : ℕ) (name : List ℕ) (fault : Fault) (old new : Files) → ChopFails stored seed words name fault old new →
    IsLeftByChop stored seed words name old new
left_by_chop stored seed words name fault old new fails =
    left_where_stopped stored seed words name (cause_of fault) (module_names stored name) old new fails

-- ---- what can be read as a report

-- bytes that begin a report, and are a report, are all of it
whole_if_spelling : (text bytes : List ℕ) (count : ℕ) → IsSpelling text → IsSpelling bytes → bytes ≡ take count text → bytes ≡ text
whole_if_spelling text bytes count (a, is_a, spells_a) (b, is_b, spells_b) first =
    sym (append-nil bytes) ∙ ap (λ rest. bytes ++ rest) (sym no_rest) ∙ joined
  where
    joined : bytes ++ drop count text ≡ text
    joined = ap (λ front. front ++ drop count text) first ∙ take-append-drop count text

    no_rest : drop count text ≡ []
    no_rest = no_prefix b a (drop count text) is_b is_a (ap (λ front. front ++ drop count text) (sym spells_b) ∙ joined ∙ spells_a)

-- what a plan of `chop` shows is a report
shown_is_report : (stored : ModuleFiles) (seed words : ℕ) (name : List ℕ) (files : Files) (plan : Plan) → HasFileCount stored → seed < 2 ^ 64 →
    IsWordCount words → WritesSeries stored seed words name files plan → IsSpelling plan.shown
unfolding series_plan
shown_is_report stored seed words name files plan counted small few writes = (
  series_report (module_header writes.m seed words) writes.factors writes.witnesses writes.places,
  series_has_report writes.m seed words writes.basis writes.factors writes.witnesses writes.places is small (omega (arith, few.fits)) writes.series
      writes.witnessed,
  ap (λ (p : Plan). p.shown) writes.plan_is,
)
  where
    is : IsModule writes.m
    is = module_is_module stored name files writes.m counted writes.is_module

pub before_or_after : (stored : ModuleFiles) (seed words : ℕ) (name : List ℕ) (fault : Fault) (old new : Files) (bytes : List ℕ) → HasFileCount stored →
    seed < 2 ^ 64 → IsWordCount words → ChopFails stored seed words name fault old new → file_at new (report_file name) ≡ Some bytes →
    IsSpelling bytes → IsBeforeOrAfterChop stored seed words name old new
before_or_after stored seed words name fault old new bytes counted small few fails here spelling =
    cases (left_by_chop stored seed words name fault old new fails)
  where
    some : {x y : List ℕ} → Some x ≡ Some y → x ≡ y
    some e = cc

    cases : IsLeftByChop stored seed words name old new → IsBeforeOrAfterChop stored seed words name old new
    cases (inl same) = inl same
    cases (inr (inl none)) = absurd (let no : Some bytes ≡ None = sym here ∙ none in cc)
    cases (inr (inr (plan, right, part))) =
        let shape = plan_puts_report_last stored seed words name old plan right in
        let shown = shown_is_report stored seed words name old plan counted small few (plan_of_series stored seed words name old plan counted right) in
        let all : bytes ≡ plan.shown = whole_if_spelling plan.shown bytes part.count shown spelling (some (sym here ∙ part.report)) in
        inr (
          plan,
          right,
          all_if_whole (report_file name) plan.shown shape.middle old shape.spared plan.steps new shape.steps_are
              (here ∙ ap Some all) part.others,
        )
