-- What `chop` means is one plan or one problem, and it is true of the module that is read.
use Rattle.std.proofs.Common.{◌≡◌, refl, sym, subst, ℕ, List, Result, Ok, Err, IfOk}
use Rattle.std.specs.Prelude.{⊤}
use Rattle.axe_matrix.specs.Matrices.{MatrixValue}
use Rattle.axe_spin.specs.Modules.{ModuleValue, IsModule}
use Rattle.axe_series.specs.Runs.{Outcome, complete, open_section, RunOf}
use Rattle.axe_series.proofs.RunLaws.{runs_are_true}
use Rattle.axe_series.proofs.OneOutcome.{outcome_is_one}
use Rattle.axe_series.proofs.SomeRun.{some_run}
use Rattle.axe_series.proofs.FewPoints.{small_has_a_series}
use Rattle.axe_series.specs.Series.{IsOpenSection, basis_of_rows, factors_of_forms}
use Rattle.axe_chop.specs.Reported.{module_header, witnesses_of_forms}
use Rattle.axe_chop.proofs.FormWitnesses.{run_has_witnesses, all_by}
use Rattle.axe_folder.specs.Files.{Files}
use Rattle.axe_arguments.specs.Commands.{HasFileCount}
use Rattle.axe_arguments.specs.declared.command.ModuleFiles.{ModuleFiles}
use Rattle.axe_fault.specs.declared.fault.Fault.TheVariants.{Undecided}
use Rattle.axe_fault.specs.Causes.{Problem, StaysOpen}
use Rattle.axe_plan.specs.Plans.{Plan}
use Rattle.axe_plan.specs.Meanings.{Answered, AtMostOne, Is, Has}
use Rattle.axe_plan.specs.Inputs.{module_in}
use Rattle.axe_execute.specs.ChopCommand.{series_plan, chop_answer, ChopPlan, FoundPlan, WritesSeries, FindsOpenSection, IsSmallModule}
use Rattle.axe_execute.specs.AfterChop.{ChopFails}
use Rattle.axe_plan.proofs.OneAnswer.{is_one, has_one, then_one}
use Rattle.axe_plan.proofs.SomeAnswer.{then_some}
use Rattle.axe_plan.proofs.ReadModules.{module_if_read}
use Rattle.axe_plan.proofs.ReadingEnds.{EndsInReading, module_ends}
use Rattle.axe_execute.proofs.PlanParts.{any_value}
use Rattle.axe_execute.proofs.DecidedRuns.{forms_decide}

-- ---- one plan, or one problem

pub chop_plan_one : (stored : ModuleFiles) (seed words : ℕ) (name : List ℕ) (files : Files) → HasFileCount stored →
    AtMostOne (ChopPlan stored seed words name files)
unfolding ChopPlan FoundPlan
chop_plan_one stored seed words name files counted =
    then_one IsModule (Is (module_in stored name files)) _ (module_if_read stored name files counted) (is_one _) (λ m is.
    then_one (λ outcome. ⊤) (Has (RunOf m seed words)) _ (λ before right. any_value before)
    (has_one (RunOf m seed words) (λ a b. outcome_is_one m seed words a b is)) (λ outcome known. is_one (chop_answer stored name m seed words outcome)))

pub chop_plan_some : (stored : ModuleFiles) (seed words : ℕ) (name : List ℕ) (files : Files) → HasFileCount stored →
    Answered (ChopPlan stored seed words name files)
unfolding ChopPlan FoundPlan
chop_plan_some stored seed words name files counted =
    then_some IsModule (Is (module_in stored name files)) _ (module_if_read stored name files counted) (_, refl) (λ m is.
    then_some (λ outcome. ⊤) (Has (RunOf m seed words)) _ (λ before right. any_value before)
    (let found = some_run m seed words is in (Ok found.0, found.1)) (λ outcome known. (chop_answer stored name m seed words outcome, refl)))

-- ---- what is true of it

series_of_outcome : (stored : ModuleFiles) (seed words : ℕ) (name : List ℕ) (files : Files) (m : ModuleValue) (outcome : Outcome) → module_in stored name files ≡ Ok m →
    IsModule m → RunOf m seed words outcome → IfOk (chop_answer stored name m seed words outcome) (WritesSeries stored seed words name files)
series_of_outcome stored seed words name files m (complete found) is_module is run = record {
  m = m;
  is_module = is_module;
  basis = basis_of_rows m found.rows;
  factors = factors_of_forms found.forms;
  witnesses = witnesses_of_forms found.forms;
  places = found.places;
  witnessed = run_has_witnesses m is seed words found run;
  decided = forms_decide seed words found.forms (all_by m is seed words found run);
  series = runs_are_true m seed words (complete found) is run;
  plan_is = refl;
}
series_of_outcome stored seed words name files m (open_section rows offset dim) is_module is run = tt

pub plan_of_series : (stored : ModuleFiles) (seed words : ℕ) (name : List ℕ) (files : Files) (plan : Plan) → HasFileCount stored →
    ChopPlan stored seed words name files (Ok plan) → WritesSeries stored seed words name files plan
unfolding ChopPlan FoundPlan
plan_of_series stored seed words name files plan counted (Err problem, is, right) =
    subst (λ answer. IfOk answer (WritesSeries stored seed words name files)) (sym right) tt
plan_of_series stored seed words name files plan counted (Ok m, is, (Err problem, none, right)) = absurd none
plan_of_series stored seed words name files plan counted (Ok m, is, (Ok outcome, run, right)) =
    subst (λ answer. IfOk answer (WritesSeries stored seed words name files)) right
    (series_of_outcome stored seed words name files m outcome is (module_if_read stored name files counted (Ok m) is) run)

-- where the problem is that a section stays open, it is one
abbrev AnswersOpen : ModuleValue → ℕ → ℕ → Result Plan Problem → Type 0
AnswersOpen m seed words (Err (StaysOpen basis offset dim)) = IsOpenSection m seed words basis offset dim
AnswersOpen m seed words answer = ⊤

answers_open : (stored : ModuleFiles) (m : ModuleValue) (seed words : ℕ) (name : List ℕ) (outcome : Outcome) → IsModule m → RunOf m seed words outcome →
    AnswersOpen m seed words (chop_answer stored name m seed words outcome)
answers_open stored m seed words name (complete found) is run = tt
answers_open stored m seed words name (open_section rows offset dim) is run = runs_are_true m seed words (open_section rows offset dim) is run

pub open_section_of_problem : (stored : ModuleFiles) (seed words : ℕ) (name : List ℕ) (files : Files) (basis : MatrixValue) (offset dim : ℕ) → HasFileCount stored →
    ChopPlan stored seed words name files (Err (StaysOpen basis offset dim)) → FindsOpenSection stored seed words name files basis offset dim
unfolding ChopPlan FoundPlan
open_section_of_problem stored seed words name files basis offset dim counted (Err problem, is, right) =
    absurd (subst EndsInReading (sym right) (subst EndsInReading is (module_ends stored name files)))
open_section_of_problem stored seed words name files basis offset dim counted (Ok m, is, (Err problem, none, right)) = absurd none
open_section_of_problem stored seed words name files basis offset dim counted (Ok m, is, (Ok outcome, run, right)) = record {
  m = m;
  is_module = is;
  open_section = subst (AnswersOpen m seed words) right
      (answers_open stored m seed words name outcome (module_if_read stored name files counted (Ok m) is) run);
}

-- ---- small modules

small_module_has_plan_by : (stored : ModuleFiles) (seed words : ℕ) (name : List ℕ) (files : Files) (m : ModuleValue) (outcome : Outcome) → IsModule m →
    module_in stored name files ≡ Ok m → IsSmallModule m → RunOf m seed words outcome → (plan : Plan) × ChopPlan stored seed words name files (Ok plan)
unfolding ChopPlan FoundPlan
small_module_has_plan_by stored seed words name files m (complete found) is is_module small run = (
  series_plan stored name (module_header m seed words) (basis_of_rows m found.rows) (factors_of_forms found.forms) (witnesses_of_forms found.forms) found.places,
  (Ok m, is_module, (Ok (complete found), run, refl)),
)
small_module_has_plan_by stored seed words name files m (open_section rows offset dim) is is_module small run =
    absurd (small_has_a_series m seed words rows offset dim is small run)

pub small_module_has_plan : (stored : ModuleFiles) (seed words : ℕ) (name : List ℕ) (files : Files) (m : ModuleValue) → HasFileCount stored →
    module_in stored name files ≡ Ok m → IsSmallModule m → (plan : Plan) × ChopPlan stored seed words name files (Ok plan)
small_module_has_plan stored seed words name files m counted is_module small =
    let is = module_if_read stored name files counted (Ok m) is_module in
    let found = some_run m seed words is in
    small_module_has_plan_by stored seed words name files m found.0 is is_module small found.1

pub small_module_is_decided : (stored : ModuleFiles) (seed words : ℕ) (name : List ℕ) (basis : MatrixValue) (offset dim : ℕ) (old new : Files) (m : ModuleValue) →
    HasFileCount stored → module_in stored name old ≡ Ok m → IsSmallModule m → ¬ (ChopFails stored seed words name (Undecided basis offset dim) old new)
small_module_is_decided stored seed words name basis offset dim old new m counted is_module small fails =
    let right = small_module_has_plan stored seed words name old m counted is_module small in
    let same = chop_plan_one stored seed words name old counted (Ok right.0) (Err (StaysOpen basis offset dim)) right.1 fails.0 in
    absurd (differ right.0 same)
  where
    differ : (plan : Plan) → Ok plan ≡ Err (StaysOpen basis offset dim) → ⊥
    differ plan e = cc
