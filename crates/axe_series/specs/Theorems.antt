-- What the law functions on composition series promise (Parker 1984; Holt and Rees 1994).
use Rattle.std.specs.Prelude.{◌≡◌, ℕ, ◌≤◌, List}
use Rattle.axe_field.specs.Order.{order_number}
use Rattle.axe_spin.specs.Modules.{ModuleValue, IsModule}
use Rattle.axe_word.specs.PointsOfMatrix.{point_count, most_points}
use Rattle.axe_series.specs.Runs.{Outcome, open_section, RunOf}
use Rattle.axe_series.specs.Series.{IsTrueOutcome}

-- what a run finds is true
abbrev pub RunsFindWhatIsTrue : Type 0
RunsFindWhatIsTrue = (m : ModuleValue) (seed words : ℕ) (outcome : Outcome) → IsModule m → RunOf m seed words outcome →
    IsTrueOutcome m seed words outcome

-- a module has no more than one outcome
abbrev pub RunsHaveOneOutcome : Type 0
RunsHaveOneOutcome =
    (m : ModuleValue) (seed words : ℕ) (a b : Outcome) → IsModule m → RunOf m seed words a → RunOf m seed words b →
    a ≡ b

-- and it has one
abbrev pub RunsHaveAnOutcome : Type 0
RunsHaveAnOutcome = (m : ModuleValue) (seed words : ℕ) → IsModule m → (outcome : Outcome) × RunOf m seed words outcome

-- no section of a module with few points stays undecided
abbrev pub SmallModulesHaveASeries : Type 0
SmallModulesHaveASeries = (m : ModuleValue) (seed words : ℕ) (rows : List (List ℕ)) (offset dim : ℕ) → IsModule m →
    point_count (order_number m.order) m.dim ≤ most_points → ¬ (RunOf m seed words (open_section rows offset dim))
