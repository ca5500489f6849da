-- The plan that a draft holds.
use Rattle.std.specs.Prelude.{◌≡◌, ℕ, ◌<◌, List, [], ◌∷◌, ◌++◌, length, map, string_bytes}
use Rattle.axe_algebra.specs.Lists.{listed}
use Rattle.axe_spin.specs.Modules.{ModuleValue}
use Rattle.axe_plan.specs.declared.draft.Change.{Change}
use Rattle.axe_plan.specs.declared.draft.Change.TheVariants as change
use Rattle.axe_plan.specs.declared.draft.Draft.{Draft}
use Rattle.axe_plan.specs.Outputs.{put_generator}
use Rattle.axe_plan.specs.Plans.{Step, Put, Remove, Plan}

-- the step that a change makes
abbrev pub step_in : Change → Step
step_in (change.Put name bytes) = Put (string_bytes name) bytes.items
step_in (change.Remove name) = Remove (string_bytes name)

-- the plan that a draft holds
abbrev pub plan_in : Draft → Plan
plan_in draft = record { steps = map step_in draft.changes.items; shown = draft.text.items }

-- the plan with one more step
abbrev pub with_step : Plan → Step → Plan
with_step plan step = record { steps = plan.steps ++ step ∷ []; shown = plan.shown }

-- the plan with more steps
abbrev pub with_steps : Plan → List Step → Plan
with_steps plan steps = record { steps = plan.steps ++ steps; shown = plan.shown }

-- the plan that shows this text
abbrev pub with_text : Plan → List ℕ → Plan
with_text plan text = record { steps = plan.steps; shown = text }

-- the plan after is the one before with the steps that put some first generators of a module, and not all
pub record HasFirstGenerators (name : List ℕ) (m : ModuleValue) (before after : Plan) : Type 0 where
  pub count : ℕ
  pub not_all : count < length m.generators
  pub puts : after ≡ with_steps before (listed count (put_generator name m))
