-- Steps that take a file away, go on with steps that spare it, and put it last: what is left where they end early.
use Rattle.std.proofs.Common.{◌≡◌, ◌≢◌, refl, sym, ◌∙◌, ap, ap₂, subst, ℕ, List, [], ◌∷◌, ◌++◌, take, Some, None, ◌⊎◌, inl, inr}
use Rattle.axe_folder.specs.Files.{Files, file_at, without_file}
use Rattle.axe_folder.specs.Outcomes.{KeepsOthers}
use Rattle.axe_folder.proofs.FileLaws.{file_at-with_file, file_at-with_file-other, file_at-without_file, file_at-without_file-other}
use Rattle.axe_folder.proofs.SameFiles.{same_with_name}
use Rattle.axe_plan.specs.Plans.{Step, Put, Remove, step_name, step_applied, applied}
use Rattle.axe_plan.specs.Outcome.{Breaks, BrokeOff, Halted}

-- no step changes the file
abbrev pub Spare : List ℕ → List Step → Type 0
Spare file [] = Unit {0}
Spare file (step ∷ steps) = (step_name step ≢ file) × Spare file steps

pub spare_append : (file : List ℕ) (first second : List Step) → Spare file first → Spare file second → Spare file (first ++ second)
spare_append file [] second none rest = rest
spare_append file (step ∷ first) second spared rest = (spared.0, spare_append file first second spared.1 rest)

-- ---- what steps leave of a file that they spare

step_spares : (file : List ℕ) (step : Step) (files : Files) → step_name step ≢ file → file_at (step_applied step files) file ≡ file_at files file
step_spares file (Put name bytes) files differs = file_at-with_file-other files name bytes file (λ e. differs (sym e))
step_spares file (Remove name) files differs = file_at-without_file-other files name file (λ e. differs (sym e))

pub steps_spare : (file : List ℕ) (steps : List Step) (files : Files) → Spare file steps → file_at (applied steps files) file ≡ file_at files file
steps_spare file [] files spared = refl
steps_spare file (step ∷ steps) files spared =
    steps_spare file steps (step_applied step files) spared.1 ∙ step_spares file step files spared.0

broken_step_spares : (file : List ℕ) (step : Step) (old new : Files) → step_name step ≢ file → Breaks step old new → file_at new file ≡ file_at old file
broken_step_spares file (Put name bytes) old new differs broke = broke.0 file (λ e. differs (sym e))
broken_step_spares file (Remove name) old new differs broke = broke.0 file (λ e. differs (sym e))

pub applied_last : (steps : List Step) (step : Step) (files : Files) → applied (steps ++ step ∷ []) files ≡ step_applied step (applied steps files)
applied_last [] step files = refl
applied_last (first ∷ steps) step files = applied_last steps step (step_applied first files)

-- ---- where steps end

same_first : (a b : Step) (rest others : List Step) → a ∷ rest ≡ b ∷ others → a ≡ b
same_first a b rest others e = cc

same_rest : (a b : Step) (rest others : List Step) → a ∷ rest ≡ b ∷ others → rest ≡ others
same_rest a b rest others e = cc

none_before_last : (before after : List Step) (step : Step) → before ++ step ∷ after ≡ [] → ⊥
none_before_last [] after step e = cc
none_before_last (first ∷ before) after step e = cc

-- a step among steps that spare a file and a last one is one of those, or the last
pub step_among : (file : List ℕ) (middle before after : List Step) (last step : Step) → Spare file middle → middle ++ last ∷ [] ≡ before ++ step ∷ after →
    (Spare file before × (step_name step ≢ file)) ⊎ ((before ≡ middle) × (step ≡ last))
step_among file [] [] after last step spared parts = inr (refl, sym (same_first last step [] after parts))
step_among file [] (first ∷ before) after last step spared parts =
    absurd (none_before_last before after step (sym (same_rest last first [] (before ++ step ∷ after) parts)))
step_among file (m ∷ middle) [] after last step spared parts =
    inl (tt, subst (λ s. step_name s ≢ file) (same_first m step (middle ++ last ∷ []) after parts) spared.0)
step_among file (m ∷ middle) (first ∷ before) after last step spared parts =
    cases (step_among file middle before after last step spared.1 (same_rest m first (middle ++ last ∷ []) (before ++ step ∷ after) parts))
  where
    is_first : m ≡ first
    is_first = same_first m first (middle ++ last ∷ []) (before ++ step ∷ after) parts

    cases : (Spare file before × (step_name step ≢ file)) ⊎ ((before ≡ middle) × (step ≡ last)) →
        (Spare file (first ∷ before) × (step_name step ≢ file)) ⊎ ((first ∷ before ≡ m ∷ middle) × (step ≡ last))
    cases (inl inside) = inl ((subst (λ s. step_name s ≢ file) is_first spared.0, inside.0), inside.1)
    cases (inr at_end) = inr (ap₂ (λ (s : Step) (steps : List Step). s ∷ steps) (sym is_first) at_end.0, at_end.1)

-- ---- steps that take a file away and put it last

-- what such steps leave where they end early: every file as it was, no such file, or the first of its bytes and every
-- other file as after all of them
pub data Left (file bytes : List ℕ) (steps : List Step) (old new : Files) : Type 0 where
  unchanged : new ≡ old → Left file bytes steps old new
  absent : file_at new file ≡ None → Left file bytes steps old new
  torn : (count : ℕ) → file_at new file ≡ Some (take count bytes) → KeepsOthers (applied steps old) file new → Left file bytes steps old new

module _ (file bytes : List ℕ) (middle : List Step) (old : Files) (spared : Spare file middle) where
  abbrev last : Step
  last = Put file bytes

  abbrev whole : List Step
  whole = Remove file ∷ (middle ++ last ∷ [])

  -- after the first step, and others that spare the file, there is none
  none_after : (before : List Step) → Spare file before → file_at (applied before (without_file old file)) file ≡ None
  none_after before spares = steps_spare file before (without_file old file) spares ∙ file_at-without_file old file

  -- the first step broke
  left_at_first : (step : Step) (new : Files) → Remove file ≡ step → Breaks step old new → Left file bytes whole old new
  left_at_first step new is broke = cases (subst (λ s. Breaks s old new) (sym is) broke)
    where
      cases : Breaks (Remove file) old new → Left file bytes whole old new
      cases (others, inl same) = unchanged (same_with_name new old file same others)
      cases (others, inr none) = absent none

  -- the last step broke
  left_at_last : (new : Files) → Breaks last (applied middle (without_file old file)) new → Left file bytes whole old new
  left_at_last new (others, inl same) = absent (same ∙ none_after middle spared)
  left_at_last new (others, inr (inl none)) = absent none
  left_at_last new (others, inr (inr (count, is))) =
      torn count is (λ other differs. others other differs
      ∙ sym (ap (λ (files : Files). file_at files other) (applied_last middle last (without_file old file))
      ∙ file_at-with_file-other (applied middle (without_file old file)) file bytes other differs))

  left_inside : (before after : List Step) (step : Step) (new : Files) → middle ++ last ∷ [] ≡ before ++ step ∷ after →
      Breaks step (applied before (without_file old file)) new → Left file bytes whole old new
  left_inside before after step new parts broke = cases (step_among file middle before after last step spared parts)
    where
      cases : (Spare file before × (step_name step ≢ file)) ⊎ ((before ≡ middle) × (step ≡ last)) → Left file bytes whole old new
      cases (inl (spares, differs)) =
          absent (broken_step_spares file step (applied before (without_file old file)) new differs broke ∙ none_after before spares)
      cases (inr (is_middle, is_last)) =
          left_at_last new (subst (λ s. Breaks s (applied middle (without_file old file)) new) is_last
          (subst (λ steps. Breaks step (applied steps (without_file old file)) new) is_middle broke))

  -- one of the steps broke
  left_where_broken : (before after : List Step) (step : Step) (new : Files) → whole ≡ before ++ step ∷ after → Breaks step (applied before old) new →
      Left file bytes whole old new
  left_where_broken [] after step new parts broke = left_at_first step new (same_first (Remove file) step (middle ++ last ∷ []) after parts) broke
  left_where_broken (first ∷ before) after step new parts broke =
      left_inside before after step new (same_rest (Remove file) first (middle ++ last ∷ []) (before ++ step ∷ after) parts)
      (subst (λ s. Breaks step (applied before (step_applied s old)) new)
      (sym (same_first (Remove file) first (middle ++ last ∷ []) (before ++ step ∷ after) parts)) broke)

  -- the steps halted before one of them
  left_where_halted : (before after : List Step) (step : Step) (new : Files) → whole ≡ before ++ step ∷ after → new ≡ applied before old →
      Left file bytes whole old new
  left_where_halted [] after step new parts is = unchanged is
  left_where_halted (first ∷ before) after step new parts is =
      absent (ap (λ (files : Files). file_at files file) is
      ∙ ap (λ s. file_at (applied before (step_applied s old)) file) (sym (same_first (Remove file) first (middle ++ last ∷ []) (before ++ step ∷ after) parts))
      ∙ none_after before (spares (step_among file middle before after last step spared
      (same_rest (Remove file) first (middle ++ last ∷ []) (before ++ step ∷ after) parts))))
    where
      spares : (Spare file before × (step_name step ≢ file)) ⊎ ((before ≡ middle) × (step ≡ last)) → Spare file before
      spares (inl inside) = inside.0
      spares (inr at_end) = subst (Spare file) (sym at_end.0) spared

  pub left_by_broken : (steps : List Step) (name : List ℕ) (new : Files) → steps ≡ whole → BrokeOff steps name old new → Left file bytes steps old new
  left_by_broken steps name new are broke =
      subst (λ steps. Left file bytes steps old new) (sym are)
      (left_where_broken broke.before broke.after broke.step new (sym are ∙ broke.parts) broke.left)

  pub left_by_halted : (steps : List Step) (new : Files) → steps ≡ whole → Halted steps old new → Left file bytes steps old new
  left_by_halted steps new are halted =
      subst (λ steps. Left file bytes steps old new) (sym are)
      (left_where_halted halted.before halted.after halted.step new (sym are ∙ halted.parts) halted.left)

  -- where the bytes at the file are all of them, all steps are made
  pub all_if_whole : (steps : List Step) (new : Files) → steps ≡ whole → file_at new file ≡ Some bytes → KeepsOthers (applied steps old) file new →
      new ≡ applied steps old
  all_if_whole steps new are here others =
      same_with_name new (applied steps old) file
      (here ∙ sym (ap (λ steps. file_at (applied steps old) file) are
      ∙ ap (λ (files : Files). file_at files file) (applied_last middle last (without_file old file))
      ∙ file_at-with_file (applied middle (without_file old file)) file bytes)) others
