-- What a command does: its plan.
use Rattle.std.specs.Prelude.{ℕ, List, [], ◌∷◌}
use Rattle.axe_folder.specs.Files.{Files, with_file, without_file}

-- one change to the files of a folder: a name is given these bytes, or its file is taken away
pub data Step : Type 0 where
  Put : List ℕ → List ℕ → Step
  Remove : List ℕ → Step

-- the name whose file a step changes
abbrev pub step_name : Step → List ℕ
step_name (Put name bytes) = name
step_name (Remove name) = name

-- the files after a step
abbrev pub step_applied : Step → Files → Files
step_applied (Put name bytes) files = with_file files name bytes
step_applied (Remove name) files = without_file files name

-- the files after steps, made one after the other
abbrev pub applied : List Step → Files → Files
applied [] files = files
applied (step ∷ steps) files = applied steps (step_applied step files)

-- what a command does when nothing stands against it: its steps in order, and the text that it shows
pub record Plan : Type 0 where
  pub steps : List Step
  pub shown : List ℕ
