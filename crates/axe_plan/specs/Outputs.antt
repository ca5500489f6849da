-- What commands put and show: matrices and modules.
use Rattle.std.specs.Prelude.{ℕ, ◌+◌, List, [], ◌∷◌, length, Option, Some, None}
use Rattle.axe_algebra.specs.Lists.{listed}
use Rattle.axe_matrix.specs.Matrices.{MatrixValue}
use Rattle.axe_spin.specs.Modules.{ModuleValue, generator_of}
use Rattle.axe_file.specs.Packed.{packed}
use Rattle.axe_file.specs.PackedModules.{packed_module}
use Rattle.axe_file.specs.TextWriting.{text_of}
use Rattle.axe_arguments.specs.declared.command.ModuleFiles.{ModuleFiles}
use Rattle.axe_arguments.specs.declared.command.ModuleFiles.TheVariants.{Separate, Whole}
use Rattle.axe_plan.specs.Plans.{Step, Put, Plan}
use Rattle.axe_plan.specs.Inputs.{numbered, module_file}

-- the plan that puts a matrix under a name, packed, and shows nothing
abbrev pub put_packed : List ℕ → MatrixValue → Plan
put_packed name a = record { steps = Put name (packed a) ∷ []; shown = [] }

-- the plan that puts the text of a matrix under a name, or shows it where there is no name
abbrev pub put_or_show_text : Option (List ℕ) → MatrixValue → Plan
put_or_show_text (Some name) a = record { steps = Put name (text_of a) ∷ []; shown = [] }
put_or_show_text None a = record { steps = []; shown = text_of a }

-- the step that puts generator i of a module, counted from 0, packed, as the file of number i + 1
abbrev pub put_generator : List ℕ → ModuleValue → ℕ → Step
put_generator name m i = Put (numbered name (i + 1)) (packed (generator_of m i))

-- the steps that put the generators of a module in order
abbrev pub put_generators : List ℕ → ModuleValue → List Step
put_generators name m = listed (length m.generators) (put_generator name m)

-- the generators of a module as matrices, in order
abbrev pub matrices_of : ModuleValue → List MatrixValue
matrices_of m = listed (length m.generators) (generator_of m)

-- the plan that puts a whole module under a name, packed, and shows nothing
abbrev pub put_packed_module : List ℕ → ModuleValue → Plan
put_packed_module name m = record { steps = Put name (packed_module (matrices_of m)) ∷ []; shown = [] }

-- the steps that put a module under a name, packed, in its files
abbrev pub put_module : ModuleFiles → List ℕ → ModuleValue → List Step
put_module (Separate count) name m = put_generators name m
put_module Whole name m = Put (module_file name) (packed_module (matrices_of m)) ∷ []
