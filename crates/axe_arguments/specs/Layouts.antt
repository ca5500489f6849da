-- The files of a module by how they lie.
use Rattle.std.specs.Prelude.{ℕ}
use Rattle.axe_arguments.specs.declared.command.ModuleFiles.{ModuleFiles}
use Rattle.axe_arguments.specs.declared.command.ModuleFiles.TheVariants as files
use Rattle.axe_arguments.specs.declared.command.ModuleLayout.{ModuleLayout}
use Rattle.axe_arguments.specs.declared.command.ModuleLayout.TheVariants.{Separate, Whole}

-- the files of a module with so many generators
abbrev pub files_with : ModuleLayout → ℕ → ModuleFiles
files_with Separate count = files.Separate count
files_with Whole count = files.Whole
