-- The files that a command speaks of, and its numbers.
use Rattle.std.specs.Prelude.{◌≡◌, ⊤, ℕ, true, List, [], ◌∷◌, Some, None}
use Rattle.std.specs.List.{list_all}
use Rattle.axe_arguments.specs.Names.{is_name}
use Rattle.axe_arguments.specs.Counts.{IsGeneratorCount, IsWordCount}
use Rattle.axe_arguments.specs.declared.command.ModuleFiles.{ModuleFiles}
use Rattle.axe_arguments.specs.declared.command.ModuleFiles.TheVariants.{Separate, Whole}
use Rattle.axe_arguments.specs.declared.command.Command.{Command}
use Rattle.axe_arguments.specs.declared.command.Command.TheVariants.{Zcv, ZcvModule, Zpr, Zmu, Zad}
use Rattle.axe_arguments.specs.declared.command.Command.TheVariants.{Ztr, Ziv, Znu, Zsp, Zqt, Chop, Verify}

-- the words of a command that stand for files, in their order
abbrev pub file_names : Command → List (List ℕ)
file_names (Zcv input out) = input ∷ out ∷ []
file_names (ZcvModule generators name out) = name ∷ out ∷ []
file_names (Zpr input None) = input ∷ []
file_names (Zpr input (Some out)) = input ∷ out ∷ []
file_names (Zmu left right out) = left ∷ right ∷ out ∷ []
file_names (Zad left right out) = left ∷ right ∷ out ∷ []
file_names (Ztr input out) = input ∷ out ∷ []
file_names (Ziv input out) = input ∷ out ∷ []
file_names (Znu input out) = input ∷ out ∷ []
file_names (Zsp generators standard None name seed out) = name ∷ seed ∷ out ∷ []
file_names (Zsp generators standard (Some action) name seed out) = action ∷ name ∷ seed ∷ out ∷ []
file_names (Zqt generators subspace name out) = subspace ∷ name ∷ out ∷ []
file_names (Chop files seed words name) = name ∷ []
file_names (Verify layout name) = name ∷ []

-- each word of the command that stands for a file keeps the rule of names
abbrev pub HasNames : Command → Type 0
HasNames command = list_all is_name (file_names command) ≡ true

-- where a module has a file for each generator, these are as many as a module may have
abbrev pub HasFileCount : ModuleFiles → Type 0
HasFileCount (Separate generators) = IsGeneratorCount generators
HasFileCount Whole = ⊤

-- a command's numbers of generators and of words are in their ranges, as its type keeps them
abbrev pub HasCounts : Command → Type 0
HasCounts (ZcvModule generators name out) = IsGeneratorCount generators
HasCounts (Zsp generators standard action name seed out) = IsGeneratorCount generators
HasCounts (Zqt generators subspace name out) = IsGeneratorCount generators
HasCounts (Chop files seed words name) = HasFileCount files × IsWordCount words
HasCounts command = ⊤
