-- What commands read: files, matrices and modules.
use Rattle.std.specs.Prelude.{ℕ, List, [], ◌∷◌, ◌++◌, map, codes, decimal, Option, Some, None, Result, Ok, Err}
use Rattle.std.specs.List.{range_with_len}
use Rattle.axe_row.specs.declared.refusals.Refusal.{Refusal}
use Rattle.axe_matrix.specs.Matrices.{MatrixValue}
use Rattle.axe_spin.specs.Modules.{ModuleValue, module_of_matrices}
use Rattle.axe_file.specs.declared.fault.FileFault.{FileFault}
use Rattle.axe_file.specs.Limits.{most_packed_bytes, most_module_bytes, most_text_bytes}
use Rattle.axe_file.specs.Packed.{packed_fault, unpacked}
use Rattle.axe_file.specs.PackedModules.{module_fault, unpacked_module}
use Rattle.axe_file.specs.TextReading.{text_fault, text_matrix}
use Rattle.axe_folder.specs.declared.fault.FolderFault.{FolderFault}
use Rattle.axe_folder.specs.Files.{Files, file_at}
use Rattle.axe_folder.specs.Outcomes.{fetched}
use Rattle.axe_arguments.specs.declared.command.ModuleFiles.{ModuleFiles}
use Rattle.axe_arguments.specs.declared.command.ModuleFiles.TheVariants.{Separate, Whole}
use Rattle.axe_fault.specs.Causes.{Problem, Unfetched, Unreadable, Refuses}
use Rattle.axe_plan.specs.declared.reading.Spelling.{Spelling}
use Rattle.axe_plan.specs.declared.reading.Spelling.TheVariants.{Packed, Text}

-- one reading after another: a value goes on, a problem ends it
abbrev pub and_then : {A B : Type 0} → Result A Problem → (A → Result B Problem) → Result B Problem
and_then (Ok value) next = next value
and_then (Err problem) next = Err problem

-- what a fetch gives, with the file's name beside its fault
abbrev pub fetch_named : {A : Type 0} → List ℕ → Result A FolderFault → Result A Problem
fetch_named name (Ok value) = Ok value
fetch_named name (Err fault) = Err (Unfetched name fault)

-- the value that a file's bytes spell, unless they have a fault
abbrev pub unless_faulty : {A : Type 0} → List ℕ → Option FileFault → A → Result A Problem
unless_faulty name None value = Ok value
unless_faulty name (Some fault) value = Err (Unreadable name fault)

-- the answer of an operation, a refusal as the problem that it is
abbrev pub or_refuses : {A : Type 0} → Result A Refusal → Result A Problem
or_refuses (Ok value) = Ok value
or_refuses (Err refusal) = Err (Refuses refusal)

-- the bytes of the file of this name, which are to be at most `limit`
unfoldable pub bytes_in : Files → List ℕ → ℕ → Result (List ℕ) Problem
bytes_in files name limit = fetch_named name (fetched (file_at files name) limit)

-- the matrix whose packed spelling is the file of this name
unfoldable pub matrix_in : Files → List ℕ → Result MatrixValue Problem
matrix_in files name =
    and_then (bytes_in files name most_packed_bytes) (λ bytes. unless_faulty name (packed_fault bytes) (unpacked bytes))

-- the matrix of which the file of this name is a text
unfoldable pub text_matrix_in : Files → List ℕ → Result MatrixValue Problem
text_matrix_in files name =
    and_then (bytes_in files name most_text_bytes) (λ bytes. unless_faulty name (text_fault bytes) (text_matrix bytes))

-- the matrix that the file of this name spells, in the packed form or as a text
abbrev pub spelled_in : Spelling → Files → List ℕ → Result MatrixValue Problem
spelled_in Packed files name = matrix_in files name
spelled_in Text files name = text_matrix_in files name

-- the matrices that the files of these names spell, all packed or all as texts, each fetched and read before the next
abbrev pub all_spelled_in : Spelling → Files → List (List ℕ) → Result (List MatrixValue) Problem
all_spelled_in spelling files [] = Ok []
all_spelled_in spelling files (name ∷ names) =
    and_then (spelled_in spelling files name) (λ first.
    and_then (all_spelled_in spelling files names) (λ rest. Ok (first ∷ rest)))

-- the matrices whose packed spellings are the files of these names
abbrev pub matrices_in : Files → List (List ℕ) → Result (List MatrixValue) Problem
matrices_in files names = all_spelled_in Packed files names

-- the matrices of which the files of these names are texts
abbrev pub text_matrices_in : Files → List (List ℕ) → Result (List MatrixValue) Problem
text_matrices_in files names = all_spelled_in Text files names

-- the generators of the module whose packed spelling is the file of this name
unfoldable pub packed_generators_in : Files → List ℕ → Result (List MatrixValue) Problem
packed_generators_in files name =
    and_then (bytes_in files name most_module_bytes) (λ bytes.
    unless_faulty name (module_fault bytes) (unpacked_module bytes))

-- the name of the file of a number: the name of its module, a dot (46) and the number in decimal
abbrev pub numbered : List ℕ → ℕ → List ℕ
numbered name number = name ++ 46 ∷ decimal number

-- the names of the files of a module's generators, whose numbers are 1 to their count
abbrev pub numbered_names : List ℕ → ℕ → List (List ℕ)
numbered_names name count = map (numbered name) (range_with_len 1 count)

-- the name of the file of a whole module: the name of the module, and then .axm
abbrev pub module_file : List ℕ → List ℕ
module_file name = name ++ codes ".axm"

-- the names of a module's files
abbrev pub module_names : ModuleFiles → List ℕ → List (List ℕ)
module_names (Separate count) name = numbered_names name count
module_names Whole name = module_file name ∷ []

-- the generators that a module's files spell
abbrev pub generators_in : ModuleFiles → List ℕ → Files → Result (List MatrixValue) Problem
generators_in (Separate count) name files = matrices_in files (numbered_names name count)
generators_in Whole name files = packed_generators_in files (module_file name)

-- the module whose generators are these matrices, unless one of them is refused
unfoldable pub checked_module : List MatrixValue → Result ModuleValue Problem
checked_module matrices = or_refuses (module_of_matrices matrices)

-- the module of this name that its files spell, unless a generator is refused
unfoldable pub module_in : ModuleFiles → List ℕ → Files → Result ModuleValue Problem
module_in stored name files = and_then (generators_in stored name files) checked_module

-- the module whose generators are the files 1 to `count` of a name, beside the matrix of the file `seed`: the files are
-- read in this order, and then the generators are looked at
unfoldable pub seeded_module : ℕ → List ℕ → List ℕ → Files → Result (ModuleValue × MatrixValue) Problem
seeded_module count name seed files =
    and_then (matrices_in files (numbered_names name count)) (λ matrices.
    and_then (matrix_in files seed) (λ vectors.
    and_then (checked_module matrices) (λ m. Ok (m, vectors))))
