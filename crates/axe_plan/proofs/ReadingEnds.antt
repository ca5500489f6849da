-- No reading ends in a section that stays open.
use Rattle.std.proofs.Common.{ℕ, List, [], ◌∷◌, Option, Some, None, Result, Ok, Err}
use Rattle.std.specs.Prelude.{⊤}
use Rattle.axe_row.specs.declared.refusals.Refusal.{Refusal}
use Rattle.axe_matrix.specs.Matrices.{MatrixValue}
use Rattle.axe_arguments.specs.declared.command.ModuleFiles.{ModuleFiles}
use Rattle.axe_arguments.specs.declared.command.ModuleFiles.TheVariants.{Separate, Whole}
use Rattle.axe_spin.specs.Modules.{ModuleValue, module_of_matrices}
use Rattle.axe_file.specs.declared.fault.FileFault.{FileFault}
use Rattle.axe_file.specs.Limits.{most_packed_bytes, most_module_bytes}
use Rattle.axe_file.specs.Packed.{packed_fault, unpacked}
use Rattle.axe_file.specs.PackedModules.{module_fault, unpacked_module}
use Rattle.axe_folder.specs.declared.fault.FolderFault.{FolderFault}
use Rattle.axe_folder.specs.Files.{Files, file_at}
use Rattle.axe_folder.specs.Outcomes.{fetched}
use Rattle.axe_fault.specs.Causes.{Problem, StaysOpen}
use Rattle.axe_plan.specs.Inputs.{and_then, fetch_named, unless_faulty, or_refuses, bytes_in, matrix_in, matrices_in, packed_generators_in, numbered_names, module_file, generators_in, checked_module, module_in}

-- the answer is no section that stays open
abbrev pub EndsInReading : {A : Type 0} → Result A Problem → Type 0
EndsInReading (Err (StaysOpen basis offset dim)) = ⊥
EndsInReading answer = ⊤

bytes_end : (files : Files) (name : List ℕ) (limit : ℕ) → EndsInReading (bytes_in files name limit)
unfolding bytes_in
bytes_end files name limit = cases (fetched (file_at files name) limit)
  where
    cases : (found : Result (List ℕ) FolderFault) → EndsInReading (fetch_named name found)
    cases (Ok bytes) = tt
    cases (Err fault) = tt

then_ends : {A B : Type 0} (first : Result A Problem) (next : A → Result B Problem) → EndsInReading first →
    ((value : A) → EndsInReading (next value)) → EndsInReading (and_then first next)
then_ends (Ok value) next ends more = more value
then_ends (Err problem) next ends more = ends

spelled_ends : {A : Type 0} (name : List ℕ) (fault : Option FileFault) (value : A) → EndsInReading (unless_faulty name fault value)
spelled_ends name None value = tt
spelled_ends name (Some fault) value = tt

matrix_ends : (files : Files) (name : List ℕ) → EndsInReading (matrix_in files name)
unfolding matrix_in
matrix_ends files name =
    then_ends (bytes_in files name most_packed_bytes) _ (bytes_end files name most_packed_bytes) (λ bytes. spelled_ends name (packed_fault bytes) (unpacked bytes))

matrices_end : (files : Files) (names : List (List ℕ)) → EndsInReading (matrices_in files names)
matrices_end files [] = tt
matrices_end files (name ∷ names) =
    then_ends (matrix_in files name) _ (matrix_ends files name) (λ first. then_ends (matrices_in files names) _ (matrices_end files names) (λ rest. tt))

packed_generators_end : (files : Files) (name : List ℕ) → EndsInReading (packed_generators_in files name)
unfolding packed_generators_in
packed_generators_end files name =
    then_ends (bytes_in files name most_module_bytes) _ (bytes_end files name most_module_bytes) (λ bytes. spelled_ends name (module_fault bytes) (unpacked_module bytes))

generators_end : (stored : ModuleFiles) (name : List ℕ) (files : Files) → EndsInReading (generators_in stored name files)
generators_end (Separate count) name files = matrices_end files (numbered_names name count)
generators_end Whole name files = packed_generators_end files (module_file name)

checked_ends : (matrices : List MatrixValue) → EndsInReading (checked_module matrices)
unfolding checked_module
checked_ends matrices = cases (module_of_matrices matrices)
  where
    cases : (made : Result ModuleValue Refusal) → EndsInReading (or_refuses made)
    cases (Ok m) = tt
    cases (Err refusal) = tt

pub module_ends : (stored : ModuleFiles) (name : List ℕ) (files : Files) → EndsInReading (module_in stored name files)
unfolding module_in
module_ends stored name files = then_ends (generators_in stored name files) checked_module (generators_end stored name files) checked_ends
