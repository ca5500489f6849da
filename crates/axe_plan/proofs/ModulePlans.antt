-- Modules that are read, and a module and a seed that are read one after the other.
use Rattle.std.proofs.Common.{◌≡◌, sym, ◌∙◌, ap, ℕ, List, Result, Ok, Err}
use Rattle.axe_matrix.specs.Matrices.{MatrixValue}
use Rattle.axe_spin.specs.Modules.{ModuleValue}
use Rattle.axe_folder.specs.Files.{Files}
use Rattle.axe_fault.specs.Causes.{Problem}
use Rattle.axe_arguments.specs.declared.command.ModuleFiles.{ModuleFiles}
use Rattle.axe_plan.specs.Inputs.{and_then, matrix_in, matrices_in, numbered_names, generators_in, checked_module, module_in, seeded_module}
use Rattle.axe_plan.specs.Meanings.{Meaning, Is, ◌>>=◌}

-- what is read after another thing is what both readings give
pub read_after : {A B : Type 0} (first : Result A Problem) (next : A → Result B Problem) (answer : Result B Problem) → (Is first >>= λ a. Is (next a)) answer →
    and_then first next ≡ answer
read_after first next answer (Ok value, is, right) = ap (λ found. and_then found next) is ∙ right
read_after first next answer (Err problem, is, right) = ap (λ found. and_then found next) is ∙ sym right

-- a module, made of matrices that are read
abbrev pub ModuleReading : ModuleFiles → List ℕ → Files → Meaning ModuleValue
ModuleReading stored name files = Is (generators_in stored name files) >>= λ matrices. Is (checked_module matrices)

pub module_reading : (stored : ModuleFiles) (name : List ℕ) (files : Files) (answer : Result ModuleValue Problem) → ModuleReading stored name files answer →
    Is (module_in stored name files) answer
unfolding module_in
module_reading stored name files answer reading = read_after (generators_in stored name files) checked_module answer reading

-- a module and a seed, read one after the other
abbrev pub SeededReading : ℕ → List ℕ → List ℕ → Files → Meaning (ModuleValue × MatrixValue)
SeededReading count name seed files =
    Is (matrices_in files (numbered_names name count)) >>= λ matrices. Is (matrix_in files seed) >>= λ vectors.
    Is (checked_module matrices) >>= λ m. Is (Ok (m, vectors))

pub seeded_reading : (count : ℕ) (name seed : List ℕ) (files : Files) (answer : Result (ModuleValue × MatrixValue) Problem) →
    SeededReading count name seed files answer → Is (seeded_module count name seed files) answer
unfolding seeded_module
seeded_reading count name seed files answer (Err problem, is, right) =
    read_after _ (λ matrices. and_then (matrix_in files seed) (λ vectors. and_then (checked_module matrices) (λ m. Ok (m, vectors)))) answer
    (Err problem, is, right)
seeded_reading count name seed files answer (Ok matrices, is, (Err problem, is_seed, right)) =
    read_after _ (λ matrices. and_then (matrix_in files seed) (λ vectors. and_then (checked_module matrices) (λ m. Ok (m, vectors)))) answer
    (Ok matrices, is, read_after _ (λ vectors. and_then (checked_module matrices) (λ m. Ok (m, vectors))) answer (Err problem, is_seed, right))
seeded_reading count name seed files answer (Ok matrices, is, (Ok vectors, is_seed, right)) =
    read_after _ (λ matrices. and_then (matrix_in files seed) (λ vectors. and_then (checked_module matrices) (λ m. Ok (m, vectors)))) answer (
      Ok matrices,
      is,
      read_after _ (λ vectors. and_then (checked_module matrices) (λ m. Ok (m, vectors))) answer
          (Ok vectors, is_seed, read_after _ (λ m. Ok (m, vectors)) answer right),
    )
