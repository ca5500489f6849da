-- What is read from a faultless file is a matrix, or are the generators of a module.
use Rattle.std.proofs.Common.{◌≡◌, refl, ℕ, List, Option, Some, None, Result, Ok, Err, IfOk}
use Rattle.axe_matrix.specs.Matrices.{IsMatrix}
use Rattle.axe_file.specs.declared.fault.FileFault.{FileFault}
use Rattle.axe_file.specs.Limits.{most_packed_bytes, most_module_bytes}
use Rattle.axe_file.specs.Packed.{packed_fault, unpacked}
use Rattle.axe_file.specs.PackedModules.{AreGenerators, module_fault, unpacked_module}
use Rattle.axe_file.proofs.Soundness.{sound_bytes}
use Rattle.axe_file.proofs.Respelling.{unpacked_is_matrix}
use Rattle.axe_file.proofs.ModuleSpellings.{sound_module, unpacked_generators}
use Rattle.axe_folder.specs.Files.{Files}
use Rattle.axe_fault.specs.Causes.{Problem}
use Rattle.axe_plan.specs.Inputs.{and_then, unless_faulty, bytes_in, matrix_in, packed_generators_in}

faultless_is_matrix : (name bytes : List ℕ) (fault : Option FileFault) → packed_fault bytes ≡ fault → IfOk (unless_faulty name fault (unpacked bytes)) IsMatrix
faultless_is_matrix name bytes None e = unpacked_is_matrix bytes (sound_bytes bytes e).0
faultless_is_matrix name bytes (Some fault) e = tt

bytes_are_matrix : (name : List ℕ) (bytes : Result (List ℕ) Problem) → IfOk (and_then bytes (λ bytes. unless_faulty name (packed_fault bytes) (unpacked bytes))) IsMatrix
bytes_are_matrix name (Ok bytes) = faultless_is_matrix name bytes (packed_fault bytes) refl
bytes_are_matrix name (Err problem) = tt

pub matrix_in_is_matrix : (files : Files) (name : List ℕ) → IfOk (matrix_in files name) IsMatrix
unfolding matrix_in
matrix_in_is_matrix files name = bytes_are_matrix name (bytes_in files name most_packed_bytes)

-- ---- whole modules

faultless_are_generators : (name bytes : List ℕ) (fault : Option FileFault) → module_fault bytes ≡ fault →
    IfOk (unless_faulty name fault (unpacked_module bytes)) AreGenerators
faultless_are_generators name bytes None e = unpacked_generators bytes (sound_module bytes e).0
faultless_are_generators name bytes (Some fault) e = tt

bytes_are_generators : (name : List ℕ) (bytes : Result (List ℕ) Problem) →
    IfOk (and_then bytes (λ bytes. unless_faulty name (module_fault bytes) (unpacked_module bytes))) AreGenerators
bytes_are_generators name (Ok bytes) = faultless_are_generators name bytes (module_fault bytes) refl
bytes_are_generators name (Err problem) = tt

pub packed_generators_are_generators : (files : Files) (name : List ℕ) → IfOk (packed_generators_in files name) AreGenerators
unfolding packed_generators_in
packed_generators_are_generators files name = bytes_are_generators name (bytes_in files name most_module_bytes)
