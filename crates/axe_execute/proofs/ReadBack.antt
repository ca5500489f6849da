-- Files that hold the spellings of matrices are read as these, and those of a module's generators as the module.
use Rattle.std.proofs.Common.{◌≡◌, refl, sym, subst, ◌∙◌, ap, ℕ, zero, suc, ◌+◌, ◌<◌, ◌≤◌, List, [], ◌∷◌, length, map, get_or, Some, Result, Ok, arith}
use mathlib.Core.List.{map-map}
use Rattle.std.specs.List.{range_with_len, All, AllByRecursion}
use Rattle.std.proofs.lemmas.Bool.{le-ltb}
use Rattle.std.proofs.lemmas.List.Elements.{All-from_get_or, All-get_or}
use Rattle.std.proofs.lemmas.List.FromFn.{length-map-range_with_len, get_or-map-range_with_len, fill_by_all}
use Rattle.axe_algebra.specs.Lists.{listed, IsSquareOver}
use Rattle.axe_field.specs.NumberFields.{number_field}
use Rattle.axe_matrix.specs.Matrices.{MatrixValue, IsMatrix}
use Rattle.axe_echelon.proofs.SomeMatrix.{matrix_of_rows_over}
use Rattle.axe_spin.specs.Generators.{IsGeneratorMatrix}
use Rattle.axe_spin.specs.Modules.{ModuleValue, IsModule, generator_of, rows_of_each}
use Rattle.axe_action.proofs.GeneratorLists.{module_of_generators}
use Rattle.axe_arguments.specs.declared.command.ModuleFiles.{ModuleFiles}
use Rattle.axe_arguments.specs.declared.command.ModuleFiles.TheVariants.{Separate, Whole}
use Rattle.axe_file.specs.Limits.{most_packed_bytes, most_module_bytes}
use Rattle.axe_file.specs.Packed.{packed, packed_fault, unpacked}
use Rattle.axe_file.proofs.Spellings.{packed_faultless, packed_within}
use Rattle.axe_file.proofs.Unpacking.{unpacked_packed}
use Rattle.axe_file.specs.PackedModules.{AreGenerators, packed_module, module_fault, unpacked_module}
use Rattle.axe_file.proofs.ModuleSpellings.{packed_module_faultless, packed_module_within, unpacked_packed_module}
use Rattle.axe_folder.specs.declared.fault.FolderFault.{FolderFault}
use Rattle.axe_folder.specs.Files.{Files, file_at}
use Rattle.axe_folder.specs.Outcomes.{fetched}
use Rattle.axe_fault.specs.Causes.{Problem}
use Rattle.axe_plan.specs.Inputs.{and_then, fetch_named, unless_faulty, or_refuses, bytes_in, matrix_in, matrices_in, packed_generators_in, numbered, numbered_names, module_file, module_names, generators_in, checked_module, module_in}
use Rattle.axe_plan.specs.Outputs.{matrices_of}
use Rattle.axe_plan.proofs.WholeModules.{generators_are_spelled}

-- ---- spellings

pub fetched_whole : (bytes : List ℕ) (limit : ℕ) → length bytes ≤ limit → fetched (Some bytes) limit ≡ Ok bytes
fetched_whole bytes limit fits = rw (le-ltb limit (length bytes) fits) refl

pub matrix_of_spelling : (files : Files) (name : List ℕ) (a : MatrixValue) → IsMatrix a → file_at files name ≡ Some (packed a) → matrix_in files name ≡ Ok a
unfolding matrix_in bytes_in
matrix_of_spelling files name a well here =
    ap (λ file. spelled (fetched file most_packed_bytes)) here ∙ ap spelled (fetched_whole (packed a) most_packed_bytes (packed_within a well))
    ∙ (λ j. unless_faulty name (packed_faultless a well j) (unpacked_packed a well j))
  where
    spelled : Result (List ℕ) FolderFault → Result MatrixValue Problem
    spelled found = and_then (fetch_named name found) (λ bytes. unless_faulty name (packed_fault bytes) (unpacked bytes))

-- so many files from a number on hold the spellings of matrices
abbrev pub AreSpelled : Files → List ℕ → (ℕ → MatrixValue) → ℕ → ℕ → Type 0
AreSpelled files name matrix first count =
    (i : ℕ) → first ≤ i → i < first + count → IsMatrix (matrix i) × (file_at files (numbered name (i + 1)) ≡ Some (packed (matrix i)))

matrices_of_spellings : (files : Files) (name : List ℕ) (matrix : ℕ → MatrixValue) (first count : ℕ) → AreSpelled files name matrix first count →
    matrices_in files (map (numbered name) (range_with_len (first + 1) count)) ≡ Ok (map matrix (range_with_len first count))
matrices_of_spellings files name matrix first zero are = refl
matrices_of_spellings files name matrix first (suc count) are =
    ap (λ read. and_then read (λ a. and_then rest (λ more. Ok (a ∷ more)))) (matrix_of_spelling files (numbered name (first + 1)) (matrix first) here.0 here.1)
    ∙ ap (λ read. and_then read (λ more. Ok (matrix first ∷ more)))
    (matrices_of_spellings files name matrix (first + 1) count (λ i from to. are i (omega arith) (omega arith)))
  where
    rest : Result (List MatrixValue) Problem
    rest = matrices_in files (map (numbered name) (range_with_len (first + 1 + 1) count))

    here : IsMatrix (matrix first) × (file_at files (numbered name (first + 1)) ≡ Some (packed (matrix first)))
    here = are first (omega arith) (omega arith)

-- ---- generators

generator_is_matrix : (m : ModuleValue) → IsModule m → (i : ℕ) → i < length m.generators → IsGeneratorMatrix m.order m.dim (generator_of m i)
generator_is_matrix m is i below = record {
  field = refl;
  columns = refl;
  rows = square.length_is;
  well_formed = matrix_of_rows_over m.order m.dim (get_or m.generators i []) (omega (arith, is.over.positive)) is.dim_fits
      (omega (arith, square.length_is, is.dim_fits)) square.matrix;
}
  where
    square : IsSquareOver (number_field m.order) m.dim (get_or m.generators i [])
    square = All-get_or (IsSquareOver (number_field m.order) m.dim) m.generators i [] below is.over.square

-- the files under a name hold the spellings of a module's generators
abbrev pub HoldsGenerators : Files → List ℕ → ModuleValue → Type 0
HoldsGenerators files name m = (i : ℕ) → i < length m.generators → file_at files (numbered name (i + 1)) ≡ Some (packed (generator_of m i))

generators_listed : (m : ModuleValue) → rows_of_each (listed (length m.generators) (generator_of m)) ≡ m.generators
generators_listed m = map-map (λ (a : MatrixValue). a.rows) (generator_of m) (range_with_len 0 (length m.generators))
    ∙ sym (fill_by_all (λ i. get_or m.generators i []) m.generators (length m.generators) [] refl (λ k below. refl))

-- the generators of a module, as matrices
module _ (m : ModuleValue) (is : IsModule m) where
  abbrev pub count : ℕ
  count = length m.generators

  so_many : length (matrices_of m) ≡ count
  so_many = length-map-range_with_len (generator_of m) 0 count

  each_is_matrix : All (IsGeneratorMatrix m.order m.dim) (matrices_of m)
  each_is_matrix = All-from_get_or (IsGeneratorMatrix m.order m.dim) (matrices_of m) (generator_of m 0)
      (λ i inside. subst (IsGeneratorMatrix m.order m.dim)
      (sym (get_or-map-range_with_len (generator_of m) 0 count i i (generator_of m 0) (omega (arith, so_many, inside)) (omega arith)))
      (generator_is_matrix m is i (omega (arith, so_many, inside))))

  module_of_those : checked_module (matrices_of m) ≡ Ok m
  unfolding checked_module
  module_of_those =
      ap or_refuses (module_of_generators m.order m.dim (matrices_of m) (omega (arith, so_many, is.some_generator)) each_is_matrix)
      ∙ ap (λ generators. Ok (record { order = m.order; dim = m.dim; generators = generators })) (generators_listed m)

  pub module_of_spellings : (files : Files) (name : List ℕ) → HoldsGenerators files name m → module_in (Separate count) name files ≡ Ok m
  unfolding module_in
  module_of_spellings files name holds =
      ap (λ read. and_then read checked_module) (matrices_of_spellings files name (generator_of m) 0 count
      (λ i from to. ((generator_is_matrix m is i (omega arith)).well_formed, holds i (omega arith))))
      ∙ module_of_those

  spelled : AreGenerators (matrices_of m)
  spelled = generators_are_spelled m (matrices_of m) (generators_listed m) each_is_matrix is

  generators_of_spelling : (files : Files) (name : List ℕ) → file_at files name ≡ Some (packed_module (matrices_of m)) →
      packed_generators_in files name ≡ Ok (matrices_of m)
  unfolding packed_generators_in bytes_in
  generators_of_spelling files name here =
      ap (λ file. read (fetched file most_module_bytes)) here
      ∙ ap read (fetched_whole (packed_module (matrices_of m)) most_module_bytes (packed_module_within (matrices_of m) spelled))
      ∙ (λ j. unless_faulty name (packed_module_faultless (matrices_of m) spelled j) (unpacked_packed_module (matrices_of m) spelled j))
    where
      read : Result (List ℕ) FolderFault → Result (List MatrixValue) Problem
      read found = and_then (fetch_named name found) (λ bytes. unless_faulty name (module_fault bytes) (unpacked_module bytes))

  pub module_of_one_spelling : (files : Files) (name : List ℕ) → file_at files (module_file name) ≡ Some (packed_module (matrices_of m)) →
      module_in Whole name files ≡ Ok m
  unfolding module_in
  module_of_one_spelling files name here =
      ap (λ read. and_then read checked_module) (generators_of_spelling files (module_file name) here) ∙ module_of_those

-- ---- the same files

-- files of these names are the same in both
abbrev pub AgreeAt : Files → Files → List (List ℕ) → Type 0
AgreeAt a b names = AllByRecursion (λ name. file_at a name ≡ file_at b name) names

matrix_same : (a b : Files) (name : List ℕ) → file_at a name ≡ file_at b name → matrix_in a name ≡ matrix_in b name
unfolding matrix_in bytes_in
matrix_same a b name e =
    ap (λ file. and_then (fetch_named name (fetched file most_packed_bytes)) (λ bytes. unless_faulty name (packed_fault bytes) (unpacked bytes))) e

matrices_same : (a b : Files) (names : List (List ℕ)) → AgreeAt a b names → matrices_in a names ≡ matrices_in b names
matrices_same a b [] same = refl
matrices_same a b (name ∷ names) same =
    λ j. and_then (matrix_same a b name same.0 j) (λ first. and_then (matrices_same a b names same.1 j) (λ rest. Ok (first ∷ rest)))

packed_generators_same : (a b : Files) (name : List ℕ) → file_at a name ≡ file_at b name → packed_generators_in a name ≡ packed_generators_in b name
unfolding packed_generators_in bytes_in
packed_generators_same a b name e =
    ap (λ file. and_then (fetch_named name (fetched file most_module_bytes)) (λ bytes. unless_faulty name (module_fault bytes) (unpacked_module bytes))) e

generators_same : (stored : ModuleFiles) (name : List ℕ) (a b : Files) → AgreeAt a b (module_names stored name) →
    generators_in stored name a ≡ generators_in stored name b
generators_same (Separate count) name a b same = matrices_same a b (numbered_names name count) same
generators_same Whole name a b same = packed_generators_same a b (module_file name) same.0

pub module_same : (stored : ModuleFiles) (name : List ℕ) (a b : Files) → AgreeAt a b (module_names stored name) →
    module_in stored name a ≡ module_in stored name b
unfolding module_in
module_same stored name a b same = ap (λ read. and_then read checked_module) (generators_same stored name a b same)
