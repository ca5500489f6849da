-- Modules that are made of matrices that were read.
use Rattle.std.proofs.Common.{◌≡◌, refl, sym, ◌∙◌, subst, ℕ, ◌≤◌, List, [], ◌∷◌, length, Option, Some, None, Result, Ok, Err, IfOk, arith}
use Rattle.std.specs.Prelude.{⊤}
use Rattle.std.specs.List.{All}
use Rattle.std.proofs.lemmas.List.{length-map}
use Rattle.std.proofs.lemmas.List.FromFn.{length-map-range_with_len}
use Rattle.std.proofs.lemmas.List.Elements.{All-nil, All-cons, All-head, All-tail}
use Rattle.axe_algebra.specs.Lists.{IsModuleOver}
use Rattle.axe_field.specs.Order.{Order}
use Rattle.axe_field.specs.NumberFields.{number_field}
use Rattle.axe_row.specs.declared.refusals.Refusal.{Refusal}
use Rattle.axe_matrix.specs.Limits.{most_columns}
use Rattle.axe_matrix.specs.Matrices.{MatrixValue, IsMatrix}
use Rattle.axe_row.specs.Refusals.{unless_refused}
use Rattle.axe_spin.specs.Limits.{most_generators}
use Rattle.axe_spin.specs.Modules.{ModuleValue, IsModule, generators_refusal, rows_of_each}
use Rattle.axe_file.specs.PackedModules.{IsGenerator, first_order, first_columns, AreGenerators}
use Rattle.axe_arguments.specs.Commands.{HasFileCount}
use Rattle.axe_arguments.specs.declared.command.ModuleFiles.{ModuleFiles}
use Rattle.axe_arguments.specs.declared.command.ModuleFiles.TheVariants.{Separate, Whole}
use Rattle.axe_folder.specs.Files.{Files}
use Rattle.axe_fault.specs.Causes.{Problem}
use Rattle.axe_plan.specs.Inputs.{and_then, or_refuses, matrix_in, matrices_in, packed_generators_in, numbered, numbered_names, module_file, generators_in, checked_module, module_in, seeded_module}
use Rattle.axe_plan.specs.Meanings.{Is}
use Rattle.axe_plan.proofs.Readings.{matrix_in_is_matrix, packed_generators_are_generators}
use Rattle.axe_spin.proofs.SquareGenerators.{squares_if_not_refused}

-- a dimension within the limits, and square generators of that dimension
pub record IsReadModule (m : ModuleValue) : Type 0 where
  pub over : IsModuleOver (number_field m.order) m.dim m.generators
  pub dim_fits : m.dim ≤ most_columns

-- ---- modules

made_by_refusal : (first : MatrixValue) (rest : List MatrixValue) (refusal : Option Refusal) → generators_refusal first.order first.cols (first ∷ rest) ≡ refusal →
    All IsMatrix (first ∷ rest) →
    IfOk (or_refuses (unless_refused refusal (record { order = first.order; dim = first.cols; generators = rows_of_each (first ∷ rest) }))) IsReadModule
made_by_refusal first rest None e well = record {
  over = record {
    positive = (All-head IsMatrix first rest well).some_column;
    square = squares_if_not_refused first.order first.cols (first ∷ rest) e well;
  };
  dim_fits = (All-head IsMatrix first rest well).columns_fit;
}
made_by_refusal first rest (Some refusal) e well = tt

pub made_is_module : (matrices : List MatrixValue) → All IsMatrix matrices → IfOk (checked_module matrices) IsReadModule
unfolding checked_module
made_is_module [] well = tt
made_is_module (first ∷ rest) well = made_by_refusal first rest (generators_refusal first.order first.cols (first ∷ rest)) refl well

-- ---- what is read

pub matrices_are_matrices : (files : Files) (names : List (List ℕ)) → IfOk (matrices_in files names) (All IsMatrix)
matrices_are_matrices files [] = All-nil IsMatrix
matrices_are_matrices files (name ∷ names) =
    cases (matrix_in files name) (matrices_in files names) (matrix_in_is_matrix files name) (matrices_are_matrices files names)
  where
    cases : (first : Result MatrixValue Problem) (rest : Result (List MatrixValue) Problem) → IfOk first IsMatrix → IfOk rest (All IsMatrix) →
        IfOk (and_then first (λ first. and_then rest (λ rest. Ok (first ∷ rest)))) (All IsMatrix)
    cases (Ok first) (Ok rest) well wells = All-cons IsMatrix first rest well wells
    cases (Ok first) (Err problem) well wells = tt
    cases (Err problem) rest well wells = tt

pub seeded_is_module : (count : ℕ) (name seed : List ℕ) (files : Files) →
    IfOk (seeded_module count name seed files) (λ (seeded : ModuleValue × MatrixValue). IsReadModule seeded.0 × IsMatrix seeded.1)
unfolding seeded_module
seeded_is_module count name seed files =
    cases (matrices_in files (numbered_names name count)) (matrix_in files seed) (matrices_are_matrices files (numbered_names name count)) (matrix_in_is_matrix files seed)
  where
    module_then : (made : Result ModuleValue Problem) (vectors : MatrixValue) → IfOk made IsReadModule → IsMatrix vectors →
        IfOk (and_then made (λ m. Ok (m, vectors))) (λ (seeded : ModuleValue × MatrixValue). IsReadModule seeded.0 × IsMatrix seeded.1)
    module_then (Ok m) vectors is well = (is, well)
    module_then (Err problem) vectors is well = tt

    cases : (matrices : Result (List MatrixValue) Problem) (vectors : Result MatrixValue Problem) → IfOk matrices (All IsMatrix) → IfOk vectors IsMatrix →
        IfOk (and_then matrices (λ matrices. and_then vectors (λ vectors. and_then (checked_module matrices) (λ m. Ok (m, vectors))))) (λ (seeded : ModuleValue × MatrixValue). IsReadModule seeded.0 × IsMatrix seeded.1)
    cases (Ok matrices) (Ok vectors) wells well = module_then (checked_module matrices) vectors (made_is_module matrices wells) well
    cases (Ok matrices) (Err problem) wells well = tt
    cases (Err problem) vectors wells well = tt

-- ---- how many generators are read

-- as many matrices are read as there are names
many_are_read : (files : Files) (names : List (List ℕ)) → IfOk (matrices_in files names) (λ matrices. length matrices ≡ length names)
many_are_read files [] = refl
many_are_read files (name ∷ names) = cases (matrix_in files name) (matrices_in files names) (many_are_read files names)
  where
    cases : (first : Result MatrixValue Problem) (rest : Result (List MatrixValue) Problem) →
        IfOk rest (λ matrices. length matrices ≡ length names) →
        IfOk (and_then first (λ first. and_then rest (λ rest. Ok (first ∷ rest)))) (λ matrices. length matrices ≡ length (name ∷ names))
    cases (Ok first) (Ok rest) many = omega (arith, many)
    cases (Ok first) (Err problem) many = tt
    cases (Err problem) rest many = tt

-- a module has as many generators as there are matrices
many_are_made : (matrices : List MatrixValue) → IfOk (checked_module matrices) (λ m. length m.generators ≡ length matrices)
unfolding checked_module
many_are_made [] = tt
many_are_made (first ∷ rest) = cases (generators_refusal first.order first.cols (first ∷ rest))
  where
    cases : (refusal : Option Refusal) →
        IfOk (or_refuses (unless_refused refusal (record { order = first.order; dim = first.cols; generators = rows_of_each (first ∷ rest) })))
        (λ (m : ModuleValue). length m.generators ≡ length (first ∷ rest))
    cases None = length-map (first ∷ rest) (λ (m : MatrixValue). m.rows)
    cases (Some refusal) = tt

-- matrices that may be the generators of a module: there are some, and not too many
pub record AreRead (matrices : List MatrixValue) : Type 0 where
  pub well : All IsMatrix matrices
  pub some : 1 ≤ length matrices
  pub few : length matrices ≤ most_generators

-- where a module has a file for each generator, it has so many generators
abbrev pub HasAsMany : ModuleFiles → ℕ → Type 0
HasAsMany (Separate count) number = number ≡ count
HasAsMany Whole number = ⊤

generators_are_matrices : (order : Order) (dim : ℕ) (matrices : List MatrixValue) → All (IsGenerator order dim) matrices → All IsMatrix matrices
generators_are_matrices order dim [] each = All-nil IsMatrix
generators_are_matrices order dim (first ∷ rest) each =
    All-cons IsMatrix first rest (All-head (IsGenerator order dim) first rest each).well_formed
    (generators_are_matrices order dim rest (All-tail (IsGenerator order dim) first rest each))

-- what is read of a module's files
pub generators_are_read : (stored : ModuleFiles) (name : List ℕ) (files : Files) → HasFileCount stored →
    IfOk (generators_in stored name files) (λ matrices. AreRead matrices × HasAsMany stored (length matrices))
generators_are_read (Separate count) name files counted =
    cases (matrices_in files names) (matrices_are_matrices files names) (many_are_read files names)
  where
    names : List (List ℕ)
    names = numbered_names name count

    cases : (matrices : Result (List MatrixValue) Problem) → IfOk matrices (All IsMatrix) → IfOk matrices (λ read. length read ≡ length names) →
        IfOk matrices (λ matrices. AreRead matrices × (length matrices ≡ count))
    cases (Ok matrices) wells many =
        let so_many : length matrices ≡ count = many ∙ length-map-range_with_len (numbered name) 1 count in
        (record { well = wells; some = omega (arith, so_many, counted.some); few = omega (arith, so_many, counted.fits) }, so_many)
    cases (Err problem) wells many = tt
generators_are_read Whole name files counted =
    cases (packed_generators_in files (module_file name)) (packed_generators_are_generators files (module_file name))
  where
    cases : (matrices : Result (List MatrixValue) Problem) → IfOk matrices AreGenerators → IfOk matrices (λ matrices. AreRead matrices × ⊤)
    cases (Ok matrices) are =
        (record { well = generators_are_matrices (first_order matrices) (first_columns matrices) matrices are.each; some = are.some; few = are.few }, tt)
    cases (Err problem) are = tt

-- a module that is made of them
made_of_read : (stored : ModuleFiles) (matrices : List MatrixValue) → AreRead matrices × HasAsMany stored (length matrices) →
    IfOk (checked_module matrices) (λ m. IsModule m × HasAsMany stored (length m.generators))
made_of_read stored matrices (are, so_many) = cases (checked_module matrices) (made_is_module matrices are.well) (many_are_made matrices)
  where
    cases : (made : Result ModuleValue Problem) → IfOk made IsReadModule → IfOk made (λ m. length m.generators ≡ length matrices) →
        IfOk made (λ m. IsModule m × HasAsMany stored (length m.generators))
    cases (Ok m) is generators = (
      record {
        over = is.over;
        dim_fits = is.dim_fits;
        some_generator = omega (arith, are.some, generators);
        generators_fit = omega (arith, are.few, generators);
      },
      subst (HasAsMany stored) (sym generators) so_many,
    )
    cases (Err problem) is generators = tt

read_is_module : (stored : ModuleFiles) (name : List ℕ) (files : Files) → HasFileCount stored →
    IfOk (module_in stored name files) (λ m. IsModule m × HasAsMany stored (length m.generators))
unfolding module_in
read_is_module stored name files counted = cases (generators_in stored name files) (generators_are_read stored name files counted)
  where
    cases : (matrices : Result (List MatrixValue) Problem) → IfOk matrices (λ matrices. AreRead matrices × HasAsMany stored (length matrices)) →
        IfOk (and_then matrices checked_module) (λ m. IsModule m × HasAsMany stored (length m.generators))
    cases (Ok matrices) are = made_of_read stored matrices are
    cases (Err problem) are = tt

-- a module has as many generators as files are read
pub generators_are_counted : (stored : ModuleFiles) (name : List ℕ) (files : Files) (m : ModuleValue) → HasFileCount stored →
    module_in stored name files ≡ Ok m → HasAsMany stored (length m.generators)
generators_are_counted stored name files m counted e =
    (subst (λ answer. IfOk answer (λ m. IsModule m × HasAsMany stored (length m.generators))) e (read_is_module stored name files counted)).1

-- and is one
pub module_is_module : (stored : ModuleFiles) (name : List ℕ) (files : Files) (m : ModuleValue) → HasFileCount stored → module_in stored name files ≡ Ok m →
    IsModule m
module_is_module stored name files m counted e =
    (subst (λ answer. IfOk answer (λ m. IsModule m × HasAsMany stored (length m.generators))) e (read_is_module stored name files counted)).0

pub module_if_read : (stored : ModuleFiles) (name : List ℕ) (files : Files) → HasFileCount stored → (before : Result ModuleValue Problem) →
    Is (module_in stored name files) before → IfOk before IsModule
module_if_read stored name files counted (Ok m) e = module_is_module stored name files m counted e
module_if_read stored name files counted (Err problem) e = tt
