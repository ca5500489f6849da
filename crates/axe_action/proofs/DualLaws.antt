-- The transposed module by its generators, and annihilators as spaces that are orthogonal to rows.
use Rattle.std.specs.Prelude.{◌≡◌, ℕ, List, [], length, get_or, None, Result, Ok, Err, IfOk}
use Rattle.std.proofs.lemmas.List.{length-map, get_or-map}
use Rattle.axe_algebra.specs.ListArithmetic.{transpose, transposed_generators}
use Rattle.axe_algebra.specs.SpansOfLists.{IsAnnihilatorBasis}
use Rattle.axe_algebra.proofs.ListIrreducible.{transpose_length}
use Rattle.axe_field.specs.NumberFields.{number_field}
use Rattle.axe_row.specs.Refusals.{Answers}
use Rattle.axe_row.specs.declared.refusals.Refusal.{Refusal}
use Rattle.axe_matrix.specs.Matrices.{MatrixValue, IsMatrix, transposed_matrix, transpose_refusal}
use Rattle.axe_matrix.proofs.TransposeLaws.{transpose_refusal-none}
use Rattle.axe_echelon.specs.Echelons.{IsNullSpaceMatrix}
use Rattle.axe_spin.specs.Modules.{ModuleValue, IsModule, generator_of, rows_of_each}
use Rattle.axe_spin.specs.Generators.{IsGeneratorMatrix}
use Rattle.axe_action.specs.Actions.{dual_module, IsAnnihilatorMatrix}
use Rattle.axe_action.proofs.GeneratorLists.{AreNewGenerators, generators_are}
use mathlib.Core.Path.{sym, ◌∙◌, ap}
use native.Mathlib.Omega.{arith}

-- the transpose of a generator is a generator
pub transposed_generator : (m : ModuleValue) (i : ℕ) (t : MatrixValue) → length (generator_of m i).rows ≡ m.dim → t ≡ transposed_matrix (generator_of m i) →
    IsMatrix t → IsGeneratorMatrix m.order m.dim t
transposed_generator m i t square is well_formed = record {
  field = ap (λ (x : MatrixValue). x.order) is;
  columns = ap (λ (x : MatrixValue). x.cols) is ∙ square;
  rows = ap (λ (x : MatrixValue). length x.rows) is ∙ transpose_length m.dim (get_or m.generators i []);
  well_formed = well_formed;
}

-- a generator has a transpose
pub transposed_if_accepted : (m : ModuleValue) (i : ℕ) (t : MatrixValue) → IsModule m → length (generator_of m i).rows ≡ m.dim →
    Answers (transpose_refusal (generator_of m i)) (λ x. x ≡ transposed_matrix (generator_of m i)) (Ok t) → t ≡ transposed_matrix (generator_of m i)
transposed_if_accepted m i t h square answer = rw (transpose_refusal-none (generator_of m i) (λ none. omega (arith, none, square, h.over.positive))) at answer

-- the transposes of all generators make the transposed module
pub dual_is : (m : ModuleValue) (count : ℕ) (matrices : List MatrixValue) (result : Result ModuleValue Refusal) → count ≡ length m.generators →
    AreNewGenerators m.order m.dim (λ i rows. rows ≡ transpose m.dim (get_or m.generators i [])) count matrices →
    result ≡ Ok (record { order = m.order; dim = m.dim; generators = rows_of_each matrices }) → result ≡ Ok (dual_module m)
dual_is m count matrices result all are is =
    is ∙ (λ k. Ok (record {
      order = m.order;
      dim = m.dim;
      generators = generators_are m.order m.dim (λ i. transpose m.dim (get_or m.generators i [])) count matrices (transposed_generators m.dim m.generators) are
          (length-map m.generators (transpose m.dim) ∙ sym all)
          (λ i below. get_or-map (transpose m.dim) m.generators i [] [] (omega arith)) k;
    }))

-- what the space that is orthogonal to rows is, is their annihilator
pub annihilator_of_orthogonal : (rows : MatrixValue) (result : Result MatrixValue Refusal) →
    Answers None (IsNullSpaceMatrix (transposed_matrix rows)) result →
    IfOk result (λ basis. IsAnnihilatorBasis (number_field rows.order) rows.cols rows.rows basis.rows) → Answers None (IsAnnihilatorMatrix rows) result
annihilator_of_orthogonal rows (Ok basis) null orthogonal = record {
  field = null.field;
  columns = null.columns ∙ transpose_length rows.cols rows.rows;
  basis_of_annihilator = orthogonal;
}
annihilator_of_orthogonal rows (Err refusal) null orthogonal = null
