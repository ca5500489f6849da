-- What a composition series of a module is, and what is true of a section that stays undecided (Parker 1984; Holt and
-- Rees 1994).
use Rattle.std.specs.Prelude.{◌≡◌, ◌↔◌, ℕ, zero, suc, ◌<◌, ◌≤◌, List, [], ◌∷◌, length, map, get_or, slice_get, Some}
use Rattle.std.specs.Prelude.{not, ◌==◌}
use Rattle.std.specs.List.{All, filter}
use Rattle.axe_algebra.specs.Blocks.{AreBlockSizes, block_size}
use Rattle.axe_algebra.specs.BlocksOfLists.{IsBlockLowerTriangular, IsDiagonalBlock}
use Rattle.axe_algebra.specs.ModulesOfLists.{AreIsomorphic}
use Rattle.axe_field.specs.NumberFields.{number_field}
use Rattle.axe_matrix.specs.Matrices.{MatrixValue, IsMatrix}
use Rattle.axe_reduction.specs.Solutions.{IsInvertibleMatrix}
use Rattle.axe_spin.specs.Modules.{ModuleValue, IsModule}
use Rattle.axe_action.specs.Actions.{IsConjugateModule}
use Rattle.axe_norton.specs.Spaces.{IsIrreducibleModule}
use Rattle.axe_norton.specs.Verdicts.{LeavesOpen, word_of_seed}
use Rattle.axe_iso.specs.Forms.{FormValue}
use Rattle.axe_series.specs.Runs.{Outcome, complete, open_section}

-- the basis is invertible and square, and conjugated by it the generators of m are those of `conjugates`, block lower
-- triangular for these sizes
pub record IsTriangularBy (m : ModuleValue) (basis : MatrixValue) (sizes : List ℕ)
    (conjugates : ModuleValue) : Type 0 where
  pub field : basis.order ≡ m.order
  pub columns : basis.cols ≡ m.dim
  pub rows : length basis.rows ≡ m.dim
  pub well_formed : IsMatrix basis
  pub invertible : IsInvertibleMatrix basis
  pub conjugate : IsConjugateModule m basis conjugates
  pub sizes_are : AreBlockSizes m.dim sizes
  pub triangular : All (IsBlockLowerTriangular (number_field m.order) sizes) conjugates.generators

-- the generators of `block` are the diagonal blocks of this number of the conjugates
pub record IsBlockOf (conjugates : ModuleValue) (sizes : List ℕ) (number : ℕ) (block : ModuleValue) : Type 0 where
  pub well_formed : IsModule block
  pub field : block.order ≡ conjugates.order
  pub dimension : block.dim ≡ block_size sizes number
  pub count : length block.generators ≡ length conjugates.generators
  pub each : (i : ℕ) → i < length conjugates.generators →
      IsDiagonalBlock (number_field conjugates.order) sizes number (get_or conjugates.generators i [])
      (get_or block.generators i [])

-- the module is isomorphic to the other
abbrev pub IsIsomorphicTo : ModuleValue → ModuleValue → Type 0
IsIsomorphicTo m n = AreIsomorphic (number_field m.order) m.dim m.generators n.dim n.generators

-- ---- a series

-- the sizes of the blocks: for each place the dimension of its factor
abbrev pub sizes_of_places : List ModuleValue → List ℕ → List ℕ
sizes_of_places factors places =
    map (λ number. get_or (map (λ (factor : ModuleValue). factor.dim) factors) number 0) places

-- place number a is one of factor `number`
abbrev pub IsPlaceOf : List ℕ → ℕ → ℕ → Type 0
IsPlaceOf places a number = slice_get places a ≡ Some number

-- the factors are numbered by the order in which they first appear among the places: each appears, and before each
-- place all factors with smaller numbers than its own have appeared
pub record AreInOrderOfAppearance (count : ℕ) (places : List ℕ) : Type 0 where
  pub within : All (λ number. number < count) places
  pub appear : (number : ℕ) → number < count → (a : ℕ) × IsPlaceOf places a number
  pub ascend : (b number smaller : ℕ) → IsPlaceOf places b number → smaller < number →
      (a : ℕ) × (a < b) × IsPlaceOf places a smaller

-- a composition series, by a basis, the factors and for each place from the bottom the number of its factor: conjugated
-- by the basis the generators are block lower triangular with the factors, by their places, on the diagonal; every
-- factor is irreducible; two places have one number exactly when their diagonal blocks are isomorphic; and the factors
-- are numbered in order of first appearance
pub record IsSeries (m : ModuleValue) (basis : MatrixValue) (factors : List ModuleValue)
    (places : List ℕ) : Type 0 where
  pub conjugates : ModuleValue
  pub triangular : IsTriangularBy m basis (sizes_of_places factors places) conjugates
  pub diagonal : (a number : ℕ) (factor : ModuleValue) → IsPlaceOf places a number →
      slice_get factors number ≡ Some factor →
      IsBlockOf conjugates (sizes_of_places factors places) a factor
  pub irreducible : All IsIrreducibleModule factors
  pub one_number : (a b i j : ℕ) (block other : ModuleValue) → IsPlaceOf places a i → IsPlaceOf places b j →
      IsBlockOf conjugates (sizes_of_places factors places) a block →
      IsBlockOf conjugates (sizes_of_places factors places) b other →
      (i ≡ j) ↔ IsIsomorphicTo block other
  pub order : AreInOrderOfAppearance (length factors) places

-- ---- an open section

-- the sizes of the blocks before the section, of it, and after it, empty ones left out
abbrev pub open_sizes : ℕ → ℕ → ℕ → List ℕ
open_sizes before dim after = filter (λ size. not (size == 0)) (before ∷ dim ∷ after ∷ [])

-- the number of the section's block
abbrev pub open_place : ℕ → ℕ
open_place zero = 0
open_place (suc before) = 1

-- conjugated by the basis the generators are block lower triangular for the `offset` rows before the section, its `dim`
-- rows, one at least, and those after it; and each of the words 0 to `words` of the seed leaves its diagonal block open
pub record IsOpenSection (m : ModuleValue) (seed words : ℕ) (basis : MatrixValue) (offset dim : ℕ) : Type 0 where
  pub some : 0 < dim
  pub after : ℕ
  pub conjugates : ModuleValue
  pub triangular : IsTriangularBy m basis (open_sizes offset dim after) conjugates
  pub block : ModuleValue
  pub is_block : IsBlockOf conjugates (open_sizes offset dim after) (open_place offset) block
  pub left_open : (i : ℕ) → i ≤ words → LeavesOpen block (word_of_seed block seed i)

-- ---- what is true of an outcome

-- the rows as a matrix of the module's vectors
abbrev pub basis_of_rows : ModuleValue → List (List ℕ) → MatrixValue
basis_of_rows m rows = record { order = m.order; cols = m.dim; rows = rows }

-- the standard matrices of the forms: the factors
abbrev pub factors_of_forms : List FormValue → List ModuleValue
factors_of_forms forms = map (λ (form : FormValue). form.matrices) forms

-- what is true of the outcome: what is found is a composition series, or the section is open
abbrev pub IsTrueOutcome : ModuleValue → ℕ → ℕ → Outcome → Type 0
IsTrueOutcome m seed words (complete found) =
    IsSeries m (basis_of_rows m found.rows) (factors_of_forms found.forms) found.places
IsTrueOutcome m seed words (open_section rows offset dim) = IsOpenSection m seed words (basis_of_rows m rows) offset dim
