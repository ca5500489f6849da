-- What spinning rows in a module gives: the space that they generate, and standard bases.
use Rattle.std.specs.Prelude.{◌≡◌, ℕ, ◌<◌, Bool, true, false, Option, Some, None, if◌then◌else◌}
use Rattle.std.specs.Prelude.{List, [], length, slice_index_or}
use Rattle.axe_algebra.specs.SpansOfLists.{IsIndependent}
use Rattle.axe_algebra.specs.ModulesOfLists.{Generates, IsGeneratedBasis, IsStandardBasis}
use Rattle.axe_field.specs.NumberFields.{number_field}
use Rattle.axe_row.specs.Rows.{RowValue}
use Rattle.axe_row.specs.declared.refusals.Refusal.{Refusal}
use Rattle.axe_row.specs.declared.refusals.Refusal.TheVariants.{ZeroSeed}
use Rattle.axe_row.specs.Refusals.{first_of}
use Rattle.axe_row.specs.Operations.{IsZeroVector}
use Rattle.axe_matrix.specs.Matrices.{MatrixValue, row_of, has_only_zeros}
use Rattle.axe_echelon.specs.Echelons.{EchelonValue, IsEchelon}
use Rattle.axe_spin.specs.Modules.{ModuleValue, rows_refusal, IsInvariantIn}

-- why the rows of a matrix are no seed in a module: they are over another field, or else of another length than the
-- dimension, or else none of them is other than zero
abbrev pub seed_refusal : ModuleValue → MatrixValue → Option Refusal
seed_refusal m seed =
    first_of (rows_refusal m seed) (if has_only_zeros seed.rows then Some ZeroSeed else None)

-- the subspace is the space that the rows generate in the module: the span of these rows times all products of
-- generators (Parker 1984)
pub record IsGeneratedSpace (m : ModuleValue) (rows : List (List ℕ)) (space : EchelonValue) : Type 0 where
  pub field : space.order ≡ m.order
  pub columns : space.cols ≡ m.dim
  pub generated : Generates (number_field m.order) m.dim m.generators rows space.rows
  pub well_formed : IsEchelon space

-- the matrix has as its rows the reduced basis of the space that the seed's rows generate in the module: of the span of
-- these rows times all products of generators (Parker 1984)
pub record IsGeneratedMatrix (m : ModuleValue) (seed basis : MatrixValue) : Type 0 where
  pub field : basis.order ≡ m.order
  pub columns : basis.cols ≡ m.dim
  pub basis_of_generated : IsGeneratedBasis (number_field m.order) m.dim m.generators seed.rows basis.rows

-- the matrix has as its rows the standard basis of the vector v in the module (Parker 1984)
pub record IsStandardMatrix (m : ModuleValue) (v : RowValue) (basis : MatrixValue) : Type 0 where
  pub field : basis.order ≡ m.order
  pub columns : basis.cols ≡ m.dim
  pub standard : IsStandardBasis (number_field m.order) m.dim m.generators v.entries basis.rows

-- row i of a matrix is its first row that is not zero
pub record IsFirstNonzeroRow (m : MatrixValue) (i : ℕ) : Type 0 where
  pub below : i < length m.rows
  pub nonzero : ¬ (IsZeroVector (slice_index_or m.rows i []))
  pub zeros_before : (j : ℕ) → j < i → IsZeroVector (slice_index_or m.rows j [])

-- the row is the first row of the matrix that is not zero
abbrev pub HasFirstNonzeroRow : MatrixValue → RowValue → Type 0
HasFirstNonzeroRow m row = (i : ℕ) × IsFirstNonzeroRow m i × (row ≡ row_of m i)

-- the matrix has as its rows what spinning a seed in a module gives: the reduced basis of the space that the seed's
-- rows generate, or where `standard` says so, the standard basis of the seed's first row that is not zero (Parker 1984)
abbrev pub HasSpunRows : Bool → ModuleValue → MatrixValue → MatrixValue → Type 0
HasSpunRows false m seed rows = IsGeneratedMatrix m seed rows
HasSpunRows true m seed rows = (i : ℕ) × IsFirstNonzeroRow seed i × IsStandardMatrix m (row_of seed i) rows

-- the rows are a basis of a submodule: they are over the module's field and as long as its vectors, and independent,
-- and their span is invariant and not zero
pub record IsSubmoduleBasis (m : ModuleValue) (rows : MatrixValue) : Type 0 where
  pub field : rows.order ≡ m.order
  pub columns : rows.cols ≡ m.dim
  pub independent : IsIndependent (number_field rows.order) rows.rows
  pub invariant : IsInvariantIn m rows
  pub nonzero : has_only_zeros rows.rows ≡ false
