-- What Norton's test looks at: the points of the null space of a tested matrix and of its transpose's, and what these
-- generate (Parker 1984; Holt and Rees 1994).
use Rattle.std.specs.Prelude.{◌≡◌, ℕ, ◌-◌, ◌<◌, ◌≤◌, ◌⊎◌, List, [], ◌∷◌, length, get_or}
use Rattle.axe_algebra.specs.Lists.{unit_row}
use Rattle.axe_algebra.specs.SpansOfLists.{IsIndependent}
use Rattle.axe_algebra.specs.ModulesOfLists.{IsInvariant, GeneratesEverything, IsIrreducible}
use Rattle.axe_field.specs.Order.{order_number}
use Rattle.axe_field.specs.NumberFields.{number_field}
use Rattle.axe_matrix.specs.Matrices.{MatrixValue, IsMatrix, transposed_matrix}
use Rattle.axe_echelon.specs.Echelons.{IsNullSpaceMatrix}
use Rattle.axe_spin.specs.Modules.{ModuleValue}
use Rattle.axe_spin.specs.Spinning.{IsGeneratedMatrix}
use Rattle.axe_action.specs.Actions.{dual_module, IsAnnihilatorMatrix}
use Rattle.axe_word.specs.PointsOfMatrix.{points_of, point_count, most_points}

-- the module is irreducible (Holt and Rees 1994)
abbrev pub IsIrreducibleModule : ModuleValue → Type 0
IsIrreducibleModule m = IsIrreducible (number_field m.order) m.dim m.generators

-- the rows of the matrix are a basis of a submodule that is neither zero nor everything (Parker 1984)
pub record IsProperSubmodule (m : ModuleValue) (space : MatrixValue) : Type 0 where
  pub field : space.order ≡ m.order
  pub columns : space.cols ≡ m.dim
  pub independent : IsIndependent (number_field m.order) space.rows
  pub invariant : IsInvariant (number_field m.order) m.dim m.generators space.rows
  pub nonzero : 0 < length space.rows
  pub proper : length space.rows < m.dim
  pub well_formed : IsMatrix space

-- the space with this reduced basis has few points: so few that all are tried
abbrev pub HasFewPoints : MatrixValue → Type 0
HasFewPoints basis = point_count (order_number basis.order) (length basis.rows) ≤ most_points

-- point number i of the space is tried: it is the first, or there are few
pub record IsTried (basis : MatrixValue) (i : ℕ) : Type 0 where
  pub below : i < length (points_of basis)
  pub first_or_few : (i ≡ 0) ⊎ HasFewPoints basis

-- point number i of the space with this reduced basis
abbrev pub point_of : MatrixValue → ℕ → List ℕ
point_of basis i = get_or (points_of basis) i []

-- the vector generates everything in the module (Parker 1984)
abbrev pub GeneratesModule : ModuleValue → List ℕ → Type 0
GeneratesModule m v = GeneratesEverything (number_field m.order) m.dim m.generators v

-- the last unit vector generates everything in the module; it is the first point of the space of all vectors
abbrev pub LastGenerates : ModuleValue → Type 0
LastGenerates m = GeneratesModule m (unit_row m.dim (m.dim - 1))

-- the matrix with this vector as its one row
abbrev pub one_row : ModuleValue → List ℕ → MatrixValue
one_row m v = record { order = m.order; cols = m.dim; rows = v ∷ [] }

-- the vector generates a proper space, and this is its reduced basis
pub record GeneratesProper (m : ModuleValue) (v : List ℕ) (space : MatrixValue) : Type 0 where
  pub generated : IsGeneratedMatrix m (one_row m v) space
  pub well_formed : IsMatrix space
  pub proper : ¬ (GeneratesModule m v)

-- every tried point generates everything
abbrev pub TriedGenerate : ModuleValue → MatrixValue → Type 0
TriedGenerate m basis = (i : ℕ) → IsTried basis i → GeneratesModule m (point_of basis i)

-- some tried point generates a proper space, and this is what the first one such generates
pub record IsFirstProperSpace (m : ModuleValue) (basis space : MatrixValue) : Type 0 where
  pub number : ℕ
  pub tried : IsTried basis number
  pub before : (i : ℕ) → i < number → GeneratesModule m (point_of basis i)
  pub proper : GeneratesProper m (point_of basis number) space

-- the first point of the null space of the transpose of a singular matrix
pub record TransposedPoint (matrix : MatrixValue) : Type 0 where
  pub null_space : MatrixValue
  pub is_null_space : IsNullSpaceMatrix (transposed_matrix matrix) null_space
  pub well_formed : IsMatrix null_space
  pub some_point : 0 < length (points_of null_space)

-- it generates everything in the transposed module
pub record TransposeGenerates (m : ModuleValue) (matrix : MatrixValue) : Type 0 where
  pub point : TransposedPoint matrix
  pub generates : GeneratesModule (dual_module m) (point_of point.null_space 0)

-- it generates a proper space there, and this is the reduced basis of the annihilator of that space (Holt and Rees
-- 1994)
pub record IsTransposedSpace (m : ModuleValue) (matrix space : MatrixValue) : Type 0 where
  pub point : TransposedPoint matrix
  pub generated : MatrixValue
  pub proper : GeneratesProper (dual_module m) (point_of point.null_space 0) generated
  pub annihilator : IsAnnihilatorMatrix generated space
  pub well_formed : IsMatrix space
