-- Bases that are made as the standard matrices of a form tell: row by row, from a first row.
use Rattle.std.specs.Prelude.{◌≡◌, ◌≢◌, ℕ, ◌<◌, ◌≤◌, ◌⊎◌, Bool, true, false, List, [], ◌∷◌, ◌++◌, length, get_or}
use Rattle.axe_algebra.specs.Field.{Field}
use Rattle.axe_algebra.specs.Vectors.{Matrix, times, unit_vector}
use Rattle.axe_algebra.specs.Modules.{Module, image}
use Rattle.axe_algebra.specs.Actions.{IsSubAction}
use Rattle.axe_algebra.specs.Standard.{Precedes, AreStandardMatrices}
use Rattle.axe_algebra.specs.Bridge.{matrix_of, module_of}
use Rattle.axe_algebra.specs.ListArithmetic.{combination}
use Rattle.axe_field.specs.NumberFields.{number_field, gf}
use Rattle.axe_lane.specs.Entries.{AreZerosFrom}
use Rattle.axe_row.specs.Rows.{RowValue}
use Rattle.axe_matrix.specs.Matrices.{MatrixValue, IsMatrix}
use Rattle.axe_spin.specs.Modules.{ModuleValue, IsModule}
use Rattle.axe_spin.specs.Spinning.{IsStandardMatrix}
use Rattle.axe_iso.specs.Matches.{HasStandardMatrices}

-- ---- one image

-- the image became the next row, since its coefficients go past the rows
pub record IsNextRow (coefficients image : List ℕ) (old new : MatrixValue) : Type 0 where
  pub index : ℕ
  pub within : index < length coefficients
  pub past : length old.rows ≤ index
  pub nonzero : get_or coefficients index 0 ≢ 0
  pub appended : new ≡ record old { rows = old.rows ++ image ∷ [] }

-- its coefficients don't go past the rows, and it is their combination with these; the rows stay
pub record IsKnownImage (coefficients image : List ℕ) (old new : MatrixValue) : Type 0 where
  pub within : AreZerosFrom coefficients (length old.rows)
  pub combines : image ≡ combination (number_field old.order) old.cols coefficients old.rows
  pub kept : new ≡ old

-- its coefficients don't go past the rows, and it is another vector than their combination with these
pub record IsOtherImage (coefficients image : List ℕ) (old : MatrixValue) : Type 0 where
  pub within : AreZerosFrom coefficients (length old.rows)
  pub differs : image ≢ combination (number_field old.order) old.cols coefficients old.rows

-- the answer tells whether an image is as its coefficients tell
abbrev pub FollowsImage : List ℕ → List ℕ → MatrixValue → MatrixValue → Bool → Type 0
FollowsImage coefficients image old new true =
    IsNextRow coefficients image old new ⊎ IsKnownImage coefficients image old new
FollowsImage coefficients image old new false = IsOtherImage coefficients image old

-- ---- rows so far

-- the rows of c begin with the first k rows of b
abbrev pub BeginsWith : (F : Field) → ℕ → Matrix F → Matrix F → Type 0
BeginsWith F k b c = (t : ℕ) → t < k → c t ≡ b t

-- whatever rows come after the first k rows of b: the image of row s under generator j of M is the combination of all
-- rows with row s of generator j of A as coefficients
abbrev pub IsAsTold : (F : Field) → Module F → Module F → ℕ → Matrix F → ℕ → ℕ → Type 0
IsAsTold F M A k b s j =
    (c : Matrix F) → BeginsWith F k b c → image F M (c s) j ≡ times F A.dimension (A.generator j s) c

-- A's generators are the standard matrices of its first unit vector (Parker 1984)
abbrev pub AreOfUnitVector : (F : Field) → Module F → Type 0
AreOfUnitVector F A = AreStandardMatrices F A (unit_vector F 0) A

-- where A's generators are these, each row of the standard basis from row k on is the image of a pair (row, generator)
-- that doesn't come before (r, i)
abbrev pub AreStillToCome : (F : Field) → Module F → ℕ → ℕ → ℕ → Type 0
AreStillToCome F A k r i = (own : AreOfUnitVector F A) (t : ℕ) → k ≤ t → t < A.dimension →
    ¬ (Precedes (own.standard.rows t) (own.standard.generators t) r i)

-- the first k rows of b, when the images of the pairs (row, generator) before (r, i) were taken: these images are as
-- A's generators tell, and all rows that begin with row 0, and on which A's generators are the action, begin with the k
-- rows
pub record AreFollowedUpTo (F : Field) (M A : Module F) (k : ℕ) (b : Matrix F) (r i : ℕ) : Type 0 where
  pub some : 0 < k
  pub no_more : k ≤ A.dimension
  pub to_come : AreStillToCome F A k r i
  pub told : (s j : ℕ) → Precedes s j r i → j < M.count → IsAsTold F M A k b s j
  pub only : (c : Matrix F) → c 0 ≡ b 0 → IsSubAction F M A.dimension c A → BeginsWith F k b c

-- ---- the same of lists

-- the matrices are over the module's field, of its dimension and as many as its generators, and the standard matrices
-- of their own first unit vector, as a form's are
pub record AreFormMatrices (m matrices : ModuleValue) : Type 0 where
  pub well_formed : IsModule matrices
  pub field : matrices.order ≡ m.order
  pub dimension : matrices.dim ≡ m.dim
  pub count : length matrices.generators ≡ length m.generators
  pub own : AreOfUnitVector (gf matrices.order)
      (module_of (number_field matrices.order) matrices.dim matrices.generators)

-- the rows of a basis that begins with v, when the images of the pairs before (r, i) were taken
pub record IsFollowedBasis (m matrices : ModuleValue) (v : List ℕ) (basis : MatrixValue) (r i : ℕ) : Type 0 where
  pub field : basis.order ≡ m.order
  pub columns : basis.cols ≡ m.dim
  pub well_formed : IsMatrix basis
  pub first : get_or basis.rows 0 [] ≡ v
  pub followed : AreFollowedUpTo (gf m.order) (module_of (number_field m.order) m.dim m.generators)
      (module_of (number_field m.order) matrices.dim matrices.generators) (length basis.rows)
      (matrix_of (number_field m.order) basis.rows) r i

-- the answer tells whether the matrices can still be the standard matrices of v when the images of row r were taken:
-- then the rows are followed up to the next row, and else they are not
abbrev pub FollowsRow : ModuleValue → ModuleValue → List ℕ → MatrixValue → ℕ → Bool → Type 0
FollowsRow m matrices v new r true = IsFollowedBasis m matrices v new r 0
FollowsRow m matrices v new r false = ¬ (HasStandardMatrices m v matrices)

-- the matrices are the standard matrices of v, and `basis` is its standard basis
pub record IsBasisWithMatrices (m : ModuleValue) (v : RowValue) (matrices : ModuleValue) (basis : MatrixValue) :
    Type 0 where
  pub standard : IsStandardMatrix m v basis
  pub matches : HasStandardMatrices m v.entries matrices
  pub well_formed : IsMatrix basis
