-- Rows that are being spun: the first ones, then images of earlier ones under generators.
use Rattle.std.specs.Prelude.{◌≡◌, ℕ, ◌<◌, ◌≤◌, ◌⊎◌, List, [], ◌∷◌, ◌++◌, length, take, get_or}
use Rattle.axe_algebra.specs.Lists.{IsMatrixOver}
use Rattle.axe_algebra.specs.ListArithmetic.{combination}
use Rattle.axe_algebra.specs.SpansOfLists.{IsIndependent, IsSpanned, HaveSameSpan}
use Rattle.axe_algebra.specs.Standard.{Precedes}
use Rattle.axe_field.specs.NumberFields.{number_field}
use Rattle.axe_matrix.specs.Matrices.{MatrixValue}
use Rattle.axe_echelon.specs.Echelons.{EchelonValue}
use Rattle.axe_echelon.specs.Subspaces.{BeginWith}
use Rattle.axe_spin.specs.Modules.{ModuleValue}

-- the subspace is the span of the matrix's rows, and these are independent
pub record IsSpanOf (span : EchelonValue) (rows : MatrixValue) : Type 0 where
  pub field : span.order ≡ rows.order
  pub columns : span.cols ≡ rows.cols
  pub independent : IsIndependent (number_field rows.order) rows.rows
  pub same : HaveSameSpan (number_field rows.order) rows.rows span.rows

-- one more row of a matrix
abbrev pub with_row : MatrixValue → List ℕ → MatrixValue
with_row m row = record m { rows = m.rows ++ row ∷ [] }

-- a row was offered to a matrix: it is appended where it is not in the span, and else nothing changes
abbrev pub IsOffered : MatrixValue → List ℕ → MatrixValue → Type 0
IsOffered old row new =
    (IsSpanned (number_field old.order) old.rows row × (new ≡ old))
    ⊎ ((¬ (IsSpanned (number_field old.order) old.rows row)) × (new ≡ with_row old row))

-- the image of row r under generator i
abbrev pub image_of_row : ModuleValue → List (List ℕ) → ℕ → ℕ → List ℕ
image_of_row m rows r i = combination (number_field m.order) m.dim (get_or rows r []) (get_or m.generators i [])

-- the image of row r under generator i is in the span of the first rows up to some size; of these, the rows from
-- `start` on have pairs that don't come after (r, i)
pub record IsReached (m : ModuleValue) (start : ℕ) (rows : List (List ℕ)) (sources numbers : ℕ → ℕ) (r i : ℕ) :
    Type 0 where
  pub size : ℕ
  pub within : size ≤ length rows
  pub spanned : IsSpanned (number_field m.order) (take size rows) (image_of_row m rows r i)
  pub before : (t : ℕ) → start ≤ t → t < size → ¬ (Precedes r i (sources t) (numbers t))

-- independent rows that begin with the first ones; each later row t is the image of an earlier row, number `sources
-- t`, under generator `numbers t`, these pairs in strictly ascending lexicographic order
pub record AreSpinning (m : ModuleValue) (first rows : List (List ℕ)) (sources numbers : ℕ → ℕ) : Type 0 where
  pub over : IsMatrixOver (number_field m.order) m.dim rows
  pub independent : IsIndependent (number_field m.order) rows
  pub grown : length first ≤ length rows
  pub begins : BeginWith first rows
  pub earlier : (t : ℕ) → length first ≤ t → t < length rows → sources t < t
  pub number-below : (t : ℕ) → length first ≤ t → t < length rows → numbers t < length m.generators
  pub ascending : (s t : ℕ) → length first ≤ s → s < t → t < length rows →
      Precedes (sources s) (numbers s) (sources t) (numbers t)
  pub equals : (t : ℕ) → length first ≤ t → t < length rows →
      get_or rows t [] ≡ image_of_row m rows (sources t) (numbers t)

-- such rows, when every image has been taken
pub record AreSpun (m : ModuleValue) (first rows : List (List ℕ)) : Type 0 where
  pub sources : ℕ → ℕ
  pub numbers : ℕ → ℕ
  pub spinning : AreSpinning m first rows sources numbers
  pub reached : (r i : ℕ) → r < length rows → i < length m.generators →
      IsReached m (length first) rows sources numbers r i

-- the same, of a matrix
pub record IsSpunMatrix (m : ModuleValue) (old new : MatrixValue) : Type 0 where
  pub field : new.order ≡ old.order
  pub columns : new.cols ≡ old.cols
  pub spun : AreSpun m old.rows new.rows

-- rows that are being spun, when the pairs (row, generator) before (source, number) were taken: the images of these are
-- reached, and only these gave rows
pub record IsSpinningUpTo (m : ModuleValue) (first rows : List (List ℕ)) (source number : ℕ) : Type 0 where
  pub sources : ℕ → ℕ
  pub numbers : ℕ → ℕ
  pub spinning : AreSpinning m first rows sources numbers
  pub before : (t : ℕ) → length first ≤ t → t < length rows → Precedes (sources t) (numbers t) source number
  pub reached : (r i : ℕ) → r < length rows → i < length m.generators → Precedes r i source number →
      IsReached m (length first) rows sources numbers r i

-- spinning leads from one matrix, where the pairs before (r, i) were taken, to another, where those before (s, j) were,
-- whatever the first rows were
pub record SpinsOn (m : ModuleValue) (old new : MatrixValue) (r i s j : ℕ) : Type 0 where
  pub field : new.order ≡ old.order
  pub columns : new.cols ≡ old.cols
  pub grown : length old.rows ≤ length new.rows
  pub taken : (first : List (List ℕ)) → IsSpinningUpTo m first old.rows r i → IsSpinningUpTo m first new.rows s j
