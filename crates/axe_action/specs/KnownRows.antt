-- The rows of a conjugate by a standard basis: where the image of a row of the basis is known to be a row of it, a unit
-- vector, and else a row of a product.
use Rattle.std.specs.Prelude.{◌≡◌, ℕ, ◌+◌, ◌<◌, ◌≤◌, List, [], length, get_or, map, Option, Some, None, All}
use Rattle.axe_algebra.specs.Lists.{unit_row}
use Rattle.axe_algebra.specs.ListArithmetic.{combination}
use Rattle.axe_field.specs.NumberFields.{number_field}
use Rattle.axe_matrix.specs.Matrices.{MatrixValue}
use Rattle.axe_spin.specs.declared.spinning.Origin.{Origin}
use Rattle.axe_action.specs.declared.known_rows.KnownRow.{KnownRow}
use Rattle.axe_action.specs.declared.known_rows.KnownRow.TheVariants.{UnitVector, ProductRow}

-- row t of the basis times the matrix g is row k of the basis
abbrev pub IsImageAmong : MatrixValue → MatrixValue → ℕ → ℕ → Type 0
IsImageAmong basis g t k =
    combination (number_field basis.order) g.cols (get_or basis.rows t []) g.rows ≡ get_or basis.rows k []

-- the origins tell of images under the matrix g, the generator with this number: row k + 1 of the basis is the image of
-- the source of origin k
pub record TellImages (basis g : MatrixValue) (origins : List Origin) (number : ℕ) : Type 0 where
  pub count : length origins < length basis.rows
  pub within : All (λ origin. origin.source < length basis.rows) origins
  pub each : (k : ℕ) (other : Origin) → k < length origins → (get_or origins k other).generator ≡ number →
      IsImageAmong basis g (get_or origins k other).source (k + 1)

-- row k has an origin, which names row t and this generator
pub record HasOrigin (origins : List Origin) (generator t k : ℕ) : Type 0 where
  pub place : ℕ
  pub below : place < length origins
  pub next : k ≡ place + 1
  pub source : (other : Origin) → (get_or origins place other).source ≡ t
  pub number : (other : Origin) → (get_or origins place other).generator ≡ generator

-- for each of so many rows k, only where row k has an origin that names it and this generator
pub record AreKnownImages (origins : List Origin) (generator count : ℕ) (images : List (Option ℕ)) : Type 0 where
  pub as_many : length images ≡ count
  pub each : (t k : ℕ) → t < count → get_or images t None ≡ Some k → HasOrigin origins generator t k

-- row t is the unit vector of its known image, or that row of the products of which the other rows say that it is
abbrev pub IsSortedAt : List (Option ℕ) → List ℕ → ℕ → KnownRow → Type 0
IsSortedAt images others t (UnitVector k) = get_or images t None ≡ Some k
IsSortedAt images others t (ProductRow i) = (i < length others) × (get_or others i 0 ≡ t)

-- so many rows are sorted
pub record AreSorted (images : List (Option ℕ)) (count : ℕ) (others : List ℕ) (rows : List KnownRow) : Type 0 where
  pub within : All (λ other. other < count) others
  pub few : length others ≤ count
  pub as_many : length rows ≡ count
  pub each : (t : ℕ) (other : KnownRow) → t < count → IsSortedAt images others t (get_or rows t other)

-- there is such a row: the column of the unit vector, or the row of the products
abbrev pub IsRowIn : MatrixValue → KnownRow → Type 0
IsRowIn products (UnitVector k) = k < products.cols
IsRowIn products (ProductRow i) = i < length products.rows

-- that row
abbrev pub row_in : MatrixValue → KnownRow → List ℕ
row_in products (UnitVector k) = unit_row products.cols k
row_in products (ProductRow i) = get_or products.rows i []

-- the matrix of these rows
abbrev pub rows_in : MatrixValue → List KnownRow → MatrixValue
rows_in products rows = record { order = products.order; cols = products.cols; rows = map (row_in products) rows }
