-- Where homomorphisms of a form's matrices into a module take their first unit vector.
use Rattle.std.specs.Prelude.{◌≡◌, ◌≢◌, ℕ, ◌<◌, ◌≤◌, ◌⊎◌, List, [], ◌∷◌, ◌++◌, All, length, get_or}
use Rattle.axe_algebra.specs.NumberField.{NumberField}
use Rattle.axe_algebra.specs.Field.{Field}
use Rattle.axe_algebra.specs.Vectors.{Vector, Matrix, HasLength, subtract, times}
use Rattle.axe_algebra.specs.Spans.{InSpan}
use Rattle.axe_algebra.specs.Actions.{IsSubAction}
use Rattle.axe_algebra.specs.Bridge.{field_of, vector_of, matrix_of, module_of}
use Rattle.axe_field.specs.Order.{Order}
use Rattle.axe_field.specs.NumberFields.{number_field, gf}
use Rattle.axe_lane.specs.Entries.{AreZerosFrom}
use Rattle.axe_matrix.specs.Matrices.{MatrixValue, IsMatrix, matrix_product}
use Rattle.axe_spin.specs.Modules.{ModuleValue, rows_of_each}
use Rattle.axe_echelon.specs.Echelons.{EchelonValue}
use Rattle.axe_iso.specs.Following.{AreStillToCome}

-- the rows are the images of the unit vectors under a homomorphism of the matrices into the module: the matrices act on
-- them as on the unit vectors
abbrev pub IsHomomorphism : (m matrices : ModuleValue) → Matrix (gf m.order) → Type 0
IsHomomorphism m matrices rows =
    IsSubAction (gf m.order) (module_of (number_field m.order) m.dim m.generators) matrices.dim rows
    (module_of (number_field m.order) matrices.dim matrices.generators)

-- the span of `found` has the image of the first unit vector under each homomorphism that takes it into the span of
-- `space`
abbrev pub SpanImages : (m matrices : ModuleValue) → List (List ℕ) → List (List ℕ) → Type 0
SpanImages m matrices space found = (rows : Matrix (gf m.order)) → IsHomomorphism m matrices rows →
    InSpan (gf m.order) (length space) (matrix_of (number_field m.order) space) (rows 0) →
    InSpan (gf m.order) (length found) (matrix_of (number_field m.order) found) (rows 0)

-- the same of the rows of a matrix
pub record HasImages (m matrices : ModuleValue) (space found : MatrixValue) : Type 0 where
  pub field : found.order ≡ m.order
  pub columns : found.cols ≡ m.dim
  pub well_formed : IsMatrix found
  pub all : SpanImages m matrices space.rows found.rows

-- the same of a space
pub record IsSpaceOfImages (m matrices : ModuleValue) (space : MatrixValue) (found : EchelonValue) : Type 0 where
  pub field : found.order ≡ m.order
  pub columns : found.cols ≡ m.dim
  pub all : SpanImages m matrices space.rows found.rows

-- ---- combinations of the rows of layers, over one field

-- one combination of r rows, with the same coefficients in each of k layers, gives k rows of c: row t in layer t
pub record HasCombination (F : Field) (r k : ℕ) (layers : ℕ → Matrix F) (c : Matrix F) : Type 0 where
  pub coefficients : Vector F
  pub fits : HasLength F r coefficients
  pub combines : (t : ℕ) → t < k → times F r coefficients (layers t) ≡ c t

-- the rows of an image, each less the combination of the rows at its place in k layers with coefficients v
abbrev pub image_without : (F : Field) → ℕ → Vector F → (ℕ → Matrix F) → Matrix F → Matrix F
image_without F k v layers image = λ i. subtract F (image i) (times F k v (λ t. layers t i))

-- ---- the same of lists

-- a layer: so many rows and columns over the field of an order
pub record IsLayer (order : Order) (cols size : ℕ) (layer : MatrixValue) : Type 0 where
  pub field : layer.order ≡ order
  pub columns : layer.cols ≡ cols
  pub count : length layer.rows ≡ size
  pub well_formed : IsMatrix layer

-- layer t as a matrix
abbrev pub layer_matrix : (K : NumberField) → List MatrixValue → ℕ → Matrix (field_of K)
layer_matrix K layers t = matrix_of K (get_or (rows_of_each layers) t [])

-- how many rows the first layer has
abbrev pub layer_size : List MatrixValue → ℕ
layer_size layers = length (get_or (rows_of_each layers) 0 [])

-- a combination of the layers' rows gives the first rows of c
abbrev pub LayersCombine : (K : NumberField) → List MatrixValue → Matrix (field_of K) → Type 0
LayersCombine K layers c = HasCombination (field_of K) (layer_size layers) (length layers) (layer_matrix K layers) c

-- a difference: an image less the combination of the first k layers with these coefficients
pub record IsImageWithout (coefficients : List ℕ) (layers : List MatrixValue) (k : ℕ) (image difference : MatrixValue) :
    Type 0 where
  pub layer : IsLayer image.order image.cols (length image.rows) difference
  pub rows : matrix_of (number_field image.order) difference.rows ≡
      image_without (gf image.order) k (vector_of (number_field image.order) coefficients)
      (layer_matrix (number_field image.order) layers) (matrix_of (number_field image.order) image.rows)

-- each of the first k layers became its product with `kept` from the left, and the others are as they were
pub record AreProductsUpTo (kept : MatrixValue) (old new : List MatrixValue) (k : ℕ) : Type 0 where
  pub count : length new ≡ length old
  pub products : (t : ℕ) (d : MatrixValue) → t < k → t < length old →
      get_or new t d ≡ matrix_product kept (get_or old t d)
  pub well_formed : (t : ℕ) (d : MatrixValue) → t < k → t < length old → IsMatrix (get_or new t d)
  pub others : (t : ℕ) (d : MatrixValue) → k ≤ t → get_or new t d ≡ get_or old t d

-- what a combination of r rows of the old layers gives, for which the image's rows combine to the combination of these
-- layers' with the coefficients, a combination of the rows of the new layers gives, too
abbrev pub KeepCombinations : (o : Order) (r size : ℕ) (coefficients : List ℕ) (image : List (List ℕ))
    (old new : List MatrixValue) → Type 0
KeepCombinations o r size coefficients image old new = (e : Vector (gf o)) → HasLength (gf o) r e →
    times (gf o) r e (matrix_of (number_field o) image) ≡
    times (gf o) (length old) (vector_of (number_field o) coefficients)
    (λ t. times (gf o) r e (layer_matrix (number_field o) old t)) →
    HasCombination (gf o) size (length new) (layer_matrix (number_field o) new)
    (λ t. times (gf o) r e (layer_matrix (number_field o) old t))

-- narrowed layers: they are of one shape, and keep all vectors for which the image is the combination of the layers with
-- these coefficients
pub record AreNarrowed (coefficients : List ℕ) (image : MatrixValue) (old new : List MatrixValue) : Type 0 where
  pub count : length new ≡ length old
  pub size : ℕ
  pub each : All (IsLayer image.order image.cols size) new
  pub kept : KeepCombinations image.order (length image.rows) size coefficients image.rows old new

-- the image became the next layer, since its coefficients go past the layers
pub record IsNextLayer (coefficients : List ℕ) (image : MatrixValue) (old new : List MatrixValue) : Type 0 where
  pub index : ℕ
  pub within : index < length coefficients
  pub past : length old ≤ index
  pub nonzero : get_or coefficients index 0 ≢ 0
  pub appended : new ≡ old ++ image ∷ []

-- its coefficients don't go past the layers, which are narrowed to the vectors for which it is their combination
pub record IsKnownLayer (coefficients : List ℕ) (image : MatrixValue) (old new : List MatrixValue) : Type 0 where
  pub within : AreZerosFrom coefficients (length old)
  pub narrowed : AreNarrowed coefficients image old new

-- one or the other
abbrev pub TakesImage : List ℕ → MatrixValue → List MatrixValue → List MatrixValue → Type 0
TakesImage coefficients image old new =
    IsNextLayer coefficients image old new ⊎ IsKnownLayer coefficients image old new

-- the layers when the images of the pairs (row, generator) before (r, i) were taken: they are of one shape, and each
-- row of the standard basis past them is the image of a pair that is still to come
pub record AreLayersUpTo (m matrices : ModuleValue) (layers : List MatrixValue) (r i : ℕ) : Type 0 where
  pub each : All (IsLayer m.order m.dim (layer_size layers)) layers
  pub some : 0 < length layers
  pub no_more : length layers ≤ matrices.dim
  pub to_come : AreStillToCome (gf m.order) (module_of (number_field m.order) matrices.dim matrices.generators)
      (length layers) r i

-- each homomorphism that the old layers' rows combine to is one that the new layers' rows combine to
abbrev pub KeepHomomorphisms : (m matrices : ModuleValue) → List MatrixValue → List MatrixValue → Type 0
KeepHomomorphisms m matrices old new = (c : Matrix (gf m.order)) → IsHomomorphism m matrices c →
    LayersCombine (number_field m.order) old c → LayersCombine (number_field m.order) new c
