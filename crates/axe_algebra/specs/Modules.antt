-- Modules, products of generators, invariant and generated spaces (Parker 1984; Holt, Eick, O'Brien, chapter 7).
use Rattle.std.specs.Prelude.{◌≡◌, ℕ, ◌<◌, List, [], ◌∷◌, ⊤}
use Rattle.axe_algebra.specs.Field.{Field}
use Rattle.axe_algebra.specs.Vectors.{Vector, Matrix, HasShape, HasLength, transposed, unit_matrix, times, multiply}
use Rattle.axe_algebra.specs.Vectors.{zero_vector, add_vectors, scale}
use Rattle.axe_algebra.specs.Spans.{InSpan}

-- a dimension and so many generators, which act on row vectors from the right
pub record Module (F : Field) : Type 0 where
  pub dimension : ℕ
  pub count : ℕ
  pub generator : ℕ → Matrix F

-- the generators are square matrices of the dimension
pub record HasSquareMatrices (F : Field) (M : Module F) : Type 0 where
  pub square : (i : ℕ) → i < M.count → HasShape F M.dimension M.dimension (M.generator i)

-- the transposed module: its generators are the transposes
abbrev pub transposed_module : (F : Field) → Module F → Module F
transposed_module F M = record {
  dimension = M.dimension;
  count = M.count;
  generator = λ i. transposed F (M.generator i);
}

-- the image of a vector under a generator
abbrev pub image : (F : Field) → Module F → Vector F → ℕ → Vector F
image F M v i = times F M.dimension v (M.generator i)

-- the numbers in a list are numbers of generators
abbrev pub AreGenerators : (F : Field) → Module F → List ℕ → Type 0
AreGenerators F M [] = ⊤
AreGenerators F M (i ∷ rest) = (i < M.count) × AreGenerators F M rest

-- the product of generators from left to right; the empty product is the identity
unfoldable pub path_product : (F : Field) → Module F → List ℕ → Matrix F
path_product F M [] = unit_matrix F M.dimension
path_product F M (i ∷ rest) = multiply F M.dimension (M.generator i) (path_product F M rest)

-- the span of k rows of v is invariant: every row times every generator is in the span (Parker 1984)
pub record IsInvariant (F : Field) (M : Module F) (k : ℕ) (v : Matrix F) : Type 0 where
  pub images : (t i : ℕ) → t < k → i < M.count → InSpan F k v (image F M (v t) i)

-- a set of vectors that is a space of vectors of the module, and invariant: zero, sums, multiples and images stay in it
pub record IsInvariantSet (F : Field) (M : Module F) (P : Vector F → Type 0) : Type 0 where
  pub zero : P (zero_vector F)
  pub sums : (x y : Vector F) → P x → P y → P (add_vectors F x y)
  pub multiples : (c : F.Element) (x : Vector F) → P x → P (scale F c x)
  pub images : (x : Vector F) (i : ℕ) → P x → i < M.count → P (image F M x i)

-- y is one of k rows of v times a product of generators
pub record IsRowTimesProduct (F : Field) (M : Module F) (k : ℕ) (v : Matrix F) (y : Vector F) : Type 0 where
  pub row : ℕ
  pub row-below : row < k
  pub path : List ℕ
  pub generators : AreGenerators F M path
  pub equals : y ≡ times F M.dimension (v row) (path_product F M path)

-- x is in the space that k rows of v generate: the span of these rows times all products of generators, the empty
-- product among them (Parker 1984)
pub record InGenerated (F : Field) (M : Module F) (k : ℕ) (v : Matrix F) (x : Vector F) : Type 0 where
  pub size : ℕ
  pub vectors : Matrix F
  pub each : (s : ℕ) → s < size → IsRowTimesProduct F M k v (vectors s)
  pub in_span : InSpan F size vectors x

-- the span of r rows of w is the space that k rows of v generate
pub record SpansGenerated (F : Field) (M : Module F) (k : ℕ) (v : Matrix F) (r : ℕ) (w : Matrix F) : Type 0 where
  pub forth : (x : Vector F) → InSpan F r w x → InGenerated F M k v x
  pub back : (x : Vector F) → InGenerated F M k v x → InSpan F r w x

-- the rows generate everything: all vectors of the module
abbrev pub GeneratesAll : (F : Field) → Module F → ℕ → Matrix F → Type 0
GeneratesAll F M k v = (x : Vector F) → HasLength F M.dimension x → InGenerated F M k v x

-- one vector generates everything
abbrev pub VectorGeneratesAll : (F : Field) → Module F → Vector F → Type 0
VectorGeneratesAll F M v = GeneratesAll F M 1 (λ i. v)
