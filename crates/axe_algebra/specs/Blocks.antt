-- Block lower triangular matrices (any linear algebra text).
use Rattle.std.specs.Prelude.{◌≡◌, ℕ, zero, suc, ◌<◌, ◌≤◌, ◌+◌, List, [], ◌∷◌, length, get_or}
use Rattle.axe_algebra.specs.Field.{Field}
use Rattle.axe_algebra.specs.Vectors.{Matrix, HasShape, multiply}

-- where block number b begins: the sum of the sizes before it
abbrev pub block_start : List ℕ → ℕ → ℕ
block_start sizes zero = 0
block_start [] (suc b) = 0
block_start (size ∷ sizes) (suc b) = size + block_start sizes b

-- the size of block number b
abbrev pub block_size : List ℕ → ℕ → ℕ
block_size sizes b = get_or sizes b 0

-- the sizes, each at least 1, add up to the dimension n
pub record AreBlockSizes (n : ℕ) (sizes : List ℕ) : Type 0 where
  pub positive : (b : ℕ) → b < length sizes → 0 < block_size sizes b
  pub total : block_start sizes (length sizes) ≡ n

-- a is block lower triangular for these sizes: each entry right of its own diagonal block is 0
pub record IsBlockLowerTriangular (F : Field) (sizes : List ℕ) (a : Matrix F) : Type 0 where
  pub right : (b i j : ℕ) → b < length sizes → block_start sizes b ≤ i → i < block_start sizes (suc b) →
      block_start sizes (suc b) ≤ j → a i j ≡ F.zero

-- d is the diagonal block number b of a
pub record IsDiagonalBlock (F : Field) (sizes : List ℕ) (b : ℕ) (a d : Matrix F) : Type 0 where
  pub shape : HasShape F (block_size sizes b) (block_size sizes b) d
  pub entries : (i j : ℕ) → i < block_size sizes b → j < block_size sizes b →
      d i j ≡ a (block_start sizes b + i) (block_start sizes b + j)

-- c is the conjugate p g q of g, q being the inverse of p, both of n rows
abbrev pub conjugate : (F : Field) → ℕ → Matrix F → Matrix F → Matrix F → Matrix F
conjugate F n p g q = multiply F n (multiply F n p g) q
