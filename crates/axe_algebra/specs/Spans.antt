-- Spans, independence and inverses (any linear algebra text).
use Rattle.std.specs.Prelude.{◌≡◌, ◌≢◌, ℕ, ◌<◌}
use Rattle.axe_algebra.specs.Field.{Field}
use Rattle.axe_algebra.specs.Vectors.{Vector, Matrix, HasLength, HasShape, zero_vector, times, multiply, unit_matrix}

-- x is in the span of the first k rows of v: the set of all their combinations
pub record InSpan (F : Field) (k : ℕ) (v : Matrix F) (x : Vector F) : Type 0 where
  pub coefficients : Vector F
  pub combines : x ≡ times F k coefficients v

-- the rows are independent: only the combination with all coefficients 0 is zero
pub record IsIndependent (F : Field) (k : ℕ) (v : Matrix F) : Type 0 where
  pub only_zero : (c : Vector F) → times F k c v ≡ zero_vector F → (t : ℕ) → t < k → c t ≡ F.zero

-- the rows are dependent: a combination with a coefficient other than 0 is zero
pub record IsDependent (F : Field) (k : ℕ) (v : Matrix F) : Type 0 where
  pub coefficients : Vector F
  pub vanishes : times F k coefficients v ≡ zero_vector F
  pub place : ℕ
  pub place-below : place < k
  pub nonzero : coefficients place ≢ F.zero

-- the span of k rows of v lies in that of m rows of w: each of the rows does
abbrev pub SpanWithin : (F : Field) → ℕ → Matrix F → ℕ → Matrix F → Type 0
SpanWithin F k v m w = (t : ℕ) → t < k → InSpan F m w (v t)

-- one span, by two lists of rows
pub record SameSpan (F : Field) (k : ℕ) (v : Matrix F) (m : ℕ) (w : Matrix F) : Type 0 where
  pub forth : SpanWithin F k v m w
  pub back : SpanWithin F m w k v

-- the rows span zero: each of them is zero
abbrev pub SpansZero : (F : Field) → ℕ → Matrix F → Type 0
SpansZero F k v = (t : ℕ) → t < k → v t ≡ zero_vector F

-- the rows span everything: all vectors of length n
abbrev pub SpansAll : (F : Field) → ℕ → ℕ → Matrix F → Type 0
SpansAll F n k v = (x : Vector F) → HasLength F n x → InSpan F k v x

-- b is the inverse of the square matrix a of n rows
pub record IsInverse (F : Field) (n : ℕ) (a b : Matrix F) : Type 0 where
  pub shape : HasShape F n n b
  pub left : multiply F n b a ≡ unit_matrix F n
  pub right : multiply F n a b ≡ unit_matrix F n

-- a square matrix of n rows is invertible: some b has a b = b a = 1
pub record IsInvertible (F : Field) (n : ℕ) (a : Matrix F) : Type 0 where
  pub inverse : Matrix F
  pub inverts : IsInverse F n a inverse

-- v is in the null space of the matrix x with m rows: v x = 0 (Parker 1984)
pub record IsNullVector (F : Field) (m : ℕ) (x : Matrix F) (v : Vector F) : Type 0 where
  pub length : HasLength F m v
  pub vanishes : times F m v x ≡ zero_vector F

-- the null space of x is zero
abbrev pub HasZeroNullSpace : (F : Field) → ℕ → Matrix F → Type 0
HasZeroNullSpace F m x = (v : Vector F) → IsNullVector F m x v → v ≡ zero_vector F
