-- Pivots, reduced bases and the representatives of cosets (Parker 1984; the reduced row echelon form of any linear
-- algebra text).
use Rattle.std.specs.Prelude.{◌≡◌, ◌≢◌, ℕ, ◌<◌}
use Rattle.axe_algebra.specs.Field.{Field}
use Rattle.axe_algebra.specs.Vectors.{Vector, Matrix, subtract}
use Rattle.axe_algebra.specs.Spans.{InSpan}

-- the first nonzero entry of x stands at j
pub record LeadsAt (F : Field) (x : Vector F) (j : ℕ) : Type 0 where
  pub nonzero : x j ≢ F.zero
  pub before : (i : ℕ) → i < j → x i ≡ F.zero

-- column j is a pivot of the span of k rows of v: some vector of the span has its first nonzero entry at j
pub record IsPivot (F : Field) (k : ℕ) (v : Matrix F) (j : ℕ) : Type 0 where
  pub vector : Vector F
  pub in_span : InSpan F k v vector
  pub leads : LeadsAt F vector j

-- p 0 to p (r - 1) are the numbers with P, in ascending order
pub record IsAscendingListOf (P : ℕ → Type 0) (r : ℕ) (p : ℕ → ℕ) : Type 0 where
  pub ascending : (s t : ℕ) → s < t → t < r → p s < p t
  pub each : (t : ℕ) → t < r → P (p t)
  pub all : (j : ℕ) → P j → (t : ℕ) × (t < r) × (p t ≡ j)

-- the r rows of w are the reduced basis of the span of k rows of v: for each pivot in ascending order the vector of the
-- span with 1 there and 0 at all other pivots
pub record IsReducedBasis (F : Field) (k : ℕ) (v : Matrix F) (r : ℕ) (w : Matrix F) : Type 0 where
  pub pivots : ℕ → ℕ
  pub are_pivots : IsAscendingListOf (IsPivot F k v) r pivots
  pub in_span : (t : ℕ) → t < r → InSpan F k v (w t)
  pub one : (t : ℕ) → t < r → w t (pivots t) ≡ F.one
  pub zero : (s t : ℕ) → s < r → t < r → s ≢ t → w t (pivots s) ≡ F.zero

-- x is 0 at every pivot of the span
abbrev pub IsZeroAtPivots : (F : Field) → ℕ → Matrix F → Vector F → Type 0
IsZeroAtPivots F k v x = (j : ℕ) → IsPivot F k v j → x j ≡ F.zero

-- y is the representative of x modulo the span: in its coset, and 0 at every pivot
pub record IsRepresentative (F : Field) (k : ℕ) (v : Matrix F) (x y : Vector F) : Type 0 where
  pub in_coset : InSpan F k v (subtract F x y)
  pub at_pivots : IsZeroAtPivots F k v y

-- the r rows of w are the reduced basis of the space P
pub record IsReducedBasisOf (F : Field) (P : Vector F → Type 0) (r : ℕ) (w : Matrix F) : Type 0 where
  pub forth : (x : Vector F) → InSpan F r w x → P x
  pub back : (x : Vector F) → P x → InSpan F r w x
  pub reduced : IsReducedBasis F r w r w
