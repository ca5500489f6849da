-- Standard bases (Parker 1984).
use Rattle.std.specs.Prelude.{◌≡◌, ℕ, ◌<◌, ◌⊎◌}
use Rattle.axe_algebra.specs.Field.{Field}
use Rattle.axe_algebra.specs.Vectors.{Vector, Matrix, times}
use Rattle.axe_algebra.specs.Spans.{IsIndependent}
use Rattle.axe_algebra.specs.Modules.{Module, image}
use Rattle.axe_algebra.specs.Actions.{IsSubAction}

-- the pair (a, b) comes before (c, d) in lexicographic order
abbrev pub Precedes : ℕ → ℕ → ℕ → ℕ → Type 0
Precedes a b c d = (a < c) ⊎ ((a ≡ c) × (b < d))

-- x is in the span of row 0 of b and those of the rows t from 1 to m - 1 whose pair (rows t, generators t) is at most
-- (r, i): a combination of the m rows in which each row with a greater pair has coefficient 0
pub record InSpanUpTo (F : Field) (m : ℕ) (b : Matrix F) (rows generators : ℕ → ℕ) (r i : ℕ)
    (x : Vector F) : Type 0 where
  pub coefficients : Vector F
  pub combines : x ≡ times F m coefficients b
  pub later : (t : ℕ) → 0 < t → t < m → Precedes r i (rows t) (generators t) → coefficients t ≡ F.zero

-- the m rows of b are the standard basis of v: independent, v the first, each later row t the image of row `rows t`,
-- which is an earlier one, under generator `generators t`, these pairs strictly ascending in lexicographic order, such
-- that for every row r and generator i the image is in the span of the first row and those whose pair is at most (r, i)
pub record IsStandardBasis (F : Field) (M : Module F) (v : Vector F) (m : ℕ) (b : Matrix F) : Type 0 where
  pub nonempty : 0 < m
  pub first : b 0 ≡ v
  pub independent : IsIndependent F m b
  pub rows : ℕ → ℕ
  pub generators : ℕ → ℕ
  pub earlier : (t : ℕ) → 0 < t → t < m → rows t < t
  pub generator-below : (t : ℕ) → 0 < t → t < m → generators t < M.count
  pub ascending : (s t : ℕ) → 0 < s → s < t → t < m → Precedes (rows s) (generators s) (rows t) (generators t)
  pub equals : (t : ℕ) → 0 < t → t < m → b t ≡ image F M (b (rows t)) (generators t)
  pub images : (r i : ℕ) → r < m → i < M.count → InSpanUpTo F m b rows generators r i (image F M (b r) i)

-- A has the standard matrices of v: the sub action on its standard basis
pub record AreStandardMatrices (F : Field) (M : Module F) (v : Vector F) (A : Module F) : Type 0 where
  pub size : ℕ
  pub basis : Matrix F
  pub standard : IsStandardBasis F M v size basis
  pub acts : IsSubAction F M size basis A
