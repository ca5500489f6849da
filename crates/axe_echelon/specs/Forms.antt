-- Echelon forms: rows whose pivots were cleared from all later rows, and how they come from other rows.
use Rattle.std.specs.Prelude.{◌≡◌, ℕ, ◌<◌}
use Rattle.axe_algebra.specs.Field.{Field}
use Rattle.axe_algebra.specs.Vectors.{Vector, Matrix, HasLength, add_vectors, scale, times}

-- the r rows of w, of length n, are an echelon form: row t has 1 at the column p t, 0 before it, and 0 at the columns p s
-- of the rows before
pub record IsEchelonForm (F : Field) (n r : ℕ) (w : Matrix F) (p : ℕ → ℕ) : Type 0 where
  pub place : (t : ℕ) → t < r → p t < n
  pub one : (t : ℕ) → t < r → w t (p t) ≡ F.one
  pub before : (t i : ℕ) → t < r → i < p t → w t i ≡ F.zero
  pub cleared : (s t : ℕ) → s < t → t < r → w t (p s) ≡ F.zero

-- each of the r rows of w comes from that of v: it is c t times the sum of row t of v and the combination of the rows of
-- w before it with the multipliers m t
pub record IsCombined (F : Field) (r : ℕ) (v w m : Matrix F) (c : Vector F) : Type 0 where
  pub combines : (t : ℕ) → t < r → w t ≡ scale F (c t) (add_vectors F (v t) (times F t (m t) w))
  pub few : (t : ℕ) → t < r → HasLength F t (m t)
