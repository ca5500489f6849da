-- Reduced rows (the reduced row echelon form of any linear algebra text, but for the order of the rows).
use Rattle.std.specs.Prelude.{◌≡◌, ◌≢◌, ℕ, ◌+◌, ◌<◌, List, ◌++◌, length, get_or, All}
use Rattle.axe_algebra.specs.Bridge.{field_of, matrix_of}
use Rattle.axe_algebra.specs.Field.{Field}
use Rattle.axe_algebra.specs.Lists.{IsMatrixOver}
use Rattle.axe_algebra.specs.NumberField.{NumberField}
use Rattle.axe_algebra.specs.SpansOfLists.{HaveSameSpan}
use Rattle.axe_algebra.specs.Vectors.{Vector, Matrix, subtract, times}

-- row t of the k rows of w is 1 at its pivot p t and 0 before it, and 0 at the pivots of the other rows
pub record AreReducedRows (F : Field) (k : ℕ) (w : Matrix F) (p : ℕ → ℕ) : Type 0 where
  pub one : (t : ℕ) → t < k → w t (p t) ≡ F.one
  pub before : (t i : ℕ) → t < k → i < p t → w t i ≡ F.zero
  pub zero : (s t : ℕ) → s < k → t < k → s ≢ t → w s (p t) ≡ F.zero

-- x less the combination of the k rows of w that has the entries of x at the columns p as its coefficients
abbrev pub less_rows : (F : Field) → ℕ → (ℕ → ℕ) → Matrix F → Vector F → Vector F
less_rows F k p w x = subtract F x (times F k (λ t. x (p t)) w)

-- the rows `reduced`, reduced at the pivots, and `rest`, 0 left of the bar, span what these rows do, and are as many
pub record AreReduced (K : NumberField) (left columns : ℕ) (rows : List (List ℕ)) (pivots : List ℕ)
    (reduced rest : List (List ℕ)) : Type 0 where
  pub over : IsMatrixOver K columns reduced
  pub count : length reduced + length rest ≡ length rows
  pub pivot_count : length pivots ≡ length reduced
  pub pivots_left : All (λ pivot. pivot < left) pivots
  pub are_reduced : AreReducedRows (field_of K) (length reduced) (matrix_of K reduced) (λ t. get_or pivots t 0)
  pub rest_zero : (i j : ℕ) → i < length rest → j < left → matrix_of K rest i j ≡ (field_of K).zero
  pub same : HaveSameSpan K rows (reduced ++ rest)
