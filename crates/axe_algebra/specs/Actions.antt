-- The actions of a module on an invariant space and modulo it (Parker 1984).
use Rattle.std.specs.Prelude.{◌≡◌, ℕ, ◌<◌, ◌+◌}
use Rattle.axe_algebra.specs.Field.{Field}
use Rattle.axe_algebra.specs.Vectors.{Matrix, HasShape, subtract, times, unit_vector}
use Rattle.axe_algebra.specs.Spans.{InSpan}
use Rattle.axe_algebra.specs.Reduced.{IsPivot, IsAscendingListOf}
use Rattle.axe_algebra.specs.Modules.{Module, image}

-- A is a sub action on the k rows of b: b_t g = sum over s of A[t][s] b_s, for each generator g. Where the rows are
-- independent there is at most one; that they are is not said here
pub record IsSubAction (F : Field) (M : Module F) (k : ℕ) (b : Matrix F) (A : Module F) : Type 0 where
  pub dimension : A.dimension ≡ k
  pub count : A.count ≡ M.count
  pub square : (i : ℕ) → i < M.count → HasShape F k k (A.generator i)
  pub acts : (i t : ℕ) → i < M.count → t < k → image F M (b t) i ≡ times F k (A.generator i t) b

-- a column below n that is no pivot of the span of k rows of v
pub record IsFree (F : Field) (n k : ℕ) (v : Matrix F) (j : ℕ) : Type 0 where
  pub below : j < n
  pub no_pivot : ¬ (IsPivot F k v j)

-- the rows e with the unit vectors of the columns that are listed
abbrev pub unit_vectors : (F : Field) → (ℕ → ℕ) → Matrix F
unit_vectors F columns = λ s. unit_vector F (columns s)

-- Q is the quotient action modulo the span of k rows of v: over the columns a that are no pivots, ascending,
-- e_a g = sum over s of Q[a][s] e_s plus a vector of the span, for each generator g
pub record IsQuotientAction (F : Field) (M : Module F) (k : ℕ) (v : Matrix F) (m : ℕ) (Q : Module F) : Type 0 where
  pub dimension : Q.dimension ≡ m
  pub count : Q.count ≡ M.count
  pub square : (i : ℕ) → i < M.count → HasShape F m m (Q.generator i)
  pub columns : ℕ → ℕ
  pub free : IsAscendingListOf (IsFree F M.dimension k v) m columns
  pub acts : (i t : ℕ) → i < M.count → t < m →
      InSpan F k v
      (subtract F (image F M (unit_vector F (columns t)) i) (times F m (Q.generator i t) (unit_vectors F columns)))

-- D is the action on the d rows of b from number c on, modulo the c rows before them:
-- b_(c + t) g = sum over s of D[t][s] b_(c + s) plus a vector of the span of the first c rows
pub record IsSectionAction (F : Field) (M : Module F) (b : Matrix F) (c d : ℕ) (D : Module F) : Type 0 where
  pub dimension : D.dimension ≡ d
  pub count : D.count ≡ M.count
  pub square : (i : ℕ) → i < M.count → HasShape F d d (D.generator i)
  pub acts : (i t : ℕ) → i < M.count → t < d →
      InSpan F c b (subtract F (image F M (b (c + t)) i) (times F d (D.generator i t) (λ s. b (c + s))))
