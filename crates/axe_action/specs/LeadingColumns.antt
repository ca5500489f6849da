-- The columns where rows begin, and the columns that are not among some.
use Rattle.std.specs.Prelude.{◌≡◌, ◌≢◌, ℕ, ◌<◌, List, [], length, get_or}
use Rattle.axe_algebra.specs.Reduced.{IsAscendingListOf}

-- the rows are 0 before these columns, one for each row, which ascend and are below a bound (the row echelon form of
-- any linear algebra text)
pub record AreLeadingColumns (bound : ℕ) (rows : List (List ℕ)) (columns : List ℕ) : Type 0 where
  pub ascending : (s t : ℕ) → s < t → t < length columns → get_or columns s 0 < get_or columns t 0
  pub below : (t : ℕ) → t < length columns → get_or columns t 0 < bound
  pub zeros : (t i : ℕ) → t < length columns → i < get_or columns t 0 → get_or (get_or rows t []) i 0 ≡ 0

-- the column is below a bound, and none of these
pub record IsOtherColumn (bound : ℕ) (columns : List ℕ) (j : ℕ) : Type 0 where
  pub below : j < bound
  pub other : (t : ℕ) → t < length columns → get_or columns t 0 ≢ j

-- these are the other columns, ascending
abbrev pub AreOtherColumns : ℕ → List ℕ → List ℕ → Type 0
AreOtherColumns bound columns others =
    IsAscendingListOf (IsOtherColumn bound columns) (length others) (λ t. get_or others t 0)
