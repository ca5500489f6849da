-- Columns that follow one another.
use Rattle.std.specs.Prelude.{◌≡◌, ℕ, ◌+◌, ◌<◌, List, Bool, IsTrue, length, get_or}
use Rattle.axe_layer.specs.Runs.{AreFollowed}

-- there are columns, and they are consecutive: the first one, and each time the next
pub record AreConsecutive (columns : List ℕ) : Type 0 where
  pub some : 0 < length columns
  pub each : (t : ℕ) → t < length columns → get_or columns t 0 ≡ get_or columns 0 0 + t

-- what is known of columns: whether they are consecutive, and by bits which of them are followed by the next one
pub record AreKnownRuns (columns : List ℕ) (consecutive : Bool) (followed : List ℕ) : Type 0 where
  pub whole : IsTrue consecutive → AreConsecutive columns
  pub each : AreFollowed columns followed
