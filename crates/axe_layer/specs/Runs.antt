-- Runs of consecutive indices.
use Rattle.std.specs.Prelude.{◌≡◌, ℕ, ◌+◌, ◌<◌, List, length, slice_index}
use Rattle.axe_lane.specs.Words.{bit_of}

-- where bit e of these words is 1, index e is followed by the next number
abbrev pub AreFollowed : List ℕ → List ℕ → Type 0
AreFollowed indices words = (e : ℕ) → e + 1 < length indices → bit_of words e ≡ 1 →
    slice_index indices (e + 1) ≡ slice_index indices e + 1
