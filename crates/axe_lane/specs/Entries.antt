-- Entries of lists of numbers that are zero, and the first that is not.
use Rattle.std.specs.Prelude.{◌≡◌, ◌≢◌, ℕ, ◌<◌, ◌≤◌, List, length, slice_index, Any}

-- some entry is other than zero
abbrev pub HasNonzero : List ℕ → Type 0
HasNonzero entries = Any (λ entry. entry ≢ 0) entries

-- the entries at the indices below n are zero
abbrev pub AreZerosBefore : List ℕ → ℕ → Type 0
AreZerosBefore entries n = (j : ℕ) → j < n → slice_index entries j ≡ 0

-- the first entry other than zero is the one at this index
pub record IsFirstNonzero (entries : List ℕ) (index : ℕ) : Type 0 where
  pub within : index < length entries
  pub nonzero : slice_index entries index ≢ 0
  pub zeros_before : AreZerosBefore entries index

-- the entries from an index on are zero
abbrev pub AreZerosFrom : List ℕ → ℕ → Type 0
AreZerosFrom entries start = (j : ℕ) → start ≤ j → slice_index entries j ≡ 0

-- the entries from an index on and before another are zero
abbrev pub AreZerosBetween : List ℕ → ℕ → ℕ → Type 0
AreZerosBetween entries start end = (j : ℕ) → start ≤ j → j < end → slice_index entries j ≡ 0

-- the first entry other than zero from `start` on is the one at this index
pub record IsNextNonzero (entries : List ℕ) (start index : ℕ) : Type 0 where
  pub within : index < length entries
  pub not_before : start ≤ index
  pub nonzero : slice_index entries index ≢ 0
  pub zeros_between : AreZerosBetween entries start index
