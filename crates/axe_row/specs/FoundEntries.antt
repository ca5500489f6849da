-- Entries other than 0 that are found at chosen places, and the words of 64 entries that are looked at for them.
use Rattle.std.specs.Prelude.{◌≡◌, ◌≢◌, ℕ, ◌+◌, ◌*◌, ◌<◌, List, slice_index}
use Rattle.std.specs.Int.{bit_at}
use Rattle.axe_lane.specs.Entries.{AreZerosFrom, IsNextNonzero}
use Rattle.axe_layer.specs.Supports.{restricted}
use Rattle.axe_layer.specs.Words.{digit_of_words}

-- the first entry other than 0 from `start` on, among the places where another list is not 0, stands at this index, and
-- this is that entry
pub record IsNextEntry (places entries : List ℕ) (start index entry : ℕ) : Type 0 where
  pub next : IsNextNonzero (restricted places entries) start index
  pub entry_is : entry ≡ slice_index entries index

-- the same, but that the entry is 0 where there is none
pub record TellsNextEntry (places entries : List ℕ) (start index entry : ℕ) : Type 0 where
  pub none : entry ≡ 0 → AreZerosFrom (restricted places entries) start
  pub found : entry ≢ 0 → IsNextEntry places entries start index entry

-- three words have the coefficients modulo 2 of the 64 entries from 64 k on: those of 1, of x and of x^2, a bit for each
abbrev pub HoldBitWords : List ℕ → ℕ → ℕ → ℕ → ℕ → Type 0
HoldBitWords entries k c l q = (i : ℕ) → i < 64 →
    slice_index entries (k * 64 + i) ≡ bit_at c i + 2 * bit_at l i + 4 * bit_at q i

-- two pairs of words have the coefficients modulo 3 of the 64 entries from 64 k on: those of 1 and of x
abbrev pub HoldTritWords : List ℕ → ℕ → List ℕ → List ℕ → Type 0
HoldTritWords entries k c l = (i : ℕ) → i < 64 →
    slice_index entries (k * 64 + i) ≡ digit_of_words c i + 3 * digit_of_words l i
