-- The entries of a row, 64 of them in a word.
use Rattle.std.specs.Prelude.{◌≡◌, ◌⊎◌, ℕ, ◌+◌, ◌*◌, List, slice_index}
use Rattle.std.specs.Int.{bit_at}
use Rattle.axe_algebra.specs.Lists.{listed}
use Rattle.axe_lane.specs.Entries.{IsNextNonzero}

-- word k of a list of entries: the 64 entries from 64 k on, with 0 where there is none
abbrev pub entries_in_word : List ℕ → ℕ → List ℕ
entries_in_word entries k = listed 64 (λ i. slice_index entries (k * 64 + i))

-- the first entry other than 0 from `start` on stands at this index, and this is that entry
pub record IsFoundEntry (entries : List ℕ) (start index entry : ℕ) : Type 0 where
  pub next : IsNextNonzero entries start index
  pub entry_is : entry ≡ slice_index entries index

-- the 64 numbers that four words of bits make with a weight: number i is l + w h, where w is the weight, and l and h
-- have bit i of the first two words and of the last two, the lower bit first
unfoldable pub weighted_numbers : ℕ → ℕ → ℕ → ℕ → ℕ → List ℕ
weighted_numbers ones twos high_ones high_twos weight =
    listed 64 (λ i. bit_at ones i + 2 * bit_at twos i + weight * (bit_at high_ones i + 2 * bit_at high_twos i))

-- what the higher one of two numbers below 4 counts: 3, where both are coefficients modulo 3, or 4, where both are the
-- bits of one number
abbrev pub IsWeight : ℕ → Type 0
IsWeight weight = (weight ≡ 3) ⊎ (weight ≡ 4)
