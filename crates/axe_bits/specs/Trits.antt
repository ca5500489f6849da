-- Digits modulo 3 in two layers of bits: a digit is 1 where the first layer has a bit, and 2 where the second has one.
use Rattle.std.specs.Prelude.{◌≡◌, ℕ, ◌+◌, ◌*◌, ◌/◌, ◌<◌, ◌≤◌, List, []}
use Rattle.std.specs.Prelude.{length, slice_index, slice_index_or, take, drop}
use Rattle.axe_algebra.specs.Lists.{listed}
use Rattle.axe_layer.specs.Bits.{bits, HoldsBits}
use Rattle.axe_lane.specs.Bytes.{AreDigits}
use Rattle.axe_lane.specs.Entries.{AreZerosBefore}

-- the digits of two layers: those of the first, and twice those of the second
unfoldable pub trits : List ℕ → List ℕ → List ℕ
trits ones twos = listed (length ones) (λ e. slice_index ones e + 2 * slice_index twos e)

-- two layers of as many bits, and no place has a bit in both
pub record HoldTrits (ones twos : List ℕ) : Type 0 where
  pub as_long : length twos ≡ length ones
  pub ones_digits : AreDigits 2 ones
  pub twos_digits : AreDigits 2 twos
  pub apart : (e : ℕ) → slice_index ones e + slice_index twos e ≤ 1

-- the words of two such layers of n bits
pub record HoldLayers (n : ℕ) (ones twos : List ℕ) : Type 0 where
  pub ones_held : HoldsBits n ones
  pub twos_held : HoldsBits n twos
  pub together : HoldTrits (bits n ones) (bits n twos)

-- the words of both layers before one are zero
pub record AreZeroLayersBefore (ones twos : List ℕ) (first : ℕ) : Type 0 where
  pub ones_zero : AreZerosBefore ones first
  pub twos_zero : AreZerosBefore twos first

-- the first half of a list of words, and the rest of it: those of two layers, one after another in one list
abbrev pub first_half : List ℕ → List ℕ
first_half words = take (length words / 2) words

abbrev pub second_half : List ℕ → List ℕ
second_half words = drop (length words / 2) words

-- the entries of two tables of layers, each a list of digits modulo 3
unfoldable pub trit_entries : List (List ℕ) → List (List ℕ) → List (List ℕ)
trit_entries ones twos = listed (length ones) (λ x. trits (slice_index_or ones x []) (slice_index_or twos x []))

-- two tables of as many layers, and the layers at one index go together
pub record HoldTritEntries (ones twos : List (List ℕ)) : Type 0 where
  pub as_many : length twos ≡ length ones
  pub held : (x : ℕ) → x < length ones → HoldTrits (slice_index_or ones x []) (slice_index_or twos x [])
