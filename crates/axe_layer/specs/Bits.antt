-- Words of 64 bits as lists of digits modulo 2.
use Rattle.std.specs.Prelude.{◌≡◌, ℕ, ◌+◌, ◌/◌, ◌^◌, ◌<◌, ◌≤◌, List, length, slice_index}
use Rattle.axe_algebra.specs.Lists.{listed}
use Rattle.axe_lane.specs.Words.{bit_of}

-- the first n bits of a list of words
unfoldable pub bits : ℕ → List ℕ → List ℕ
bits n words = listed n (bit_of words)

-- words of 64 bits with room for n bits, n being itself of 64 bits, and none that is there for nothing; each bit that
-- is not used is 0
pub record HoldsBits (n : ℕ) (words : List ℕ) : Type 0 where
  pub counted : n < 2 ^ 64
  pub fits : (k : ℕ) → slice_index words k < 2 ^ 64
  pub long : length words ≡ (n + 63) / 64
  pub unused : (e : ℕ) → n ≤ e → bit_of words e ≡ 0
