-- Tables of planes of bits in one flat list: entry x is the piece from x w on, where an entry takes w words.
use Rattle.std.specs.Prelude.{◌≡◌, ℕ, ◌+◌, ◌*◌, ◌/◌, ◌^◌, ◌<◌, List, length}
use Rattle.std.specs.Simd.Lanes.{chunk}
use Rattle.axe_algebra.specs.Lists.{listed}
use Rattle.axe_layer.specs.Bits.{bits, HoldsBits}

-- the entries of a table of bits: each has n of them, in w words
unfoldable pub bit_entries : ℕ → ℕ → ℕ → List ℕ → List (List ℕ)
bit_entries n w count words = listed count (λ x. bits n (chunk (x * w) w words))

-- the words of so many entries of n bits, each in w words
pub record HoldsEntries (n w count : ℕ) (words : List ℕ) : Type 0 where
  pub counted : n < 2 ^ 64
  pub wide : w ≡ (n + 63) / 64
  pub long : length words ≡ count * w
  pub held : (x : ℕ) → x < count → HoldsBits n (chunk (x * w) w words)
