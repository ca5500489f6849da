-- Tables of planes of bytes in one flat list: entry x is the piece from x n on, where an entry has n bytes.
use Rattle.std.specs.Prelude.{◌≡◌, ℕ, ◌*◌, List, length}
use Rattle.std.specs.Simd.Lanes.{chunk}
use Rattle.axe_algebra.specs.Lists.{listed}
use Rattle.axe_lane.specs.Bytes.{AreDigits}

-- the entries of a table of bytes: each has n of them
unfoldable pub byte_entries : ℕ → ℕ → List ℕ → List (List ℕ)
byte_entries n count bytes = listed count (λ x. chunk (x * n) n bytes)

-- the bytes of so many entries of n digits below p
pub record HoldsDigits (p n count : ℕ) (bytes : List ℕ) : Type 0 where
  pub long : length bytes ≡ count * n
  pub digits : AreDigits p bytes
