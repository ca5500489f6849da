-- Bytes in a range.
use Rattle.std.specs.Prelude.{ℕ, ◌+◌, Bool, ◌&&◌, nat_le, nat_lt}

-- one of so many numbers, of which this is the least
unfoldable pub is_within : ℕ → ℕ → ℕ → Bool
is_within low count byte = nat_le low byte && nat_lt byte (low + count)
