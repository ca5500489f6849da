-- What stands at the front of bytes, up to the first byte of another kind.
use Rattle.std.specs.Prelude.{◌≡◌, ℕ, Bool, false, not, ◌&&◌, ◌==◌, nat_le, nat_lt, List, [], ◌∷◌}

-- one of the ten decimal digits
abbrev pub is_digit : ℕ → Bool
is_digit byte = nat_le 48 byte && nat_lt byte 58

-- a byte that separates nothing: no space and no line feed
abbrev pub is_no_separator : ℕ → Bool
is_no_separator byte = not (byte == 32) && not (byte == 10)

-- there are no bytes, or the first one does not pass the test
abbrev pub Stops : (ℕ → Bool) → List ℕ → Type 0
Stops test [] = Unit {0}
Stops test (byte ∷ bytes) = test byte ≡ false
