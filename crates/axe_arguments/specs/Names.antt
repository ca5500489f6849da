-- The rule of names: which bytes are the name of a file.
use Rattle.std.specs.Prelude.{ℕ, Bool, not, ◌&&◌, ◌||◌, ◌==◌, leb, List, length, slice_index}
use Rattle.std.specs.Char.{is_ascii_alphanumeric}
use Rattle.std.specs.List.{list_all}
use Rattle.axe_arguments.specs.Limits.{most_name_bytes}

-- one of the four signs: 46 is '.', 95 is '_', 45 is '-' and 43 is '+'
abbrev pub is_sign : ℕ → Bool
is_sign byte = ((byte == 46) || (byte == 95)) || ((byte == 45) || (byte == 43))

-- a byte that a name may contain: an ASCII letter or digit, or a sign
abbrev pub is_name_byte : ℕ → Bool
is_name_byte byte = is_ascii_alphanumeric byte || is_sign byte

-- a name: 1 to 100 such bytes, `most_name_bytes`, of which the first is no sign
abbrev pub is_name : List ℕ → Bool
is_name name =
    (leb 1 (length name) && leb (length name) most_name_bytes)
    && (not (is_sign (slice_index name 0)) && list_all is_name_byte name)
