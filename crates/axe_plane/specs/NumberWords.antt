-- Numbers below 8 by three words of bits.
use Rattle.std.specs.Prelude.{ℕ, ◌+◌, ◌*◌, List, slice_index}
use Rattle.std.specs.Int.{bit_at}
use Rattle.axe_layer.specs.Words.{digit_of_words}

-- number i of three words: bit i of the first, twice bit i of the second, and four times bit i of the third
abbrev pub number_of_words : List ℕ → ℕ → ℕ
number_of_words words i = digit_of_words words i + 4 * bit_at (slice_index words 2) i
