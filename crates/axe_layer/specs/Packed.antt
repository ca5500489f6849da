-- Digits modulo 2 in bytes, eight to a byte.
use Rattle.std.specs.Prelude.{ℕ, ◌+◌, ◌-◌, ◌*◌, ◌/◌, ◌%◌, List, [], ◌∷◌, slice_index}
use Rattle.std.specs.Int.{bit_at}
use Rattle.axe_algebra.specs.Digits.{number_with_digits}
use Rattle.axe_algebra.specs.Lists.{listed}

-- digit e that bytes hold: bit 7 - e mod 8 of byte e / 8, so that the first digit of a byte is its most significant bit
unfoldable pub packed_bit : List ℕ → ℕ → ℕ
packed_bit bytes e = bit_at (slice_index bytes (e / 8)) (7 - e % 8)

-- the number whose digits in base 2, most significant first, are so many bits of a word from one of them on
abbrev pub number_of_piece : ℕ → ℕ → ℕ → ℕ
number_of_piece word from size = number_with_digits 2 (listed size (λ j. bit_at word (from + j)))

-- the number whose digits in base b, most significant first, are so many bits of a word from one of them on
abbrev pub piece_in_base : ℕ → ℕ → ℕ → ℕ → ℕ
piece_in_base b word from size = number_with_digits b (listed size (λ j. bit_at word (from + j)))

-- the numbers in base b of four pieces of a word of one size, one after another from the lowest bit on
abbrev pub pieces_in_base : ℕ → ℕ → ℕ → List ℕ
pieces_in_base b word size =
    piece_in_base b word 0 size ∷ piece_in_base b word size size ∷ piece_in_base b word (2 * size) size
    ∷ piece_in_base b word (3 * size) size ∷ []
