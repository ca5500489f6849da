-- How long files, and the lines and the numerals of texts, may be.
use Rattle.std.specs.Prelude.{ℕ}

-- the most bytes that a packed file has: 16 MiB, that is 16 times 2^20
abbrev pub most_packed_bytes : ℕ
most_packed_bytes = 16777216

-- the most bytes that a packed file of a module has: 256 MiB, that is 256 times 2^20
abbrev pub most_module_bytes : ℕ
most_module_bytes = 268435456

-- the most generators of a module in a file
abbrev pub most_generators : ℕ
most_generators = 16

-- the most bytes that a text file has: 64 MiB, that is 64 times 2^20
abbrev pub most_text_bytes : ℕ
most_text_bytes = 67108864

-- how many digits a line of a written text has, but for the last of a row
abbrev pub digits_per_line : ℕ
digits_per_line = 80

-- the most digits that a numeral in the header of a text has
abbrev pub most_numeral_digits : ℕ
most_numeral_digits = 9
