-- How long a name may be, how many generators a module may have, and how many words are tried.
use Rattle.std.specs.Prelude.{ℕ}

-- the most bytes that the name of a file has
abbrev pub most_name_bytes : ℕ
most_name_bytes = 100

-- the most generators that a module has
abbrev pub most_generators : ℕ
most_generators = 16

-- the most words that are tried after word 0
abbrev pub most_words : ℕ
most_words = 10000
