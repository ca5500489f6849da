-- The limits of words, and of points that are gone over.
use Rattle.std.specs.Prelude.{ℕ}

-- the most terms that a word has
abbrev pub most_terms : ℕ
most_terms = 4

-- the most generator numbers that a term of a word has
abbrev pub most_numbers : ℕ
most_numbers = 6

-- the most points that are gone over one after the other
abbrev pub most_points_in_turn : ℕ
most_points_in_turn = 4095
