-- The limits that every matrix keeps.
use Rattle.std.specs.Prelude.{ℕ}

-- the most rows that a matrix has
abbrev pub most_rows : ℕ
most_rows = 4096

-- the most columns that a matrix has
abbrev pub most_columns : ℕ
most_columns = 4096
