-- How large a report and what it names may be.
use Rattle.std.specs.Prelude.{ℕ}

-- the greatest dimension of a module: a matrix has at most so many columns
abbrev pub most_dimension : ℕ
most_dimension = 4096

-- the most generators that a module has
abbrev pub most_generators : ℕ
most_generators = 16

-- the greatest number of a word that is tried
abbrev pub most_words : ℕ
most_words = 10000

-- the most polynomials of its degree that the polynomial of a witness has beside it: order ^ degree is no greater
abbrev pub most_polynomials : ℕ
most_polynomials = 4096

-- the most bytes that a report has: 1 MiB, that is 2^20
abbrev pub most_report_bytes : ℕ
most_report_bytes = 1048576
