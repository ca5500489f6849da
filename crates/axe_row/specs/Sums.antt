-- Fields whose elements are kept in bytes, so that remainders of sums may be taken later.
use Rattle.std.specs.Prelude.{ℕ, ◌<◌}
use Rattle.axe_field.specs.Order.{Order, prime_of}
use Rattle.axe_plane.specs.Sums.{placed}
use Rattle.axe_row.specs.Rows.{RowValue}

-- the field has 5 or 7 elements: a row over it keeps a byte for each entry, which has room for sums of entries
abbrev pub HasSums : Order → Type 0
HasSums o = 3 < prime_of o

-- the row of n entries that has zeros before an index, a row's entries from there on, and zeros after them
abbrev pub placed_row : ℕ → ℕ → RowValue → RowValue
placed_row n start row = record { order = row.order; entries = placed n start row.entries }
