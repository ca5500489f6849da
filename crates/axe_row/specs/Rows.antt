-- A row vector over one of the seven fields.
use Rattle.std.specs.Prelude.{ℕ, ◌+◌, List, [], ◌∷◌, All, slice_index}
use Rattle.axe_algebra.specs.Lists.{listed}
use Rattle.axe_field.specs.Order.{Order, IsElement}

-- a row vector: the order of its field, and the numbers of its entries (any linear algebra text)
pub record RowValue : Type 0 where
  pub order : Order
  pub entries : List ℕ

-- each entry is an element of the field
pub record IsRow (row : RowValue) : Type 0 where
  pub elements : All (IsElement row.order) row.entries

-- the part of a row vector that has so many entries from an index on
abbrev pub part_of : RowValue → ℕ → ℕ → RowValue
part_of row start len = record { order = row.order; entries = listed len (λ j. slice_index row.entries (start + j)) }

-- the entries of a vector at four indices
abbrev pub four_entries : List ℕ → List ℕ → List ℕ
four_entries entries indices =
    slice_index entries (slice_index indices 0) ∷ slice_index entries (slice_index indices 1)
    ∷ slice_index entries (slice_index indices 2) ∷ slice_index entries (slice_index indices 3) ∷ []
