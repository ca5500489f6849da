-- What holds of rows as values: when they are equal, and which are well formed.
use Rattle.std.proofs.Common.{◌≡◌, ℕ, replicate}
use Rattle.std.proofs.lemmas.List.Elements.{All-replicate}
use Rattle.axe_field.specs.Order.{Order, IsElement}
use Rattle.axe_field.proofs.Orders.{zero_is_element}
use Rattle.axe_row.specs.Rows.{RowValue, IsRow}

-- rows with equal parts are equal
pub same_row : (a b : RowValue) → a.order ≡ b.order → a.entries ≡ b.entries → a ≡ b
same_row a b e f = λ i. record { order = e i; entries = f i }

-- a row of zeros
pub IsRow-zero : (o : Order) (n : ℕ) → IsRow (record { order = o; entries = replicate n 0 })
IsRow-zero o n = record { elements = All-replicate (IsElement o) n 0 (zero_is_element o) }
