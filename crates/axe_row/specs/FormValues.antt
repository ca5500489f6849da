-- Rows of the values of linear forms.
use Rattle.std.specs.Prelude.{ℕ, List, map}
use Rattle.axe_field.specs.Forms.{prime_order, form_value}
use Rattle.axe_row.specs.Rows.{RowValue}

-- the row over the prime field of the values of a linear form at a row's entries
abbrev pub values_of_form : List ℕ → RowValue → RowValue
values_of_form form row = record { order = prime_order row.order; entries = map (form_value row.order form) row.entries }
