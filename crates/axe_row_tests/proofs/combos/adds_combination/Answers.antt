-- The rows that fill the table are over its field, and as long as its rows.
use Rattle.std.proofs.Common.{◌≡◌, length, ap, sym, ◌∙◌}
use Rattle.axe_row.specs.Combinations.{CombosValue}
use Rattle.axe_row.specs.Rows.{RowValue}
use Rattle.axe_row_tests.proofs.TwoRows.{each_of_two}
use Rattle.axe_row_tests.proofs.combos.adds_combination.Goals as goal

pub fill-requires-clause-field : goal.fill-requires-clause-field
fill-requires-clause-field g c =
    let first : c.in_ok-first-2.first.order ≡ c.in_ok-table.table.order =
    sym (ap (λ (table : CombosValue). table.order) c.in_ok-table.ensures.zeros ∙ c.field-2.ensures.order) in
    each_of_two (λ (row : RowValue). row.order ≡ c.in_ok-table.table.order) c.in_ok-first-2.first c.in_ok-second.second first
    (c.in_ok-second.ensures.field ∙ c.field.ensures.order ∙ first)

pub fill-requires-clause-fits : goal.fill-requires-clause-fits
fill-requires-clause-fits g c =
    let first : length c.in_ok-first-2.first.entries ≡ c.in_ok-table.table.len =
    sym (ap (λ (table : CombosValue). table.len) c.in_ok-table.ensures.zeros ∙ c.len-3.ensures.count) in
    each_of_two (λ (row : RowValue). length row.entries ≡ c.in_ok-table.table.len) c.in_ok-first-2.first c.in_ok-second.second first
    (c.in_ok-second.ensures.length ∙ c.len.ensures.count ∙ first)
