-- The rows that fill the table are over its field, and as long as its rows.
use Rattle.std.proofs.Common.{◌≡◌, length, ap, sym, ◌∙◌}
use Rattle.axe_row.specs.Combinations.{CombosValue}
use Rattle.axe_row.specs.Rows.{RowValue}
use Rattle.axe_row_tests.proofs.TwoRows.{each_of_two}
use Rattle.axe_row_tests.proofs.row_sums.adds_combinations.Goals as goal

pub fill-requires-clause-field : goal.fill-requires-clause-field
fill-requires-clause-field g c =
    let table : c.in_ok-table.table.order ≡ c.args.first.order =
    ap (λ (table : CombosValue). table.order) c.in_ok-table.ensures.zeros ∙ c.field.ensures.order in
    each_of_two (λ (row : RowValue). row.order ≡ c.in_ok-table.table.order) c.args.first c.args.second (sym table)
    (c.assert_shape.ensures.field ∙ c.field.ensures.order ∙ sym table)

pub fill-requires-clause-fits : goal.fill-requires-clause-fits
fill-requires-clause-fits g c =
    let table : c.in_ok-table.table.len ≡ length c.args.first.entries =
    ap (λ (table : CombosValue). table.len) c.in_ok-table.ensures.zeros ∙ c.len-len.ensures.count in
    each_of_two (λ (row : RowValue). length row.entries ≡ c.in_ok-table.table.len) c.args.first c.args.second (sym table)
    (c.assert_shape.ensures.length ∙ c.len-len.ensures.count ∙ sym table)
