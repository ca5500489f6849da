use Rattle.std.proofs.lemmas.Grind.{common_steps}
use Rattle.std.proofs.Common.{rules, arith, All, map, ◌≡◌, ◌-◌, length, drop, sym, ap, ◌∙◌, subst}
use Rattle.std.specs.Simd.Lanes.{chunk}
use Rattle.std.proofs.lemmas.List.{length-map}
use Rattle.std.proofs.lemmas.List.Elements.{All-drop, All-take}
use Rattle.axe_row.specs.Combinations.{Combines}
use Rattle.axe_row.specs.Rows.{RowValue}
use Rattle.axe_matrix.specs.Matrices.{MatrixValue}
use Rattle.axe_matrix.proofs.RowListLaws.{All-from_entries}
use Rattle.axe_matrix.proofs.TableLaws.{entries_of_piece, combines_past_the_end}
use Rattle.axe_matrix.proofs.products.fill_piece.Goals as goal

pub fill-requires-clause-fits : goal.fill-requires-clause-fits
fill-requires-clause-fits c =
    let columns : c.b.inside.cols ≡ c.args.table.now.len = ap (λ (m : MatrixValue). m.cols) c.b.view_is ∙ sym c.requires.table.long in
    let rows = All-from_entries (λ r. length r ≡ c.args.table.now.len) c.b.inside.rows.items (subst (λ n. All (λ row. length row ≡ n) (map (λ (row : RowValue). row.entries) c.b.inside.rows.items)) columns c.b.invariant.matrix.row_lengths) in
    rw c.deref.ensures.value
    (All-take (λ (row : RowValue). length row.entries ≡ c.args.table.now.len) (c.min-end.result - c.args.at) (drop c.args.at c.b.inside.rows.items)
    (All-drop (λ (row : RowValue). length row.entries ≡ c.args.table.now.len) c.args.at c.b.inside.rows.items rows))

pub returns-then-at-rows-clause-combines : goal.returns-then-at-rows-clause-combines
returns-then-at-rows-clause-combines c =
    let count = c.rows-then-at-rows.ensures.count ∙ ap (λ (m : MatrixValue). length m.rows) (sym c.b.view_is) ∙ length-map c.b.inside.rows.items (λ (row : RowValue). row.entries) in
    let piece = entries_of_piece c.b.inside.rows.items c.args.at c.args.size c.min-end.result (rw (← count) c.min-end.ensures)
    ∙ ap (λ (m : MatrixValue). chunk c.args.at c.args.size m.rows) c.b.view_is in
    subst (λ rows. Combines rows c.fill.new.self) piece (rw (← c.deref.ensures.value) c.fill.ensures.combines)

pub returns-else-at-rows-clause-combines : goal.returns-else-at-rows-clause-combines
returns-else-at-rows-clause-combines c =
    combines_past_the_end c.args.table.now c.args.at c.args.size c.args.b.now.rows c.requires.table.well_formed (rw (← c.rows.ensures.count) c.if-at-rows.false)

pub fill-requires-clause-some : goal.fill-requires-clause-some
fill-requires-clause-some c = search rules

pub fill-requires-clause-room : goal.fill-requires-clause-room
fill-requires-clause-room c = search rules

pub slice_bounds-fill-end : goal.slice_bounds-fill-end
slice_bounds-fill-end c = grind (arith, common_steps)

pub fill-requires-clause-field : goal.fill-requires-clause-field
fill-requires-clause-field c = grind (arith, common_steps)
