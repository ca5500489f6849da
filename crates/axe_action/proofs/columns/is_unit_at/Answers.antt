use Rattle.std.proofs.Common.{◌≡◌, length, slice_index, ap, sym, ◌∙◌, arith}
use Rattle.std.proofs.lemmas.List.{length-map}
use Rattle.axe_algebra.specs.Lists.{unit_row}
use Rattle.axe_row.specs.Rows.{RowValue}
use Rattle.axe_action.proofs.ReducedRows.{unit_exactly}
use Rattle.axe_action.proofs.columns.is_unit_at.Goals as goal

pub unit-requires : goal.unit-requires
unit-requires c =
    let long : length c.in_ok-entries.entries.entries ≡ length c.args.columns.now =
    ap (λ (r : RowValue). length r.entries) c.in_ok-entries.ensures.selected ∙ length-map c.args.columns.now (slice_index c.args.row.now.entries) in
    omega (arith, long, c.len.ensures.count, c.requires.below)

pub returns : goal.returns
returns c =
    let long : c.len.result ≡ length c.args.columns.now =
    c.len.ensures.count ∙ ap (λ (r : RowValue). length r.entries) c.in_ok-entries.ensures.selected
    ∙ length-map c.args.columns.now (slice_index c.args.row.now.entries) in
    unit_exactly c.args.columns.now c.args.row.now.entries c.args.index c.in_ok-entries.entries c.in_ok-unit.unit c.same.result
    (ap (λ (r : RowValue). r.order) c.in_ok-entries.ensures.selected ∙ sym c.field.ensures.order ∙ sym (ap (λ (r : RowValue). r.order) c.in_ok-unit.ensures.unit))
    (ap (λ (r : RowValue). r.entries) c.in_ok-entries.ensures.selected)
    (ap (λ (r : RowValue). r.entries) c.in_ok-unit.ensures.unit ∙ ap (λ count. unit_row count c.args.index) long) c.same.ensures
