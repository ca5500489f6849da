use Rattle.std.proofs.Common.{◌≡◌, ◌<◌, ◌≤◌, length, get_or, [], ap, sym, ◌∙◌, arith}
use Rattle.axe_echelon.proofs.Exits.{no_memory}
use Rattle.axe_row.specs.Rows.{RowValue}
use Rattle.axe_echelon.proofs.RowSpaces.{row_space_none, row_space_more, row_space_whole}
use Rattle.axe_echelon.proofs.spans.row_space.Goals as goal

pub loop-index-preserved : goal.loop-index-preserved
loop-index-preserved c =
    let row : c.in_ok-row.row.entries ≡ get_or c.args.matrix.now.rows c.loop-index.index [] =
    ap (λ (r : RowValue). r.entries) (c.in_ok-row.ensures.copied ∙ c.row.ensures.value) in
    let below : c.loop-index.index < length c.args.matrix.now.rows = omega (arith, c.loop-index-test.true, c.rows-index-end.ensures.count) in
    let long : length c.in_ok-row.row.entries ≡ c.loop-index.space.cols =
    ap (λ (r : RowValue). length r.entries) c.in_ok-row.ensures.copied ∙ c.row.ensures.as_long ∙ sym c.loop-index.invariant.columns in
    row_space_more c.args.matrix.now c.loop-index.index c.loop-index.space c.insert.new.self c.in_ok-row.row c.in_ok-insert.field-0 c.loop-index.invariant below
    row long c.in_ok-insert.ensures.inserted c.in_ok-insert.ensures.exactly.1 c.insert.ensures.well_formed

pub returns-clause-span : goal.returns-clause-span
returns-clause-span c =
    let whole : length c.args.matrix.now.rows ≤ c.loop-index.index = omega (arith, c.loop-index-test.false, c.rows-index-end.ensures.count) in
    row_space_whole c.args.matrix.now c.loop-index.index c.loop-index.space c.loop-index.invariant whole

pub loop-index-init : goal.loop-index-init
loop-index-init c =
    row_space_none c.args.matrix.now c.zero-space.result
    (c.zero-space.ensures.no_rows ∙ λ t. record { order = c.field.ensures.order t; cols = c.cols.ensures.count t; rows = [] })
    c.zero-space.ensures.well_formed

pub returns-in_err-row-clause-span : goal.returns-in_err-row-clause-span
returns-in_err-row-clause-span c = no_memory _ c.from_residual.result _ c.from_residual.ensures.1 c.in_err-row.ensures.copied

pub returns-in_err-row-clause-well_formed : goal.returns-in_err-row-clause-well_formed
returns-in_err-row-clause-well_formed c = c.rows-index-end.ensures.well_formed

pub returns-in_err-insert-clause-span : goal.returns-in_err-insert-clause-span
returns-in_err-insert-clause-span c =
    no_memory _ c.from_residual-in_err-insert.result _ c.from_residual-in_err-insert.ensures.1 c.in_err-insert.ensures.inserted

pub returns-in_err-insert-clause-well_formed : goal.returns-in_err-insert-clause-well_formed
returns-in_err-insert-clause-well_formed c = c.rows-index-end.ensures.well_formed

pub returns-clause-well_formed : goal.returns-clause-well_formed
returns-clause-well_formed c = c.rows-index-end.ensures.well_formed
