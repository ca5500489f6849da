use Rattle.std.proofs.Common.{◌≡◌, length, arith, sym, ◌∙◌, ap}
use Rattle.std.proofs.lemmas.List.{length-reverse}
use Rattle.axe_row.specs.Rows.{RowValue}
use Rattle.axe_echelon.specs.Mirrored.{mirrored_row}
use Rattle.axe_echelon.proofs.Exits.{no_memory}
use Rattle.axe_echelon.proofs.MirroredRows.{mirrored_rows_none, mirrored_rows_more, mirrored_rows_all}
use Rattle.axe_echelon.proofs.mirrors.mirrored_matrix.Goals as goal

pub loop-index-init : goal.loop-index-init
loop-index-init c =
    mirrored_rows_none c.args.matrix.now c.in_ok-mirrored.mirrored _ _ c.in_ok-mirrored.ensures.no_rows c.field.ensures.order c.cols.ensures.count
    c.in_ok-mirrored.ensures.well_formed

pub append-requires-clause-field : goal.append-requires-clause-field
append-requires-clause-field c =
    ap (λ (r : RowValue). r.order) (c.in_ok-row.ensures ∙ ap mirrored_row c.row.ensures.value) ∙ sym c.loop-index.invariant.field

pub append-requires-clause-fits : goal.append-requires-clause-fits
append-requires-clause-fits c =
    ap (λ (r : RowValue). length r.entries) c.in_ok-row.ensures ∙ length-reverse c.row.result.now.entries ∙ c.row.ensures.as_long
    ∙ sym c.loop-index.invariant.columns

pub append-requires-clause-room : goal.append-requires-clause-room
append-requires-clause-room c =
    omega (arith, c.loop-index.invariant.count, c.loop-index-test.true, c.rows-index-end.ensures.count, c.rows-index-end.ensures.well_formed.rows_fit)

pub loop-index-preserved : goal.loop-index-preserved
loop-index-preserved c =
    mirrored_rows_more c.loop-index.index c.args.matrix.now c.loop-index.mirrored _ c.in_ok-row.row c.loop-index.invariant
    (c.in_ok-row.ensures ∙ ap mirrored_row c.row.ensures.value) c.in_ok-append.ensures.appended c.append.ensures.well_formed

pub returns-clause-mirrored : goal.returns-clause-mirrored
returns-clause-mirrored c =
    let all : c.loop-index.index ≡ length c.args.matrix.now.rows =
    omega (arith, c.loop-index-test.false, c.loop-index.auto.index-end, c.rows-index-end.ensures.count) in
    mirrored_rows_all c.loop-index.index c.args.matrix.now c.loop-index.mirrored c.loop-index.invariant c.rows.ensures.well_formed all

pub returns-in_err-mirrored-clause-mirrored : goal.returns-in_err-mirrored-clause-mirrored
returns-in_err-mirrored-clause-mirrored c = no_memory _ c.from_residual.result _ c.from_residual.ensures.1 c.in_err-mirrored.ensures.no_rows

pub returns-in_err-row-clause-mirrored : goal.returns-in_err-row-clause-mirrored
returns-in_err-row-clause-mirrored c = no_memory _ c.from_residual-in_err-row.result _ c.from_residual-in_err-row.ensures.1 c.in_err-row.ensures

pub returns-in_err-append-clause-mirrored : goal.returns-in_err-append-clause-mirrored
returns-in_err-append-clause-mirrored c =
    no_memory _ c.from_residual-in_err-append.result _ c.from_residual-in_err-append.ensures.1 c.in_err-append.ensures.appended
