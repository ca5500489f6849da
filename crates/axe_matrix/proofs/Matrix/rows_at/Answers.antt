use Rattle.std.proofs.Common.{length, sym, ap, ◌∙◌, arith}
use Rattle.axe_row.specs.Rows.{RowValue}
use Rattle.axe_matrix.proofs.ChosenRows.{rows_at-all}
use Rattle.axe_matrix.proofs.PartialMatrices.{IsPartialMatrix-none, IsPartialMatrix-more}
use Rattle.axe_matrix.proofs.Matrix.rows_at.Goals as goal

pub loop-place-init : goal.loop-place-init
loop-place-init c = IsPartialMatrix-none _ _ _ _ _ _ c.in_ok-chosen.ensures.no_rows c.in_ok-chosen.ensures.well_formed c.field.ensures.order c.cols.ensures.count

pub append-requires-clause-fits : goal.append-requires-clause-fits
append-requires-clause-fits c =
    ap (λ (row : RowValue). length row.entries) c.in_ok-row.ensures.copied ∙ c.row.ensures.as_long ∙ sym c.loop-place.invariant.columns

pub loop-place-preserved : goal.loop-place-preserved
loop-place-preserved c =
    let row = c.in_ok-row.ensures.copied ∙ c.row.ensures.value in
    IsPartialMatrix-more _ _ _ _ _ _ _ c.loop-place.invariant c.in_ok-append.ensures.appended c.append.ensures.well_formed (ap (λ (r : RowValue). r.entries) row)

pub returns-clause-rows : goal.returns-clause-rows
returns-clause-rows c =
    rows_at-all c.args.self.now c.args.places.now _ _ c.loop-place.invariant (omega (arith, c.loop-place-test.false, c.loop-place.auto.place-index-end))
