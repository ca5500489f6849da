use Rattle.std.proofs.Common.{length, sym, ap, ◌∙◌, arith}
use Rattle.axe_row.specs.Rows.{RowValue}
use Rattle.axe_matrix.proofs.PartialMatrices.{IsPartialMatrix-none, IsPartialMatrix-more}
use Rattle.axe_action.specs.declared.known_rows.KnownRow.TheVariants.{UnitVector}
use Rattle.axe_action.proofs.KnownRowLaws.{row_in-length, rows_in-all}
use Rattle.axe_action.proofs.known_rows.put_rows.Goals as goal

pub loop-known-init : goal.loop-known-init
loop-known-init c = IsPartialMatrix-none _ _ _ _ _ _ c.in_ok-matrix.ensures.no_rows c.in_ok-matrix.ensures.well_formed c.field.ensures.order c.cols.ensures.count

pub known_row-requires : goal.known_row-requires
known_row-requires c = c.requires.within c.loop-known.known-index (UnitVector 0) c.loop-known-test.true

pub append-requires-clause-field : goal.append-requires-clause-field
append-requires-clause-field c = ap (λ (row : RowValue). row.order) c.in_ok-row.ensures ∙ sym c.loop-known.invariant.field

pub append-requires-clause-fits : goal.append-requires-clause-fits
append-requires-clause-fits c =
    ap (λ (row : RowValue). length row.entries) c.in_ok-row.ensures
    ∙ row_in-length c.args.products.now _ c.cols.ensures.well_formed (c.requires.within c.loop-known.known-index (UnitVector 0) c.loop-known-test.true)
    ∙ sym c.loop-known.invariant.columns

pub append-requires-clause-room : goal.append-requires-clause-room
append-requires-clause-room c = omega (arith, c.loop-known.invariant.count, c.loop-known-test.true, c.requires.rows_fit)

pub loop-known-preserved : goal.loop-known-preserved
loop-known-preserved c =
    IsPartialMatrix-more _ _ _ _ _ _ _ c.loop-known.invariant c.in_ok-append.ensures.appended c.append.ensures.well_formed
    (ap (λ (r : RowValue). r.entries) c.in_ok-row.ensures)

pub returns-clause-rows : goal.returns-clause-rows
returns-clause-rows c =
    rows_in-all c.args.products.now c.args.rows.now _ _ c.loop-known.invariant (omega (arith, c.loop-known-test.false, c.loop-known.auto.known-index-end))
