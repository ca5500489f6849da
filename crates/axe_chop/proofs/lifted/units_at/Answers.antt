use Rattle.std.proofs.Common.{length, refl, ap, ◌∙◌, sym, arith}
use Rattle.axe_algebra.specs.Lists.{unit_row}
use Rattle.axe_algebra.proofs.ListEntries.{listed_length}
use Rattle.axe_row.specs.Rows.{RowValue}
use Rattle.axe_matrix.proofs.PartialMatrices.{IsPartialMatrix-none, IsPartialMatrix-more}
use Rattle.axe_chop.specs.Vectors.{matrix_of_unit_vectors}
use Rattle.axe_chop.proofs.Choosing.{first_rows_all, made_of_number, made_count}
use Rattle.axe_chop.proofs.lifted.units_at.Goals as goal

pub loop-column-init : goal.loop-column-init
loop-column-init c = IsPartialMatrix-none _ _ _ _ _ _ c.in_ok-units.ensures.no_rows c.in_ok-units.ensures.well_formed refl refl

pub append-requires-clause-field : goal.append-requires-clause-field
append-requires-clause-field c = ap (λ (r : RowValue). r.order) c.in_ok-unit.ensures.unit ∙ sym c.loop-column.invariant.field

pub append-requires-clause-fits : goal.append-requires-clause-fits
append-requires-clause-fits c =
    ap (λ (r : RowValue). length r.entries) c.in_ok-unit.ensures.unit ∙ listed_length c.args.dim _ ∙ sym c.loop-column.invariant.columns

pub append-requires-clause-room : goal.append-requires-clause-room
append-requires-clause-room c = omega (arith, c.loop-column.invariant.count, c.loop-column-test.true, c.requires.rows_fit)

pub loop-column-preserved : goal.loop-column-preserved
loop-column-preserved c =
    IsPartialMatrix-more _ _ _ _ _ _ _ c.loop-column.invariant c.in_ok-append.ensures.appended c.append.ensures.well_formed
    (ap (λ (r : RowValue). r.entries) c.in_ok-unit.ensures.unit
    ∙ made_of_number (unit_row c.args.dim) c.args.columns.now c.loop-column.column-index c.loop-column-test.true)

pub returns-clause-units : goal.returns-clause-units
returns-clause-units c =
    first_rows_all (matrix_of_unit_vectors c.args.field c.args.dim c.args.columns.now) c.loop-column.column-index c.loop-column.units
    c.loop-column.invariant
    (omega (arith, c.loop-column-test.false, c.loop-column.auto.column-index-end, made_count (unit_row c.args.dim) c.args.columns.now))

pub returns-clause-well_formed : goal.returns-clause-well_formed
returns-clause-well_formed c = c.loop-column.invariant.well_formed
