use Rattle.std.proofs.Common.{length, ap, sym, ◌∙◌, arith}
use Rattle.axe_field.specs.NumberFields.{number_field}
use Rattle.axe_row.specs.Rows.{RowValue}
use Rattle.axe_row.proofs.CombinationLaws.{length-combination}
use Rattle.axe_norton.proofs.NullRowLaws.{first_power, one_power_more}
use Rattle.axe_norton.proofs.null_rows.powers.Goals as goal

pub loop-place-init : goal.loop-place-init
loop-place-init c =
    first_power c.args.matrix.now c.args.vector.entries _ _ c.in_ok-rows.rows c.append.new.self c.field.ensures.order
    c.cols.ensures.count c.in_ok-rows.ensures.no_rows c.in_ok-append.ensures.appended c.in_ok-append.ensures.well_formed

pub append-requires-in-loop-place-clause-fits : goal.append-requires-in-loop-place-clause-fits
append-requires-in-loop-place-clause-fits c =
    ap (λ (r : RowValue). length r.entries) c.in_ok-row.ensures.product
    ∙ length-combination (number_field c.args.matrix.now.order) c.args.matrix.now.cols _ c.args.matrix.now.rows
    ∙ sym c.loop-place.invariant.columns

pub loop-place-preserved : goal.loop-place-preserved
loop-place-preserved c =
    one_power_more c.args.matrix.now c.args.vector.entries c.loop-place.place c.loop-place.rows
    c.append-in-loop-place.new.self c.row.result.now c.in_ok-row.row c.requires.square c.loop-place.invariant
    (omega (arith, c.loop-place.auto.place)) c.row.ensures.value c.in_ok-row.ensures.product
    c.in_ok-append-2.ensures.appended c.in_ok-append-2.ensures.well_formed
