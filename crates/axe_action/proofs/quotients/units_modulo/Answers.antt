use Rattle.std.proofs.Common.{◌<◌, All, arith}
use Rattle.axe_algebra.specs.Lists.{unit_row}
use Rattle.axe_echelon.proofs.Exits.{no_memory}
use Rattle.axe_echelon.specs.Echelons.{IsEchelon}
use Rattle.axe_action.specs.FreeColumns.{IsRowModulo}
use Rattle.axe_action.proofs.QuotientRows.{free_count, free_within, modulo_more}
use Rattle.axe_action.proofs.quotients.units_modulo.Goals as goal

pub with_capacity-requires-clause-columns_fit : goal.with_capacity-requires-clause-columns_fit
with_capacity-requires-clause-columns_fit c =
    let formed : IsEchelon c.args.span.now = c.field.ensures.well_formed in
    omega (arith, free_count c.args.span.now c.args.columns.now formed c.requires.free, formed.columns_fit)

pub unit_modulo-requires-clause-within : goal.unit_modulo-requires-clause-within
unit_modulo-requires-clause-within c =
    coe 1 0 (i. All (λ column. column < c.args.span.now.cols) (c.new-chosen.ensures i)) (free_within c.args.span.now c.args.columns.now c.requires.free)

pub loop-column-preserved : goal.loop-column-preserved
loop-column-preserved c =
    modulo_more c.args.span.now c.args.columns.now (unit_row c.args.span.now.cols) c.loop-column.column c.loop-column.units c.append.new.self c.in_ok-row.row
    c.loop-column.invariant
    (coe 0 1 (i. IsRowModulo c.args.span.now (c.new-chosen.ensures i) (unit_row c.args.span.now.cols c.loop-column.column) c.in_ok-row.row.entries)
    c.in_ok-row.ensures.modulo)
    c.in_ok-append.ensures.appended c.append.ensures.well_formed

pub returns-in_err-row : goal.returns-in_err-row
returns-in_err-row c = no_memory _ c.from_residual-in_err-row.result _ c.from_residual-in_err-row.ensures.1 c.in_err-row.ensures.modulo

pub returns-in_err-append : goal.returns-in_err-append
returns-in_err-append c = no_memory _ c.from_residual-in_err-append.result _ c.from_residual-in_err-append.ensures.1 c.in_err-append.ensures.appended
