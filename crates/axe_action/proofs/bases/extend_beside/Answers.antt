use Rattle.std.proofs.Common.{ap, arith}
use Rattle.axe_matrix.specs.Matrices.{IsMatrix}
use Rattle.std.proofs.lemmas.Result.{IfOk-from_err}
use Rattle.axe_echelon.proofs.Exits.{no_memory}
use Rattle.axe_algebra.specs.Lists.{unit_row}
use Rattle.axe_action.proofs.BasisLaws.{extended_none, extended_at_pivot, extended_more, extended_has_room, all_rows, pivot_of_span, no_pivot_of_span}
use Rattle.axe_action.proofs.bases.extend_beside.Goals.{then-not-is_pivot+in_ok-append_unit, else-not-is_pivot}
use Rattle.axe_action.proofs.bases.extend_beside.Goals as goal

pub loop-column-init : goal.loop-column-init
loop-column-init c = extended_none c.args.rows.now c.in_ok-extended.extended c.in_ok-extended.ensures.copied c.in_ok-extended.ensures.well_formed

pub append_unit-requires-clause-below : goal.append_unit-requires-clause-below
append_unit-requires-clause-below c = omega (arith, c.loop-column-test.true, c.cols-column-end.ensures.count, c.loop-column.invariant.columns)

pub append_unit-requires-clause-room : goal.append_unit-requires-clause-room
append_unit-requires-clause-room c =
    extended_has_room c.args.rows.now c.loop-column.column c.loop-column.extended c.cols-column-end.ensures.well_formed c.requires.independent c.loop-column.invariant
    (no_pivot_of_span c.args.rows.now c.args.span.now c.loop-column.column c.is_pivot.result (all_rows c.args.rows.now c.args.span.now c.requires.independent c.requires.span) c.is_pivot.ensures c.if-not-is_pivot.true)
    (omega (arith, c.loop-column-test.true, c.cols-column-end.ensures.count))

pub loop-column-preserved : goal.loop-column-preserved
loop-column-preserved c =
    elim c.if-not-is_pivot.branch [
      | then-not-is_pivot+in_ok-append_unit w ↦
          rw w.extended-is (extended_more c.args.rows.now c.loop-column.column c.loop-column.extended w.append_unit.new.matrix
          (unit_row c.loop-column.extended.cols c.loop-column.column) c.loop-column.invariant
          (no_pivot_of_span c.args.rows.now c.args.span.now c.loop-column.column c.is_pivot.result (all_rows c.args.rows.now c.args.span.now c.requires.independent c.requires.span) c.is_pivot.ensures
          w.if-not-is_pivot.true)
          (ap (λ n. unit_row n c.loop-column.column) c.loop-column.invariant.columns) w.in_ok-append_unit.ensures.appended w.append_unit.ensures.well_formed)
      | else-not-is_pivot w ↦
          rw w.extended-is (extended_at_pivot c.args.rows.now c.loop-column.column c.loop-column.extended c.loop-column.invariant
          (pivot_of_span c.args.rows.now c.args.span.now c.loop-column.column (all_rows c.args.rows.now c.args.span.now c.requires.independent c.requires.span) (c.is_pivot.ensures.0 w.if-not-is_pivot.false)))
    ]

pub returns-in_err-extended-clause-extended : goal.returns-in_err-extended-clause-extended
returns-in_err-extended-clause-extended c = no_memory _ c.from_residual.result _ c.from_residual.ensures.1 c.in_err-extended.ensures.copied

pub returns-in_err-extended-clause-well_formed : goal.returns-in_err-extended-clause-well_formed
returns-in_err-extended-clause-well_formed c = IfOk-from_err c.from_residual.result IsMatrix c.from_residual.ensures.0

pub returns-in_err-append_unit-clause-extended : goal.returns-in_err-append_unit-clause-extended
returns-in_err-append_unit-clause-extended c = no_memory _ c.from_residual-in_err-append_unit.result _ c.from_residual-in_err-append_unit.ensures.1 c.in_err-append_unit.ensures.appended

pub returns-in_err-append_unit-clause-well_formed : goal.returns-in_err-append_unit-clause-well_formed
returns-in_err-append_unit-clause-well_formed c = IfOk-from_err c.from_residual-in_err-append_unit.result IsMatrix c.from_residual-in_err-append_unit.ensures.0
