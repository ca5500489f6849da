use Rattle.std.proofs.Common.{◌≤◌, ◌≢◌, get_or, [], ap₂, sym, ◌∙◌, arith, true≢false}
use Rattle.axe_echelon.specs.PivotTables.{marks_of}
use Rattle.axe_echelon.specs.Subspaces.{IsPivotRow}
use Rattle.axe_echelon.proofs.Exits.{no_memory}
use Rattle.axe_echelon.proofs.EliminationLaws.{room_of_rank}
use Rattle.axe_echelon.proofs.ReducedLaws.{reduced_whole}
use Rattle.axe_echelon.proofs.LeadingRowLaws.{moved_none, moved_other, moved_more, row_there, column_has_row, pivots_have_room, leads_there, rows_after, room_after, cleared_is_pivot_row}
use Rattle.axe_echelon.proofs.subspace.Subspace.into_reduced_rows.Goals.{Then-is_pivot, After-clear_after, then-is_pivot+in_ok-append, else-is_pivot}
use Rattle.axe_echelon.proofs.subspace.Subspace.into_reduced_rows.Goals as goal

pub with_capacity-requires-clause-rows_fit : goal.with_capacity-requires-clause-rows_fit
with_capacity-requires-clause-rows_fit c =
    omega (arith, c.dim.ensures.count, room_of_rank c.args.self c.dim.ensures.well_formed, c.dim.ensures.well_formed.columns_fit)

pub loop-column-init : goal.loop-column-init
loop-column-init c =
    moved_none _ _ c.self.inside.rows.items c.self.inside.pivots c.args.self c.in_ok-reduced.reduced c.self.invariant c.self.view_is
    (c.in_ok-reduced.ensures.no_rows ∙ ap₂ (λ o n. record { order = o; cols = n; rows = [] }) c.field.ensures.order c.cols-cols.ensures.count)
    c.in_ok-reduced.ensures.well_formed

marked : (c : Then-is_pivot) → get_or (marks_of c.loop-column.pivots) c.loop-column.column 0 ≢ 0
marked c = c.is_pivot.ensures.0 c.if-is_pivot.true

pub take_row-row-requires-clause-place : goal.take_row-row-requires-clause-place
take_row-row-requires-clause-place c = column_has_row c.args.self c.loop-column.column c.loop-column.rows.items c.loop-column.pivots c.loop-column.reduced
    c.loop-column.invariant (marked (goal.at.take_row-row-requires-clause-place c).Then-is_pivot)

pub take_row-row-requires-clause-within : goal.take_row-row-requires-clause-within
take_row-row-requires-clause-within c = row_there c.args.self c.loop-column.column c.loop-column.rows.items c.loop-column.pivots c.loop-column.reduced
    c.loop-column.invariant (marked (goal.at.take_row-row-requires-clause-within c).Then-is_pivot)

pub take_row-row-requires-clause-fits : goal.take_row-row-requires-clause-fits
take_row-row-requires-clause-fits c = pivots_have_room c.args.self c.loop-column.column c.loop-column.rows.items c.loop-column.pivots c.loop-column.reduced
    c.loop-column.invariant (marked (goal.at.take_row-row-requires-clause-fits c).Then-is_pivot)

pub clear_after-requires-clause-within : goal.clear_after-requires-clause-within
clear_after-requires-clause-within c =
    let leads = leads_there c.args.self c.loop-column.column c.loop-column.rows.items c.take_row-row.new.rows.items c.loop-column.pivots
    c.take_row-row.new.pivots c.loop-column.reduced c.take_row-row.result c.loop-column.invariant
    (marked (goal.at.clear_after-requires-clause-within c).Then-is_pivot) c.take_row-row.ensures in
    omega (arith, leads.over.length_is, leads.place)

pub clear_after-requires-clause-room : goal.clear_after-requires-clause-room
clear_after-requires-clause-room c =
    room_after c.args.self c.loop-column.column c.loop-column.rows.items c.take_row-row.new.rows.items c.loop-column.pivots c.take_row-row.new.pivots
    c.loop-column.reduced c.take_row-row.result c.loop-column.invariant (marked (goal.at.clear_after-requires-clause-room c).Then-is_pivot)
    c.take_row-row.ensures

pub clear_after-requires-clause-rows : goal.clear_after-requires-clause-rows
clear_after-requires-clause-rows c = rw c.deref.ensures.value
    (rows_after c.args.self c.loop-column.column c.loop-column.rows.items c.take_row-row.new.rows.items c.loop-column.pivots c.take_row-row.new.pivots
    c.loop-column.reduced c.take_row-row.result c.loop-column.invariant (marked (goal.at.clear_after-requires-clause-rows c).Then-is_pivot)
    c.take_row-row.ensures)

cleared : (c : After-clear_after) → IsPivotRow c.args.self c.loop-column.column c.clear_after.new.row
cleared c =
    cleared_is_pivot_row c.args.self c.loop-column.column c.loop-column.rows.items c.take_row-row.new.rows.items c.loop-column.pivots c.take_row-row.new.pivots
    c.loop-column.reduced c.take_row-row.result c.loop-column.invariant (c.is_pivot.ensures.0 c.if-is_pivot.true) c.take_row-row.ensures c.clear_after.new.row
    (rw (← c.deref.ensures.value) c.clear_after.ensures)

pub append-requires-clause-field : goal.append-requires-clause-field
append-requires-clause-field c =
    (cleared (goal.at.append-requires-clause-field c).After-clear_after).field ∙ sym c.loop-column.invariant.so_far.field

pub append-requires-clause-fits : goal.append-requires-clause-fits
append-requires-clause-fits c =
    (cleared (goal.at.append-requires-clause-fits c).After-clear_after).over.length_is ∙ sym c.loop-column.invariant.so_far.columns

pub loop-column-preserved : goal.loop-column-preserved
loop-column-preserved c = elim c.if-is_pivot.branch [
  | then-is_pivot+in_ok-append w ↦ rw (w.reduced-is, w.rows-is, w.pivots-is) (
      moved_more c.args.self c.loop-column.column c.loop-column.rows.items w.take_row-row.new.rows.items c.loop-column.pivots w.take_row-row.new.pivots
      c.loop-column.reduced w.take_row-row.result c.loop-column.invariant (c.is_pivot.ensures.0 w.if-is_pivot.true) w.take_row-row.ensures
      w.clear_after.new.row (rw (← w.deref.ensures.value) w.clear_after.ensures) w.append.new.self w.in_ok-append.ensures.appended
      w.append.ensures.well_formed)
  | else-is_pivot w ↦ rw (w.reduced-is, w.rows-is, w.pivots-is) (
      moved_other c.args.self c.loop-column.column c.loop-column.rows.items c.loop-column.pivots c.loop-column.reduced c.loop-column.invariant
      (λ there. absurd (true≢false (sym (c.is_pivot.ensures.1 there) ∙ w.if-is_pivot.false))))
]

pub returns-in_err-append-clause-basis : goal.returns-in_err-append-clause-basis
returns-in_err-append-clause-basis c =
    no_memory _ c.from_residual-in_err-append.result _ c.from_residual-in_err-append.ensures.1 c.in_err-append.ensures.appended

pub returns-in_err-append-clause-matrix_well_formed : goal.returns-in_err-append-clause-matrix_well_formed
returns-in_err-append-clause-matrix_well_formed c =
    no_memory _ c.from_residual-in_err-append.result _ c.from_residual-in_err-append.ensures.1 c.in_err-append.ensures.appended

pub returns-clause-basis : goal.returns-clause-basis
returns-clause-basis c =
    let whole : c.args.self.cols ≤ c.loop-column.column = omega (arith, c.cols-cols.ensures.count, c.loop-column-test.false) in
    reduced_whole c.args.self c.loop-column.column c.loop-column.reduced c.cols-cols.ensures.well_formed c.loop-column.invariant.so_far whole

pub returns-clause-matrix_well_formed : goal.returns-clause-matrix_well_formed
returns-clause-matrix_well_formed c = c.loop-column.invariant.well_formed
