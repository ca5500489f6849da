use Rattle.std.proofs.Common.{◌≡◌, ◌≤◌, ◌∙◌, Bool, true, false, [], ap, arith}
use Rattle.axe_echelon.proofs.Exits.{no_memory}
use Rattle.axe_echelon.proofs.EliminationLaws.{room_of_rank}
use Rattle.axe_echelon.proofs.ReducedLaws.{reduced_none, reduced_other, reduced_more, reduced_whole}
use Rattle.axe_echelon.proofs.subspace.Subspace.reduced_rows.Goals.{then-is_pivot+in_ok-row+in_ok-append, else-is_pivot}
use Rattle.axe_echelon.proofs.subspace.Subspace.reduced_rows.Goals as goal

not_both : (b : Bool) → b ≡ true → b ≡ false → ⊥
not_both b t f = cc

pub with_capacity-requires-clause-rows_fit : goal.with_capacity-requires-clause-rows_fit
with_capacity-requires-clause-rows_fit c =
    omega (arith, c.dim.ensures.count, room_of_rank c.args.self.now c.dim.ensures.well_formed, c.dim.ensures.well_formed.columns_fit)

pub loop-column-init : goal.loop-column-init
loop-column-init c = record {
  so_far = reduced_none c.args.self.now c.in_ok-reduced.reduced (c.in_ok-reduced.ensures.no_rows
      ∙ ap (λ o. record { order = o; cols = c.cols.result; rows = [] }) c.field.ensures.order
      ∙ ap (λ n. record { order = c.args.self.now.order; cols = n; rows = [] }) c.cols.ensures.count);
  well_formed = c.in_ok-reduced.ensures.well_formed;
}

pub pivot_row-requires-clause-pivot : goal.pivot_row-requires-clause-pivot
pivot_row-requires-clause-pivot c = c.is_pivot.ensures.0 c.if-is_pivot.true

pub loop-column-preserved : goal.loop-column-preserved
loop-column-preserved c = elim c.if-is_pivot.branch [
  | then-is_pivot+in_ok-row+in_ok-append w ↦ record {
    so_far = rw w.reduced-is (reduced_more c.args.self.now c.loop-column.column c.loop-column.reduced w.append.new.self w.in_ok-row.row c.loop-column.invariant.so_far
        (c.is_pivot.ensures.0 w.if-is_pivot.true) w.in_ok-row.ensures w.in_ok-append.ensures.appended);
    well_formed = rw w.reduced-is w.append.ensures.well_formed;
  }
  | else-is_pivot w ↦ record {
    so_far = rw w.reduced-is (reduced_other c.args.self.now c.loop-column.column c.loop-column.reduced c.loop-column.invariant.so_far
        (λ pivot. not_both c.is_pivot.result (c.is_pivot.ensures.1 pivot) w.if-is_pivot.false));
    well_formed = rw w.reduced-is c.loop-column.invariant.well_formed;
  }
]

pub returns-clause-basis : goal.returns-clause-basis
returns-clause-basis c =
    let whole : c.args.self.now.cols ≤ c.loop-column.column = omega (arith, c.cols-column-end.ensures.count, c.loop-column-test.false) in
    reduced_whole c.args.self.now c.loop-column.column c.loop-column.reduced c.cols.ensures.well_formed c.loop-column.invariant.so_far whole

pub returns-in_err-row-clause-basis : goal.returns-in_err-row-clause-basis
returns-in_err-row-clause-basis c = no_memory _ c.from_residual-in_err-row.result _ c.from_residual-in_err-row.ensures.1 c.in_err-row.ensures

pub returns-in_err-row-clause-matrix_well_formed : goal.returns-in_err-row-clause-matrix_well_formed
returns-in_err-row-clause-matrix_well_formed c = no_memory _ c.from_residual-in_err-row.result _ c.from_residual-in_err-row.ensures.1 c.in_err-row.ensures

pub returns-in_err-append-clause-basis : goal.returns-in_err-append-clause-basis
returns-in_err-append-clause-basis c = no_memory _ c.from_residual-in_err-append.result _ c.from_residual-in_err-append.ensures.1 c.in_err-append.ensures.appended

pub returns-in_err-append-clause-matrix_well_formed : goal.returns-in_err-append-clause-matrix_well_formed
returns-in_err-append-clause-matrix_well_formed c = no_memory _ c.from_residual-in_err-append.result _ c.from_residual-in_err-append.ensures.1 c.in_err-append.ensures.appended
