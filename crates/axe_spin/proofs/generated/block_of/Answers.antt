use Rattle.std.proofs.Common.{◌-◌, length, ap, ◌∙◌, arith}
use Rattle.axe_row.specs.Rows.{RowValue}
use Rattle.axe_matrix.specs.Matrices.{MatrixValue}
use Rattle.axe_echelon.proofs.EliminationLaws.{room_of_rank}
use Rattle.axe_spin.proofs.BlockLaws.{block_count, block_more}
use Rattle.axe_spin.proofs.generated.block_of.Goals as goal

pub with_capacity-requires-clause-rows_fit : goal.with_capacity-requires-clause-rows_fit
with_capacity-requires-clause-rows_fit c =
    omega (arith, c.requires.within, room_of_rank c.args.space.now c.field.ensures.well_formed, c.field.ensures.well_formed.columns_fit)

pub overflow_add-index-end : goal.overflow_add-index-end
overflow_add-index-end c =
    omega (arith, c.requires.within, room_of_rank c.args.space.now c.field.ensures.well_formed, c.field.ensures.well_formed.columns_fit)

pub append-requires-clause-room : goal.append-requires-clause-room
append-requires-clause-room c =
    omega (
      arith,
      ap (λ (b : MatrixValue). length b.rows) c.loop-index.invariant.block,
      block_count c.args.space.now c.args.source (c.loop-index.index - c.args.source),
      c.loop-index-test.true,
      c.requires.within,
      room_of_rank c.args.space.now c.field.ensures.well_formed,
      c.field.ensures.well_formed.columns_fit,
    )

pub loop-index-preserved : goal.loop-index-preserved
loop-index-preserved c = record {
  begun = omega (arith, c.loop-index.invariant.begun);
  block = block_more c.args.space.now c.args.source c.loop-index.index c.loop-index.block c.append.new.self c.in_ok-row.row.entries
      c.loop-index.invariant.begun c.loop-index.invariant.block c.in_ok-append.ensures.appended
      (ap (λ (r : RowValue). r.entries) c.in_ok-row.ensures.copied ∙ ap (λ (r : RowValue). r.entries) c.row.ensures.value);
  well_formed = c.append.ensures.well_formed;
}
