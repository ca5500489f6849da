use Rattle.std.proofs.Common.{slice_index, refl, ap, ◌∙◌}
use Rattle.axe_row.specs.Operations.{row_with_multiple}
use Rattle.axe_row.specs.Rows.{RowValue}
use Rattle.axe_matrix.specs.Matrices.{row_of}
use Rattle.axe_matrix.proofs.WaitingRows.{one_more_row_at, no_rows_at}
use Rattle.axe_matrix.proofs.Matrix.add_waiting.Goals as goal

pub loop-place-init : goal.loop-place-init
loop-place-init c = record {
  field = c.requires.row_field;
  as_long = refl;
  so_far = no_rows_at c.args.self.now c.args.row.now c.args.waiting.now.indices;
  well_formed = c.len.ensures.well_formed;
}

pub loop-place-preserved : goal.loop-place-preserved
loop-place-preserved c =
    let invariant = c.loop-place.invariant in
    record {
      field = ap (λ (r : RowValue). r.order) c.add_row.ensures.sum ∙ invariant.field;
      as_long = c.add_row.ensures.as_long ∙ invariant.as_long;
      so_far =
          c.add_row.ensures.sum
          ∙ ap (λ (r : RowValue). row_with_multiple c.loop-place.row 1 r) c.row.ensures.value
          ∙ ap (λ (r : RowValue). row_with_multiple r 1 (row_of c.args.self.now (slice_index c.args.waiting.now.indices c.loop-place.place))) invariant.so_far
          ∙ one_more_row_at c.args.self.now c.args.row.now c.args.waiting.now.indices c.loop-place.place;
      well_formed = c.add_row.ensures.well_formed;
    }
