use Rattle.std.proofs.Common.{◌≡◌, length}
use Rattle.axe_row.specs.Rows.{IsRow}
use Rattle.axe_matrix.specs.ValueTerms.{row_with_rows_at}
use Rattle.axe_matrix.proofs.Matrix.add_waiting.Given as goal

abbrev pub invariant-loop-place : goal.invariant-loop-place
invariant-loop-place l = record {
  field : l.row.order ≡ l.self.order;
  as_long : length l.row.entries ≡ length l.fn.row.entries;
  so_far : l.row ≡ row_with_rows_at l.self l.fn.row l.waiting.indices l.place;
  well_formed : IsRow l.row;
}
