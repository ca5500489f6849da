use Rattle.std.proofs.Common.{◌≡◌, ◌+◌, ◌*◌, length}
use Rattle.axe_row.specs.Rows.{IsRow}
use Rattle.axe_matrix.specs.ValueTerms.{places_of_value, row_with_waiting, AreWaiting}
use Rattle.axe_matrix.proofs.DirectRows.{so_many_terms}
use Rattle.axe_matrix.proofs.Matrix.add_rows_at.Given as goal

abbrev pub invariant-loop-at : goal.invariant-loop-at
invariant-loop-at l = record {
  field : l.row.order ≡ l.self.order;
  as_long : length l.row.entries ≡ length l.fn.row.entries;
  waiting : AreWaiting l.self l.waiting;
  so_far : (row_with_waiting l.self l.row l.waiting).entries
      ≡ so_many_terms l.self l.fn.row.entries 1 (places_of_value l.value l.vector.entries) (l.at * 64 + 0);
  well_formed : IsRow l.row;
}
