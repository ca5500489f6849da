use Rattle.std.proofs.Common.{◌≡◌, length}
use Rattle.axe_row.specs.Rows.{IsRow}
use Rattle.axe_matrix.specs.ValueTerms.{places_of_value, row_with_waiting, AreWaiting}
use Rattle.axe_matrix.proofs.ValuePlaces.{AreAdded}
use Rattle.axe_matrix.proofs.Matrix.add_rows_in_word.Given as goal

abbrev pub invariant-loop-places : goal.invariant-loop-places
invariant-loop-places l = record {
  field : l.row.order ≡ l.self.order;
  as_long : length l.row.entries ≡ length l.fn.row.entries;
  waiting : AreWaiting l.self l.waiting;
  added : AreAdded l.self (row_with_waiting l.self l.fn.row l.fn.waiting).entries (places_of_value l.value l.vector.entries) 1 l.at l.places
      (row_with_waiting l.self l.row l.waiting).entries;
  well_formed : IsRow l.row;
}

abbrev pub decreases-loop-places : goal.decreases-loop-places
decreases-loop-places l = l.places
