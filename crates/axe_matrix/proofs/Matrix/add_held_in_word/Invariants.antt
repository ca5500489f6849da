use Rattle.std.proofs.Common.{◌≡◌, length}
use Rattle.axe_row.specs.Rows.{IsRow}
use Rattle.axe_matrix.specs.ValueTerms.{places_of_value}
use Rattle.axe_matrix.proofs.ValuePlaces.{AreAdded}
use Rattle.axe_matrix.proofs.Matrix.add_held_in_word.Given as goal

abbrev pub invariant-loop-places : goal.invariant-loop-places
invariant-loop-places g l = record {
  field : l.held.order ≡ l.self.order;
  as_long : length l.held.entries ≡ length l.fn.held.entries;
  added : AreAdded l.self l.fn.held.entries (places_of_value l.value l.vector.entries) l.scalar l.at l.places l.held.entries;
  well_formed : IsRow l.held;
}

abbrev pub decreases-loop-places : goal.decreases-loop-places
decreases-loop-places g l = l.places
