use Rattle.std.proofs.Common.{◌≡◌, ◌+◌, ◌*◌, length}
use Rattle.axe_row.specs.Rows.{IsRow}
use Rattle.axe_matrix.specs.ValueTerms.{places_of_value}
use Rattle.axe_matrix.proofs.DirectRows.{so_many_terms}
use Rattle.axe_matrix.proofs.Matrix.add_held_at.Given as goal

abbrev pub invariant-loop-at : goal.invariant-loop-at
invariant-loop-at g l = record {
  field : l.held.order ≡ l.self.order;
  as_long : length l.held.entries ≡ length l.fn.held.entries;
  so_far : l.held.entries ≡ so_many_terms l.self l.fn.held.entries l.scalar (places_of_value l.value l.vector.entries) (l.at * 64 + 0);
  well_formed : IsRow l.held;
}
