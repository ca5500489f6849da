use Rattle.std.proofs.Common.{◌≡◌, length}
use Rattle.axe_row.specs.Rows.{IsRow}
use Rattle.axe_matrix.proofs.ValuePowers.{value_at, HasValues}
use Rattle.axe_matrix.proofs.Matrix.add_values_held.Given as goal

abbrev pub invariant-loop : goal.invariant-loop
invariant-loop g l = record {
  as_long : length l.held.entries ≡ length l.fn.held.entries;
  value : l.value ≡ value_at l.self.order l.counter;
  so_far : HasValues l.self l.fn.held.entries l.vector.entries l.counter l.held;
  well_formed : IsRow l.held;
}
