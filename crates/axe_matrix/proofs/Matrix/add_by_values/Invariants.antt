use Rattle.std.proofs.Common.{◌≡◌, length}
use Rattle.axe_row.specs.Rows.{IsRow}
use Rattle.axe_matrix.proofs.ValuePowers.{value_at, HasValues}
use Rattle.axe_matrix.proofs.Matrix.add_by_values.Given as goal

abbrev pub invariant-loop : goal.invariant-loop
invariant-loop l = record {
  as_long : length l.row.entries ≡ length l.fn.row.entries;
  value : l.value ≡ value_at l.self.order l.counter;
  so_far : HasValues l.self l.fn.row.entries l.vector.entries l.counter l.row;
  well_formed : IsRow l.row;
}
