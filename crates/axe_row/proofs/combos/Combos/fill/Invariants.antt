use Rattle.std.proofs.Common.{◌≡◌, ◌^◌}
use Rattle.axe_field.specs.Order.{order_number}
use Rattle.axe_row.proofs.CombinationLaws.{IsFilledWith, last_entries}
use Rattle.axe_row.proofs.combos.Combos.fill.Given as goal

abbrev pub invariant-loop-at : goal.invariant-loop-at
invariant-loop-at l = record {
  power : l.filled ≡ order_number l.fn.self.order ^ l.at;
  rows : IsFilledWith (last_entries l.at l.rows) l.fn.self l.self;
}
