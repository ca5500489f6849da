use Rattle.std.proofs.Common.{◌*◌, ◌≤◌}
use Rattle.axe_lane.specs.Entries.{AreZerosBetween}
use Rattle.axe_layer.specs.Supports.{restricted}
use Rattle.axe_row.proofs.Row.next_within_from.Given as goal

abbrev pub invariant-loop-at : goal.invariant-loop-at
invariant-loop-at l = record {
  begun : l.first ≤ l.at;
  none : AreZerosBetween (restricted l.places l.self.entries) (l.first * 64) (l.at * 64);
}
