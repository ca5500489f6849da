use Rattle.std.proofs.Common.{◌*◌, ◌/◌, ◌≤◌}
use Rattle.axe_lane.specs.Entries.{AreZerosBetween}
use Rattle.axe_row.proofs.Row.next_by_words.Given as goal

abbrev pub invariant-loop-at : goal.invariant-loop-at
invariant-loop-at l = record {
  begun : l.start / 64 ≤ l.at;
  none : AreZerosBetween l.self.entries l.start (l.at * 64);
}
