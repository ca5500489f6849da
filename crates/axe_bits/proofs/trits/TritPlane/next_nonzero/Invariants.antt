use Rattle.std.proofs.Common.{◌*◌, ◌/◌, ◌≤◌}
use Rattle.axe_lane.specs.Entries.{AreZerosBetween}
use Rattle.axe_bits.proofs.trits.TritPlane.next_nonzero.Given as goal

abbrev pub invariant-loop-at : goal.invariant-loop-at
invariant-loop-at l = record {
  begun : l.start / 64 ≤ l.at;
  none : AreZerosBetween l.self l.start (l.at * 64);
}
