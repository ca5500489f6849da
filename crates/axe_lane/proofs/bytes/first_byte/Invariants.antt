use Rattle.axe_lane.specs.Entries.{AreZerosBefore}
use Rattle.axe_lane.proofs.bytes.first_byte.Given as goal

abbrev pub invariant-loop-at : goal.invariant-loop-at
invariant-loop-at l = AreZerosBefore l.bytes l.at
