use Rattle.axe_lane.specs.Entries.{AreZerosBefore}
use Rattle.axe_lane.proofs.words.first_nonzero_word.Given as goal

abbrev pub invariant-loop-at : goal.invariant-loop-at
invariant-loop-at l = AreZerosBefore l.words l.at
