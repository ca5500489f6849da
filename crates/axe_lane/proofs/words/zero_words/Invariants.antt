use Rattle.std.proofs.Common.{◌*◌}
use Rattle.axe_lane.specs.Entries.{AreZerosBefore}
use Rattle.axe_lane.proofs.words.zero_words.Given as goal

abbrev pub invariant-loop-block : goal.invariant-loop-block
invariant-loop-block l = AreZerosBefore l.words (l.block * 8)
