use Rattle.std.proofs.Common.{◌*◌}
use Rattle.axe_lane.specs.Entries.{AreZerosBefore}
use Rattle.axe_lane.proofs.bytes.zero_bytes.Given as goal

abbrev pub invariant-loop-block : goal.invariant-loop-block
invariant-loop-block l = AreZerosBefore l.bytes (l.block * 32)
