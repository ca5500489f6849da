use Rattle.std.proofs.Common.{◌*◌}
use Rattle.axe_lane.specs.Trits.{HasSumBetween}
use Rattle.axe_lane.proofs.trits.add_trits.Given as goal

abbrev pub invariant-loop-block : goal.invariant-loop-block
invariant-loop-block l = HasSumBetween 0 (l.block * 4) l.fn.ones l.fn.twos l.more_ones l.more_twos l.ones l.twos
