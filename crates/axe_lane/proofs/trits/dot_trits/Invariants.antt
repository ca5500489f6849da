use Rattle.std.proofs.Common.{◌≡◌, ◌%◌}
use Rattle.axe_lane.proofs.TritDots.{trits_to}
use Rattle.axe_lane.proofs.trits.dot_trits.Given as goal

abbrev pub invariant-loop-at : goal.invariant-loop-at
invariant-loop-at l = l.sum ≡ trits_to l.at l.ones l.twos l.other_ones l.other_twos % 3
