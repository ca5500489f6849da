use Rattle.std.proofs.Common.{◌*◌}
use Rattle.axe_lane.specs.Trits.{AreMadeBetween}
use Rattle.axe_lane.proofs.TwoMultiples.{with_multiples}
use Rattle.axe_lane.proofs.trits.add_multiples.Given as goal

abbrev pub invariant-loop-pair : goal.invariant-loop-pair
invariant-loop-pair g l =
    AreMadeBetween 0 (l.pair * 2) (with_multiples g.row.P g.row.Q l.fn.ones l.fn.twos l.a.0.now l.a.1.now l.b.0.now l.b.1.now) l.fn.ones l.fn.twos l.ones l.twos
    × AreMadeBetween 0 (l.pair * 2) (with_multiples g.row.R g.row.S l.fn.second_ones l.fn.second_twos l.a.0.now l.a.1.now l.b.0.now l.b.1.now)
    l.fn.second_ones l.fn.second_twos l.second_ones l.second_twos
