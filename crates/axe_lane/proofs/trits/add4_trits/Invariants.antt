use Rattle.std.proofs.Common.{◌*◌}
use Rattle.axe_lane.specs.Trits.{sum_of_five, word_at, AreMadeBetween}
use Rattle.axe_lane.proofs.trits.add4_trits.Given as goal

abbrev pub invariant-loop-pair : goal.invariant-loop-pair
invariant-loop-pair l =
    AreMadeBetween 0 (l.pair * 2)
    (λ k. sum_of_five (word_at l.fn.ones l.fn.twos k) (word_at l.a.0.now l.a.1.now k) (word_at l.b.0.now l.b.1.now k) (word_at l.c.0.now l.c.1.now k) (word_at l.d.0.now l.d.1.now k))
    l.fn.ones l.fn.twos l.ones l.twos
