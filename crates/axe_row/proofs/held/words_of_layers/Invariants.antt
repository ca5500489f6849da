use Rattle.axe_row.proofs.HeldLaws.{HaveLayersBelow}
use Rattle.axe_row.proofs.held.words_of_layers.Given as goal

abbrev pub invariant-loop-at : goal.invariant-loop-at
invariant-loop-at g l = HaveLayersBelow g.row.W l.at l.from_ones l.from_twos l.ones l.twos
