use Rattle.axe_row.proofs.HeldLaws.{HaveWordsBelow}
use Rattle.axe_row.proofs.held.blocks_of_words.Given as goal

abbrev pub invariant-loop-at : goal.invariant-loop-at
invariant-loop-at g l = HaveWordsBelow g.row.W l.at l.ones l.twos l.high_ones l.high_twos l.blocks
