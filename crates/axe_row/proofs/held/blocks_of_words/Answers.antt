use Rattle.axe_row.proofs.HeldLaws.{HaveWordsBelow-more}
use Rattle.axe_row.proofs.held.blocks_of_words.Goals as goal

pub loop-at-preserved : goal.loop-at-preserved
loop-at-preserved g c =
    HaveWordsBelow-more g.row.W c.loop-at.at c.args.ones.now c.args.twos.now c.args.high_ones.now c.args.high_twos.now _ c.loop-at.invariant c.loop-at-test.true
