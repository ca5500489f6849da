use Rattle.axe_layer.proofs.BlockBits.{HaveBytes}
use Rattle.axe_layer.proofs.blocks.bytes_of_words.Given as goal

abbrev pub invariant-loop-index : goal.invariant-loop-index
invariant-loop-index l = HaveBytes l.words l.at l.index l.bytes
