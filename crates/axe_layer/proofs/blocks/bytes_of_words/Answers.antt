use Rattle.std.proofs.Common.{arith}
use Rattle.axe_layer.proofs.BlockBits.{HaveBytes-next}
use Rattle.axe_layer.proofs.blocks.bytes_of_words.Goals as goal

pub loop-index-preserved : goal.loop-index-preserved
loop-index-preserved c =
    HaveBytes-next _ _ c.loop-index.index c.loop-index.bytes c.loop-index.invariant (omega arith)
