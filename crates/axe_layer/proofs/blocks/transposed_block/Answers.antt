use Rattle.axe_layer.proofs.BlockBits.{AreTransposedBelow-more}
use Rattle.axe_layer.proofs.blocks.transposed_block.Goals as goal

pub loop-at-preserved : goal.loop-at-preserved
loop-at-preserved c =
    AreTransposedBelow-more _ c.loop-at.at _ c.bytes_of_words.result _ c.loop-at.invariant c.bytes_of_words.ensures c.put_words_of_bytes.ensures.written
    c.put_words_of_bytes.ensures.kept
