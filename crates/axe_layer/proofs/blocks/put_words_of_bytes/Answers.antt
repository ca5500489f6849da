use Rattle.std.proofs.Common.{rules}
use Rattle.axe_layer.proofs.blocks.put_words_of_bytes.Goals as goal

pub loop-place-preserved : goal.loop-place-preserved
loop-place-preserved c = search rules
