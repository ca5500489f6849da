use Rattle.std.proofs.Common.{◌*◌}
use Rattle.axe_layer.proofs.BlockBits.{AreTransposedBelow}
use Rattle.axe_layer.proofs.blocks.transposed_block.Given as goal

abbrev pub invariant-loop-at : goal.invariant-loop-at
invariant-loop-at l = AreTransposedBelow l.block (l.at * 8) l.transposed
