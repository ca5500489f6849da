use Rattle.std.proofs.Common.{◌++◌, length}
use Rattle.std.specs.Vec.Iter.{into_iter_items}
use Rattle.axe_matrix.specs.RowLists.{AreRowsOf}
use Rattle.axe_action.proofs.BlockLaws.{AreBlocksSoFar}
use Rattle.axe_action.proofs.blocks.blocks_of.Given as goal

abbrev pub invariant-loop-row : goal.invariant-loop-row
invariant-loop-row l = record {
  rows : AreRowsOf l.fn.generator (l.yielded ++ into_iter_items l.row-iterator);
  so_far : AreBlocksSoFar l.fn.generator l.pivots l.columns (length l.yielded) l.blocks;
}
