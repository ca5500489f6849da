use Rattle.std.proofs.Common.{◌++◌, length}
use Rattle.std.specs.Vec.Iter.{into_iter_items}
use Rattle.axe_reduction.specs.AugmentedRows.{AreRowsInOrder, IsReductionOfFirst}
use Rattle.axe_reduction.proofs.few.reduction_of_few.Given as goal

abbrev pub invariant-loop-row : goal.invariant-loop-row
invariant-loop-row l = record {
  left : AreRowsInOrder l.fn.rows (l.yielded ++ into_iter_items l.row-iterator);
  growing : IsReductionOfFirst l.fn.rows (length l.yielded) l.growing;
}
