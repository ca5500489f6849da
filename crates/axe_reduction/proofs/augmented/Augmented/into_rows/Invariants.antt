use Rattle.std.specs.Vec.Iter.{into_iter_items}
use Rattle.axe_reduction.proofs.MovedRows.{ArePairedOf}
use Rattle.axe_reduction.proofs.augmented.Augmented.into_rows.Given as goal

abbrev pub invariant-loop-left : goal.invariant-loop-left
invariant-loop-left l = ArePairedOf l.fn.self l.rows.items (into_iter_items l.left-iterator.a) (into_iter_items l.left-iterator.b)
