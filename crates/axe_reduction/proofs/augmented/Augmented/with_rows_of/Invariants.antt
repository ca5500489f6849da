use Rattle.std.proofs.Common.{◌≡◌, ◌++◌}
use Rattle.std.specs.Vec.Iter.{into_iter_items}
use Rattle.axe_reduction.proofs.BesideRows.{AreOfRows}
use Rattle.axe_reduction.proofs.augmented.Augmented.with_rows_of.Given as goal

abbrev pub invariant-loop-row : goal.invariant-loop-row
invariant-loop-row l = record {
  items : l.yielded ++ into_iter_items l.row-iterator ≡ l.fn.rows.items;
  parts : AreOfRows l.self l.yielded l.left l.right;
}
