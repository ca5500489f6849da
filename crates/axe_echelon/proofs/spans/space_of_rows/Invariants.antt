use Rattle.std.specs.Prelude.{◌++◌, length}
use Rattle.std.specs.Vec.Iter.{into_iter_items}
use Rattle.axe_matrix.specs.RowLists.{AreRowsOf}
use Rattle.axe_echelon.proofs.RowSpaces.{IsRowSpaceOfFirst}
use Rattle.axe_echelon.proofs.spans.space_of_rows.Given as goal

abbrev pub invariant-loop-row : goal.invariant-loop-row
invariant-loop-row l = record {
  rows : AreRowsOf l.fn.matrix (l.yielded ++ into_iter_items l.row-iterator);
  space : IsRowSpaceOfFirst l.fn.matrix (length l.yielded) l.space;
}
