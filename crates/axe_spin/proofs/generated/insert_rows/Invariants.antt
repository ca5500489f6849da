use Rattle.std.specs.Prelude.{◌++◌, map}
use Rattle.std.specs.Vec.Iter.{into_iter_items}
use Rattle.axe_row.specs.Rows.{RowValue}
use Rattle.axe_matrix.specs.RowLists.{AreRowsOf}
use Rattle.axe_echelon.specs.Echelons.{IsEchelon}
use Rattle.axe_spin.specs.Blocks.{SpansMore}
use Rattle.axe_spin.proofs.generated.insert_rows.Given as goal

abbrev pub invariant-loop-row : goal.invariant-loop-row
invariant-loop-row l = record {
  rows : AreRowsOf l.fn.rows (l.yielded ++ into_iter_items l.row-iterator);
  more : SpansMore l.fn.space (map (λ (row : RowValue). row.entries) l.yielded) l.space;
  well_formed : IsEchelon l.space;
}
