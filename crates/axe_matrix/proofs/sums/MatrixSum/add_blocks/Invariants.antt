use Rattle.std.proofs.Common.{◌≡◌, ◌*◌, ◌-◌, length}
use Rattle.axe_matrix.specs.Matrices.{IsMatrix}
use Rattle.axe_matrix.specs.PieceTables.{AreTablesFor}
use Rattle.axe_matrix.specs.Products.{matrix_with_terms}
use Rattle.axe_matrix.proofs.sums.MatrixSum.add_blocks.Given as goal

abbrev pub invariant-loop-at : goal.invariant-loop-at
invariant-loop-at l = record {
  so_far : l.self ≡ matrix_with_terms l.fn.self 1 l.a l.b 0 l.at;
  count : length l.self.rows ≡ length l.fn.self.rows;
  size : l.tables.size ≡ l.size;
  place : l.at ≡ l.block * (4 * l.size);
  tables : AreTablesFor l.fn.self.order l.fn.self.cols l.tables;
  well_formed : IsMatrix l.self;
}

abbrev pub decreases-loop-at : goal.decreases-loop-at
decreases-loop-at l = length l.b.rows - l.at
