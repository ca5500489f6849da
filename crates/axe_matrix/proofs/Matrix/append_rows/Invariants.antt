use Rattle.std.proofs.Common.{◌≡◌, ◌+◌, length}
use Rattle.axe_matrix.specs.Matrices.{IsMatrix}
use Rattle.axe_matrix.proofs.Appending.{AreAppended}
use Rattle.axe_matrix.proofs.Matrix.append_rows.Given as goal

abbrev pub invariant-loop-index : goal.invariant-loop-index
invariant-loop-index l = record {
  appended : AreAppended l.fn.self l.other l.index l.self;
  field : l.self.order ≡ l.fn.self.order;
  columns : l.self.cols ≡ l.fn.self.cols;
  count : length l.self.rows ≡ length l.fn.self.rows + l.index;
  well_formed : IsMatrix l.self;
}
